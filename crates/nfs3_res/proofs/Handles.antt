-- A handle that may be absent, and that can be spelled, is short.
use Rattle.std.proofs.Common.{◌≡◌, ◌^◌, ◌<◌, ℕ, List, length, Option, Some, None, sym, subst}
use Rattle.std.specs.Prelude.{IfSome}
use Rattle.xdr_grammar.proofs.Fits.{opaque_short}
use Rattle.nfs3_types.specs.Handles.{file_handle, post_op_handle}

same_some : (a b : List ℕ) → Some a ≡ Some b → a ≡ b
same_some a b e = cc

pub handle_short : (handle : Option (List ℕ)) → post_op_handle.Fits handle → IfSome handle (λ h. length h < 2 ^ 32)
unfolding post_op_handle file_handle
handle_short None f = tt
handle_short (Some h) f = subst (λ (x : List ℕ). length x < 2 ^ 32) (sym (same_some h f.second.value f.second.made))
    (opaque_short 64 f.second.value f.second.fits)
