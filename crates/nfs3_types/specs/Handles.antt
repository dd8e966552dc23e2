-- File handles (RFC 1813, section 2.6, nfs_fh3), and what this service's handles say.
use Rattle.std.specs.Prelude.{ℕ, List, Result, Ok, Err, Option, Some, None}
use Rattle.xdr_grammar.specs.declared.fault.XdrFault.{XdrFault}
use Rattle.xdr_grammar.specs.Grammar.{Grammar, ◌at◌, ◌>>=◌, done}
use Rattle.xdr_grammar.specs.Items.{hyper, opaque}
use Rattle.xdr_grammar.specs.Choices.{optional}
use Rattle.xdr_grammar.specs.Whole.{whole}
use Rattle.nfs3_types.specs.declared.handle.Handle.{Handle}

-- any server's handle: at most 64 bytes (NFS3_FHSIZE)
unfoldable pub file_handle : Grammar (List ℕ)
file_handle = opaque 64

-- a handle that may be absent (post_op_fh3)
unfoldable pub post_op_handle : Grammar (Option (List ℕ))
post_op_handle = optional file_handle

-- what the bytes of this service's handles say
unfoldable pub handle : Grammar Handle
handle = do
  fsid ← hyper at (λ h. h.fsid)
  snapshot ← hyper at (λ h. h.snapshot)
  fileid ← hyper at (λ h. h.fileid)
  done (record { fsid = fsid; snapshot = snapshot; fileid = fileid })

abbrev pub if_read : {A : Type 0} → Result A XdrFault → Option A
if_read (Ok a) = Some a
if_read (Err fault) = None

-- what a handle of these bytes says, where it is this service's
abbrev pub handle_in : List ℕ → Option Handle
handle_in bytes = if_read (whole handle bytes)
