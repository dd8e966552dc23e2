-- The calls that write.
use Rattle.std.proofs.Common.{◌≡◌, ◌∙◌, ◌*◌, ◌%◌, ℕ, List, Option, ap, replicate, sym, unwrap_or}
use Rattle.nfs3_types.specs.declared.handle.Handle.{Handle}
use Rattle.nfs3_types.specs.declared.call.CallOver.TheVariants.{Write}
use Rattle.nfs3_types.specs.declared.stable_how.StableHow.TheVariants.{FileSync}
use Rattle.nfs3_types.specs.Calls.{Call}
use Rattle.nfs3_types.specs.Handles.{handle}
use Rattle.workload.specs.declared.choice.Choice.{Choice}
use Rattle.workload.specs.declared.choice.Kind.{Kind}
use Rattle.workload.specs.declared.choice.Kind.TheVariants.{Writing}
use Rattle.workload.specs.Calls.{call_by, call_of, root, writing}

-- with such content the call is the workload's
pub written : (piece : ℕ) (to content : List ℕ) → content ≡ replicate 6000 (piece % 256)
    → ◌≡◌ {A = Call} (Write (record {
      file = to;
      offset = 4096 * (piece % 16);
      count = 6000;
      stable = FileSync;
      «data» =
          content;
    }))
    (writing piece to)
written piece to content e = ap (λ (l : List ℕ). Write (record {
  file = to;
  offset = 4096 * (piece % 16);
  count = 6000;
  stable = FileSync;
  «data» = l;
})) e

-- where the choice is a write, so is the call
pub writing_is : (number : ℕ) (choice : Choice) (known : Option Handle) (r h : Handle) (to : List ℕ) (call : Call)
    → choice.kind ≡ Writing → r ≡ root → h ≡ unwrap_or known r → to ≡ handle.spelling h → call ≡ writing choice.piece to
    → call ≡ call_of number choice known
unfolding call_of
writing_is number choice known r h to call kind_is r_is h_is to_is e =
    e ∙ ap (writing choice.piece) (to_is ∙ ap handle.spelling (h_is ∙ ap (unwrap_or known) r_is))
    ∙ sym (ap (λ (k : Kind). call_by number k choice.name choice.piece (handle.spelling (unwrap_or known root))) kind_is)
