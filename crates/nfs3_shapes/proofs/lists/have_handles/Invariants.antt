use Rattle.std.proofs.Common.{All, take}
use Rattle.std.specs.Prelude.{IfSome}
use Rattle.nfs3_fits.specs.Shape.{IsHandle}
use Rattle.nfs3_shapes.proofs.lists.have_handles.Given as goal

abbrev pub invariant-loop-entry : goal.invariant-loop-entry
invariant-loop-entry l = All (λ e. IfSome e.object IsHandle) (take l.entry-index l.entries)
