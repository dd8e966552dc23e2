use Rattle.std.proofs.Common.{◌≡◌, drop}
use Rattle.page_store.specs.Keeps.{change_in}
use Rattle.page_store.proofs.look.changed_row.Given as goal

abbrev pub invariant-loop-change : goal.invariant-loop-change
invariant-loop-change l = change_in (drop l.change-index l.changes) l.number ≡ change_in l.changes l.number
