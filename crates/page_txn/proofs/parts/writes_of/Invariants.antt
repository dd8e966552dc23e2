use Rattle.std.proofs.Common.{◌≡◌, ◌++◌}
use Rattle.page_txn.specs.Parts.{writes_in}
use Rattle.page_txn.proofs.parts.writes_of.Given as goal

abbrev pub invariant-loop-place : goal.invariant-loop-place
invariant-loop-place l = l.writes.items ++ writes_in l.store l.place-iterator ≡ writes_in l.store l.rows.entries
