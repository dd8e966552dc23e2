use Rattle.std.proofs.Common.{◌≡◌}
use Rattle.page_txn.specs.Parts.{parts_below}
use Rattle.page_txn.proofs.parts.parts_of.Given as goal

abbrev pub invariant-loop-store : goal.invariant-loop-store
invariant-loop-store l = l.parts.items ≡ parts_below l.rows.entries l.store
