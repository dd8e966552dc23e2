use Rattle.std.proofs.Common.{◌≡◌, ◌++◌}
use Rattle.page_txn.specs.Parts.{reads_in}
use Rattle.page_txn.proofs.parts.reads_of.Given as goal

abbrev pub invariant-loop-place : goal.invariant-loop-place
invariant-loop-place l = l.reads.items ++ reads_in l.store l.place-iterator ≡ reads_in l.store l.rows.entries
