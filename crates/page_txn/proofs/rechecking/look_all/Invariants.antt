use Rattle.std.proofs.Common.{◌≡◌, ◌++◌, drop}
use Rattle.page_txn.specs.Rechecks.{numbers_of}
use Rattle.page_txn.proofs.rechecking.look_all.Given as goal

abbrev pub invariant-loop-read : goal.invariant-loop-read
invariant-loop-read l = l.numbers.items ++ numbers_of (drop l.read-index l.reads) ≡ numbers_of l.reads
