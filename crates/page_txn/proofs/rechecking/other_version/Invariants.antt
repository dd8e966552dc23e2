use Rattle.std.proofs.Common.{◌≡◌, drop}
use Rattle.page_txn.specs.Rechecks.{first_changed}
use Rattle.page_txn.proofs.rechecking.other_version.Given as goal

abbrev pub invariant-loop-i : goal.invariant-loop-i
invariant-loop-i l = first_changed (drop l.i l.reads) (drop l.i l.versions) ≡ first_changed l.reads l.versions
