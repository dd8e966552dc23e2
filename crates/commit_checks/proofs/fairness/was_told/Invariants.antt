use Rattle.std.proofs.Common.{◌≤◌, length}
use Rattle.commit_checks.proofs.fairness.was_told.Given as goal

abbrev pub invariant-loop-left : goal.invariant-loop-left
invariant-loop-left l = l.left ≤ length l.journal

abbrev pub decreases-loop-left : goal.decreases-loop-left
decreases-loop-left l = l.left
