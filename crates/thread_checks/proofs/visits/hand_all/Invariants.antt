use Rattle.std.proofs.Common.{◌≡◌}
use Rattle.thread_checks.proofs.visits.hand_all.Given as goal

abbrev pub invariant-loop-visit : goal.invariant-loop-visit
invariant-loop-visit g l = l.pass.hall ≡ l.fn.hall
