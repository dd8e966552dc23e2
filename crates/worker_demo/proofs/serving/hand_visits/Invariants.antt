use Rattle.std.proofs.Common.{◌≡◌}
use Rattle.worker_demo.proofs.serving.hand_visits.Given as goal

abbrev pub invariant-loop : goal.invariant-loop
invariant-loop g l = l.way.hall ≡ l.fn.hall
