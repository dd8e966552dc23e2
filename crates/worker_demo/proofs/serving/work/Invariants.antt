use Rattle.std.proofs.Common.{◌≡◌}
use Rattle.worker_demo.specs.Calls.{IsFor}
use Rattle.worker_demo.proofs.serving.work.Given as goal

abbrev pub invariant-loop : goal.invariant-loop
invariant-loop g l =
    (goal.iterator-loop g).can_next l.iterator' × (goal.iterator-loop g).is_finite l.iterator'
    × IsFor l.fn.turn l.fn.number l.fn.pass.end l.pass × (l.way.hall ≡ l.fn.hall)
