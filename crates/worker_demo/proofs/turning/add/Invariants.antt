use Rattle.worker_demo.specs.Calls.{IsFor}
use Rattle.worker_demo.proofs.turning.add.Given as goal

abbrev pub invariant-loop : goal.invariant-loop
invariant-loop g l = IsFor l.fn.turn l.fn.pass.number l.fn.pass.end l.pass
