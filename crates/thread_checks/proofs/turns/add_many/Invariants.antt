use Rattle.thread_checks.specs.Rests.{IsFor}
use Rattle.thread_checks.proofs.turns.add_many.Given as goal

abbrev pub invariant-loop : goal.invariant-loop
invariant-loop g l = IsFor l.fn.turn l.fn.pass.number l.fn.pass.end l.pass
