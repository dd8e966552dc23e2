use Rattle.std.proofs.Common.{length}
use Rattle.service.specs.Steps.{PutSoFar}
use Rattle.service.proofs.put_all.put_all.Given as goal

abbrev pub invariant-loop-rest : goal.invariant-loop-rest
invariant-loop-rest g l = PutSoFar g.K.Sink.told l.fn.sink l.sink l.part l.rest

abbrev pub decreases-loop-rest : goal.decreases-loop-rest
decreases-loop-rest g l = length l.rest
