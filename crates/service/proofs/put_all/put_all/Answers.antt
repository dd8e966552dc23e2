use Rattle.service.proofs.PutSteps.{put_more}
use Rattle.service.proofs.put_all.put_all.Goals as goal

pub loop-rest-preserved : goal.loop-rest-preserved
loop-rest-preserved g c =
    put_more g.K.Sink.told c.args.sink.now c.loop-rest.sink c.put.new.self c.args.part.now c.loop-rest.rest.now c.in-Ok.n
    c.loop-rest.invariant (c.in-Ok.ensures.ok) c.in-Ok.ensures.cause.never_falls
