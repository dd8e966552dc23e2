use Rattle.std.proofs.Common.{ap, sym, ◌∙◌}
use Rattle.pairs.specs.Versions.{epoch, epoch_in}
use Rattle.extent_ops.proofs.placing.epoch.Goals as goal

pub returns-in-Ok-clause-goes : goal.returns-in-Ok-clause-goes
returns-in-Ok-clause-goes g c = c.get_at.ensures.goes

pub returns-in-Ok-clause-ok : goal.returns-in-Ok-clause-ok
unfolding epoch
returns-in-Ok-clause-ok g c = record {
  shows = c.in-Ok.ensures.ok.shows;
  finds = λ w v agrees shown lives. ap epoch_in (c.in-Ok.ensures.ok.finds w v agrees shown lives) ∙ sym c.number_in.ensures;
}

pub returns-in-Err-clause-goes : goal.returns-in-Err-clause-goes
returns-in-Err-clause-goes g c = c.get_at.ensures.goes

pub returns-in-Err-clause-fault : goal.returns-in-Err-clause-fault
returns-in-Err-clause-fault g c = c.in-Err.ensures.fault
