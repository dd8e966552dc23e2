use Rattle.std.proofs.Common.{sym, ap, ◌∙◌}
use Rattle.pairs.specs.Versions.{epoch, epoch_in}
use Rattle.birth_death.proofs.lookups.epoch.Goals as goal

pub returns-in-Ok-clause-found : goal.returns-in-Ok-clause-found
unfolding epoch
returns-in-Ok-clause-found g c = λ under v agrees shows has.
    c.number_in.ensures ∙ ap epoch_in (sym (c.in-Ok.ensures.found under v agrees shows has))
