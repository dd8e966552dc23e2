use Rattle.std.proofs.Common.{sym, ◌∙◌}
use Rattle.birth_death.proofs.Finding.{birth-born}
use Rattle.birth_death.proofs.lookups.born.Goals as goal

pub returns-in-Ok-clause-found : goal.returns-in-Ok-clause-found
returns-in-Ok-clause-found g c = λ under v agrees shows has.
    birth-born (v.lives c.args.key.now) c.in-Ok.found (c.in-Ok.ensures.found under v agrees shows has)
    ∙ sym c.birth_of.ensures
