use Rattle.std.proofs.Common.{◌∷◌, None, rules, subst, sym}
use Rattle.workload.specs.Driving.{Driving, DriverAt}
use Rattle.workload.proofs.Moves.{taught}
use Rattle.workload.proofs.driver.Driver.learn.Goals as goal

pub returns-in-Some-clause-first : goal.returns-in-Some-clause-first
returns-in-Some-clause-first c = λ number rough replies at.
    let here = subst (λ (d : Driving). DriverAt number rough (None ∷ replies) d) (sym c.self.view_is) at in
    taught number rough replies _ c.from-place.result c.in-Some.choice c.args.reply.now c.index.result.now c.learned.result
    here (search rules) (search rules) (search rules) (search rules) c.learned.ensures
