use Rattle.std.proofs.Common.{◌+◌, ◌∙◌, refl, rules, subst, sym}
use Rattle.workload.specs.Driving.{Driving, DriverAt}
use Rattle.workload.proofs.Moves.{called, moved}
use Rattle.workload.proofs.driver.Driver.next_call.Goals as goal

pub returns-clause-call : goal.returns-clause-call
returns-clause-call c = λ number rough replies at.
    let here = subst (λ (d : Driving). DriverAt number rough replies d) (sym c.self.view_is) at in
    c.in_ok-call.ensures
    ∙ called number rough replies _ (c.self.inside.calls + 1) c.from.result c.choose-state.result.0 c.index-known.result.now
    here (search rules) refl c.choose-state.ensures.choice (search rules) (search rules)

pub returns-clause-next : goal.returns-clause-next
returns-clause-next c = λ number rough replies at.
    let here = subst (λ (d : Driving). DriverAt number rough replies d) (sym c.self.view_is) at in
    moved number rough replies _ (c.self.inside.calls + 1) c.choose-state.result.1 c.choose-state.result.0
    c.fuse_of-self-inside.result here refl c.choose-state.ensures.choice c.choose-state.ensures.next
    c.fuse_of-self-inside.ensures
