use Rattle.birth_death.proofs.Causes.{cause-weaker}
use Rattle.birth_death.proofs.edits.remove_there.Goals as goal

pub returns-in-Ok-true-clause-removed : goal.returns-in-Ok-true-clause-removed
returns-in-Ok-true-clause-removed g c = c.in-Ok-true.ensures.removed c.in-Ok-true.field-0-test

pub returns-in-Ok-false-clause-fault : goal.returns-in-Ok-false-clause-fault
returns-in-Ok-false-clause-fault g c = λ under agrees quads slots formed has.
    has ((c.in-Ok-false.ensures.lacking c.in-Ok-false.field-0-test).lacks under agrees quads slots formed)

pub returns-in-Err-clause-fault : goal.returns-in-Err-clause-fault
returns-in-Err-clause-fault g c =
    cause-weaker (g.G.Pages.state c.args.pages.now) (g.G.Pages.state c.remove.new.pages) _ _ c.in-Err.fault
    (λ none under agrees quads slots formed has. none under agrees quads slots formed tt) c.in-Err.ensures.fault
