use Rattle.std.proofs.lemmas.Result.{on_ok_weaker, IfErr-weaker}
use Rattle.birth_death.proofs.Ending.{take-moves, take-fails}
use Rattle.birth_death.proofs.Rooting.{keeps-stays}
use Rattle.birth_death.proofs.edits.take.Goals as goal

pub returns-clause-ok : goal.returns-clause-ok
returns-clause-ok g c =
    on_ok_weaker c.remove_there.result (take-moves c.args.q.now _ _ c.remove_there.ensures.goes_on)
    (rw c.as_slice.ensures at c.remove_there.ensures.removed)

pub returns-clause-root : goal.returns-clause-root
returns-clause-root g c =
    on_ok_weaker c.remove_there.result (keeps-stays _ _ c.remove_there.ensures.goes_on) c.remove_there.ensures.root

pub returns-clause-fault : goal.returns-clause-fault
returns-clause-fault g c =
    IfErr-weaker c.remove_there.result _ _ (λ fault cause. take-fails c.args.q.now _ _ fault
    c.remove_there.ensures.goes_on cause)
    (rw c.as_slice.ensures at c.remove_there.ensures.fault)
