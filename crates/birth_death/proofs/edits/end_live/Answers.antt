use Rattle.std.proofs.lemmas.Result.{on_ok_weaker, IfErr-weaker}
use Rattle.birth_death.proofs.Ending.{del-over-moves, del-after-moves, dies-fails}
use Rattle.birth_death.proofs.Rooting.{keeps-stays}
use Rattle.birth_death.proofs.edits.end_live.Goals as goal

pub returns-then-birth-now-clause-ok : goal.returns-then-birth-now-clause-ok
returns-then-birth-now-clause-ok g c =
    on_ok_weaker c.remove_there.result
    (del-over-moves c.args.key.now c.args.birth c.args.now _ _ c.if-birth-now.true c.remove_there.ensures.goes_on)
    c.remove_there.ensures.removed

pub returns-then-birth-now-clause-root : goal.returns-then-birth-now-clause-root
returns-then-birth-now-clause-root g c =
    on_ok_weaker c.remove_there.result (keeps-stays _ _ c.remove_there.ensures.goes_on) c.remove_there.ensures.root

pub returns-then-birth-now-clause-fault : goal.returns-then-birth-now-clause-fault
returns-then-birth-now-clause-fault g c =
    IfErr-weaker c.remove_there.result _ _
    (λ fault cause. dies-fails c.args.key.now c.args.birth c.args.now _ _ fault c.remove_there.ensures.goes_on cause)
    c.remove_there.ensures.fault

pub returns-else-birth-now-clause-ok : goal.returns-else-birth-now-clause-ok
returns-else-birth-now-clause-ok g c =
    on_ok_weaker c.end_there.result
    (del-after-moves c.args.key.now c.args.birth c.args.now _ _ c.if-birth-now.false c.end_there.ensures.goes_on)
    c.end_there.ensures.ended

pub returns-else-birth-now-clause-root : goal.returns-else-birth-now-clause-root
returns-else-birth-now-clause-root g c =
    on_ok_weaker c.end_there.result (keeps-stays _ _ c.end_there.ensures.goes_on) c.end_there.ensures.root

pub returns-else-birth-now-clause-fault : goal.returns-else-birth-now-clause-fault
returns-else-birth-now-clause-fault g c =
    IfErr-weaker c.end_there.result _ _
    (λ fault cause. dies-fails c.args.key.now c.args.birth c.args.now _ _ fault c.end_there.ensures.goes_on cause)
    c.end_there.ensures.fault
