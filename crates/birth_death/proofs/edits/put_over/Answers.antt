use Rattle.std.proofs.lemmas.Result.{on_ok_weaker, IfErr-weaker}
use Rattle.birth_death.proofs.Putting.{put-over-moves, put-over-fails}
use Rattle.birth_death.proofs.Rooting.{keeps-grows}
use Rattle.birth_death.proofs.edits.put_over.Goals as goal

pub returns-clause-ok : goal.returns-clause-ok
returns-clause-ok g c =
    on_ok_weaker c.replace_there.result (put-over-moves c.args.q.now c.args.store _ _ c.requires.lives
    c.replace_there.ensures.goes_on)
    c.replace_there.ensures.replaced

pub returns-clause-root : goal.returns-clause-root
returns-clause-root g c =
    on_ok_weaker c.replace_there.result (keeps-grows _ _ c.replace_there.ensures.goes_on) c.replace_there.ensures.root

pub returns-clause-fault : goal.returns-clause-fault
returns-clause-fault g c =
    IfErr-weaker c.replace_there.result _ _ (λ fault cause. put-over-fails c.args.q.now _ _ fault
    c.replace_there.ensures.goes_on cause)
    c.replace_there.ensures.fault
