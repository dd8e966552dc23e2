use Rattle.std.proofs.lemmas.Result.{on_ok_weaker, IfErr-weaker}
use Rattle.birth_death.proofs.Putting.{put-first-moves, put-first-fails}
use Rattle.birth_death.proofs.Rooting.{keeps-grows}
use Rattle.birth_death.proofs.edits.put_first.Goals as goal

pub returns-clause-ok : goal.returns-clause-ok
returns-clause-ok g c =
    on_ok_weaker c.insert.result (put-first-moves c.args.q.now c.args.store _ _ c.requires.lives
    c.insert.ensures.goes_on) c.insert.ensures.inserted

pub returns-clause-root : goal.returns-clause-root
returns-clause-root g c = on_ok_weaker c.insert.result (keeps-grows _ _ c.insert.ensures.goes_on) c.insert.ensures.root

pub returns-clause-fault : goal.returns-clause-fault
returns-clause-fault g c =
    IfErr-weaker c.insert.result _ _ (λ fault cause. put-first-fails c.args.q.now _ _ fault c.requires.lives
    c.insert.ensures.goes_on cause) c.insert.ensures.fault
