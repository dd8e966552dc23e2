use Rattle.std.proofs.Common.{arith}
use Rattle.std.proofs.lemmas.Result.{on_ok_weaker, IfErr-weaker}
use Rattle.btree_edit.proofs.States.{goes_then}
use Rattle.birth_death.proofs.Putting.{EndsFirst, put-after-end, put-after-moves, put-after-fails}
use Rattle.birth_death.proofs.Rooting.{keeps-stays, keeps-grows, keeps-then}
use Rattle.birth_death.proofs.edits.put_after.Goals as goal

pub insert-requires-clause-store : goal.insert-requires-clause-store
insert-requires-clause-store g c = omega (arith, c.in-Ok.ensures.goes_on.lasts.stores, c.requires.store)

pub returns-in-Ok-clause-goes_on : goal.returns-in-Ok-clause-goes_on
returns-in-Ok-clause-goes_on g c = goes_then _ _ _ c.in-Ok.ensures.goes_on c.insert.ensures.goes_on

pub returns-in-Ok-clause-ok : goal.returns-in-Ok-clause-ok
returns-in-Ok-clause-ok g c =
    let ends = rw c.as_slice.ensures at c.in-Ok.ensures.ended in
    let first : EndsFirst c.args.q.now c.args.birth _ _ = record {
      lives = c.requires.lives;
      other = c.requires.other;
      on = c.in-Ok.ensures.goes_on;
      ends = ends;
      stays = c.in-Ok.ensures.root;
    } in
    on_ok_weaker c.insert.result (put-after-moves c.args.q.now c.args.birth c.args.store _ _ _ first
    c.insert.ensures.goes_on) c.insert.ensures.inserted

pub returns-in-Ok-clause-root : goal.returns-in-Ok-clause-root
returns-in-Ok-clause-root g c =
    on_ok_weaker c.insert.result
    (λ grows. keeps-then _ _ _ (keeps-stays _ _ c.in-Ok.ensures.goes_on c.in-Ok.ensures.root)
    (keeps-grows _ _ c.insert.ensures.goes_on grows))
    c.insert.ensures.root

pub returns-in-Ok-clause-fault : goal.returns-in-Ok-clause-fault
returns-in-Ok-clause-fault g c =
    let ends = rw c.as_slice.ensures at c.in-Ok.ensures.ended in
    let first : EndsFirst c.args.q.now c.args.birth _ _ = record {
      lives = c.requires.lives;
      other = c.requires.other;
      on = c.in-Ok.ensures.goes_on;
      ends = ends;
      stays = c.in-Ok.ensures.root;
    } in
    IfErr-weaker c.insert.result _ _ (λ fault cause. put-after-fails c.args.q.now c.args.birth _ _ _ fault first
    c.insert.ensures.goes_on cause)
    c.insert.ensures.fault

pub returns-in-Err-clause-fault : goal.returns-in-Err-clause-fault
returns-in-Err-clause-fault g c =
    put-after-end c.args.q.now c.args.birth _ _ c.in-Err.fault c.in-Err.ensures.goes_on
    (rw c.as_slice.ensures at c.in-Err.ensures.fault)
