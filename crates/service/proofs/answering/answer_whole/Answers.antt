use Rattle.service.specs.Session.{desk, desk_told}
use Rattle.service.proofs.AnswerSteps.{whole-none, whole-no_call, whole-write_fault, whole-one}
use Rattle.service.proofs.answering.answer_whole.Goals as goal

pub returns-in_default-clause-ok : goal.returns-in_default-clause-ok
returns-in_default-clause-ok g c =
    whole-none (desk_told g.T.Tree.answering g.C.Clock.told g.K.Sink.told)
    (desk (g.T.Tree.plain c.args.tree.now) c.args.clock.now c.args.output.now) c.args.records.now

pub returns-in-Err-clause-err : goal.returns-in-Err-clause-err
returns-in-Err-clause-err g c more =
    whole-no_call (desk_told g.T.Tree.answering g.C.Clock.told g.K.Sink.told) (g.T.Tree.plain c.args.tree.now)
    (g.T.Tree.plain c.answer_record.new.tree) c.args.clock.now c.answer_record.new.clock c.args.output.now
    c.args.records.now c.in-Some.content.now more c.in-Err.field-0 c.in-Some.ensures.whole c.in-Err.ensures.err
    c.in-Err.ensures.same_tree c.in-Err.ensures.no_moment

pub returns-in_default-put_all-clause-err : goal.returns-in_default-put_all-clause-err
returns-in_default-put_all-clause-err g c more =
    whole-write_fault (desk_told g.T.Tree.answering g.C.Clock.told g.K.Sink.told)
    (desk (g.T.Tree.plain c.args.tree.now) c.args.clock.now c.args.output.now)
    (desk (g.T.Tree.plain c.answer_record.new.tree) c.answer_record.new.clock c.put_all.new.sink)
    c.args.records.now c.in-Some.content.now more c.answer_record.new.out.items c.in-Some.ensures.whole c.in-Ok.ensures.ok
    (rw c.deref.ensures.value at c.in_default-put_all.ensures.err)

pub returns-clause-ok : goal.returns-clause-ok
returns-clause-ok g c =
    whole-one (desk_told g.T.Tree.answering g.C.Clock.told g.K.Sink.told)
    (desk (g.T.Tree.plain c.args.tree.now) c.args.clock.now c.args.output.now)
    (desk (g.T.Tree.plain c.answer_record.new.tree) c.answer_record.new.clock c.put_all.new.sink)
    c.args.records.now c.next.new.self c.in-Some.content.now c.answer_record.new.out.items c.in-Some.ensures.whole
    c.in-Ok.ensures.ok (rw c.deref.ensures.value at c.in-Ok-put_all.ensures.ok) c.next.ensures.stream
