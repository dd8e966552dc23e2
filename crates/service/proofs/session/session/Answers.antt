use Rattle.std.proofs.Common.{arith, rules, ℕ, Err, Ok, ap, subst, sym, ◌∙◌}
use Rattle.service.specs.Session.{desk, desk_told, session_at, session_told}
use Rattle.service.specs.Steps.{AnsweredAll, AnsweredUntil, end_of}
use Rattle.service.proofs.SessionSteps.{front_kept, session_reading, session_begins, session_goes_on, session_read_fault}
use Rattle.service.proofs.SessionSteps.{session_done, session_cut, session_many, session_stops, kept_some, kept_most}
use Rattle.service.proofs.SessionSteps.{took_none}
use Rattle.service.proofs.session.session.Goals as goal

pub loop-turn-init : goal.loop-turn-init
loop-turn-init g c = (
  session_begins (session_told g.S.Source.told (desk_told g.T.Tree.answering g.C.Clock.told g.K.Sink.told))
      (session_at c.args.input.now (desk (g.T.Tree.plain c.args.tree.now) c.args.clock.now c.args.output.now))
      c.args.room.now.records c.requires.room.begins,
  c.requires.room.some,
  c.requires.room.most,
  omega arith,
)

pub answer_piece-requires-clause-reading : goal.answer_piece-requires-clause-reading
answer_piece-requires-clause-reading g c =
    session_reading (session_told g.S.Source.told (desk_told g.T.Tree.answering g.C.Clock.told g.K.Sink.told))
    (session_at c.args.input.now (desk (g.T.Tree.plain c.args.tree.now) c.args.clock.now c.args.output.now))
    (session_at c.loop-turn.input (desk (g.T.Tree.plain c.loop-turn.tree) c.loop-turn.clock c.loop-turn.output))
    c.loop-turn.room.records c.loop-turn._turn c.loop-turn.invariant.0

pub loop-turn-preserved : goal.loop-turn-preserved
loop-turn-preserved g c = (
  session_goes_on (session_told g.S.Source.told (desk_told g.T.Tree.answering g.C.Clock.told g.K.Sink.told))
      (session_at c.args.input.now (desk (g.T.Tree.plain c.args.tree.now) c.args.clock.now c.args.output.now))
      (session_at c.loop-turn.input (desk (g.T.Tree.plain c.loop-turn.tree) c.loop-turn.clock c.loop-turn.output))
      (session_at c.take.new.self (desk (g.T.Tree.plain c.answer_piece.new.tree) c.answer_piece.new.clock
      c.answer_piece.new.output)) c.loop-turn.room.records c.answer_piece.new.records c.take.new.room c.in-Ok.n
      c.loop-turn._turn c.loop-turn.invariant.0
      c.in-Ok.ensures.within (omega arith) (omega arith) c.in-Ok.ensures.ok
      (subst (AnsweredAll (desk_told g.T.Tree.answering g.C.Clock.told g.K.Sink.told)
      (desk (g.T.Tree.plain c.loop-turn.tree) c.loop-turn.clock c.loop-turn.output)
      (desk (g.T.Tree.plain c.answer_piece.new.tree) c.answer_piece.new.clock c.answer_piece.new.output)
      c.loop-turn.room.records c.answer_piece.new.records) (front_kept c.loop-turn.room.buffer.len c.in-Ok.n
      c.loop-turn.room.buffer.items c.take.new.room c.deref.result.now c.deref.ensures.value
      (omega (arith, c.in-Ok.ensures.within)) c.in-Ok.ensures.within) c.in-Ok-answer_piece.ensures.ok)
      c.in-Ok-answer_piece.ensures.unfinished c.in-Ok.ensures.cause.never_falls c.in-Ok-answer_piece.ensures.cause.never_falls,
  kept_some c.loop-turn.room.buffer.len c.loop-turn.room.buffer.items c.take.new.room (omega arith) (omega arith),
  kept_most c.loop-turn.room.buffer.len c.loop-turn.room.buffer.items c.take.new.room (omega arith),
  omega (arith, c.loop-turn.invariant.3, c.in-Ok-answer_piece.ensures.capacity),
)

pub returns-in-Err : goal.returns-in-Err
returns-in-Err g c =
    session_stops (session_told g.S.Source.told (desk_told g.T.Tree.answering g.C.Clock.told g.K.Sink.told))
    (session_at c.args.input.now (desk (g.T.Tree.plain c.args.tree.now) c.args.clock.now c.args.output.now))
    (session_at c.loop-turn.input (desk (g.T.Tree.plain c.loop-turn.tree) c.loop-turn.clock c.loop-turn.output))
    (session_at c.take.new.self (desk (g.T.Tree.plain c.answer_piece.new.tree) c.answer_piece.new.clock
    c.answer_piece.new.output)) c.loop-turn.room.records c.take.new.room c.in-Ok.n c.loop-turn._turn c.in-Err.stop
    c.end_of.result c.loop-turn.invariant.0
    (omega arith) c.in-Ok.ensures.within (omega arith) (omega arith) c.in-Ok.ensures.ok
    (subst (AnsweredUntil (desk_told g.T.Tree.answering g.C.Clock.told g.K.Sink.told)
    (desk (g.T.Tree.plain c.loop-turn.tree) c.loop-turn.clock c.loop-turn.output)
    (desk (g.T.Tree.plain c.answer_piece.new.tree) c.answer_piece.new.clock c.answer_piece.new.output)
    (end_of c.in-Err.stop) c.loop-turn.room.records) (front_kept c.loop-turn.room.buffer.len c.in-Ok.n
    c.loop-turn.room.buffer.items c.take.new.room c.deref.result.now c.deref.ensures.value
    (omega (arith, c.in-Ok.ensures.within)) c.in-Ok.ensures.within) c.in-Err.ensures.err) c.in-Ok.ensures.cause.never_falls
    c.in-Err.ensures.cause.never_falls (λ e. c.in-Err.ensures.cause.write_fault (ap Err e)) c.end_of.ensures

pub returns-in_default : goal.returns-in_default
returns-in_default g c =
    session_read_fault (session_told g.S.Source.told (desk_told g.T.Tree.answering g.C.Clock.told g.K.Sink.told))
    (session_at c.args.input.now (desk (g.T.Tree.plain c.args.tree.now) c.args.clock.now c.args.output.now))
    (session_at c.loop-turn.input (desk (g.T.Tree.plain c.loop-turn.tree) c.loop-turn.clock c.loop-turn.output))
    c.take.new.self c.loop-turn.room.records c.loop-turn._turn c.loop-turn.invariant.0 (omega arith)
    c.in_default.ensures.err c.in_default.ensures.cause.never_falls (c.in_default.ensures.cause.error (search rules))

pub returns-then-at_edge : goal.returns-then-at_edge
returns-then-at_edge g c =
    session_done (session_told g.S.Source.told (desk_told g.T.Tree.answering g.C.Clock.told g.K.Sink.told))
    (session_at c.args.input.now (desk (g.T.Tree.plain c.args.tree.now) c.args.clock.now c.args.output.now))
    (session_at c.loop-turn.input (desk (g.T.Tree.plain c.loop-turn.tree) c.loop-turn.clock c.loop-turn.output))
    c.take.new.self c.loop-turn.room.records c.loop-turn._turn c.loop-turn.invariant.0 (omega arith)
    (took_none g.S.Source.told c.loop-turn.input c.take.new.self c.take.new.room c.in-Ok.n c.if-n-eq0.true c.in-Ok.ensures.ok)
    (c.in-Ok.ensures.end (ap Ok c.if-n-eq0.true)) c.in-Ok.ensures.cause.never_falls
    (sym c.at_edge.ensures ∙ c.if-at_edge.true)

pub returns-then-n-eq0 : goal.returns-then-n-eq0
returns-then-n-eq0 g c =
    session_cut (session_told g.S.Source.told (desk_told g.T.Tree.answering g.C.Clock.told g.K.Sink.told))
    (session_at c.args.input.now (desk (g.T.Tree.plain c.args.tree.now) c.args.clock.now c.args.output.now))
    (session_at c.loop-turn.input (desk (g.T.Tree.plain c.loop-turn.tree) c.loop-turn.clock c.loop-turn.output))
    c.take.new.self c.loop-turn.room.records c.loop-turn._turn c.loop-turn.invariant.0 (omega arith)
    (took_none g.S.Source.told c.loop-turn.input c.take.new.self c.take.new.room c.in-Ok.n c.if-n-eq0.true c.in-Ok.ensures.ok)
    (c.in-Ok.ensures.end (ap Ok c.if-n-eq0.true)) c.in-Ok.ensures.cause.never_falls
    (sym c.at_edge.ensures ∙ c.if-at_edge.false)

pub returns : goal.returns
returns g c = session_many (session_told g.S.Source.told (desk_told g.T.Tree.answering g.C.Clock.told g.K.Sink.told))
    (session_at c.args.input.now (desk (g.T.Tree.plain c.args.tree.now) c.args.clock.now c.args.output.now))
    (session_at c.loop-turn.input (desk (g.T.Tree.plain c.loop-turn.tree) c.loop-turn.clock c.loop-turn.output))
    c.loop-turn.room.records c.loop-turn._turn c.loop-turn.invariant.0 (omega arith)
