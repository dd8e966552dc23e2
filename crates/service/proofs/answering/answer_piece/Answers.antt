use Rattle.std.proofs.Common.{drop, arith, rules}
use Rattle.service.specs.Session.{desk, desk_told}
use Rattle.service.specs.Steps.{end_of}
use Rattle.service.proofs.AnswerSteps.{piece-begins, piece-goes_on, piece-stops, piece-too_long, piece-smaller, fed-accepted}
use Rattle.service.proofs.answering.answer_piece.Goals as goal

pub loop-rest-init : goal.loop-rest-init
loop-rest-init g c = (
  piece-begins (desk_told g.T.Tree.answering g.C.Clock.told g.K.Sink.told)
      (desk (g.T.Tree.plain c.args.tree.now) c.args.clock.now c.args.output.now) c.args.records.now c.args.piece.now
      c.requires.reading,
  omega arith,
)

pub returns-in-Err-clause-err : goal.returns-in-Err-clause-err
returns-in-Err-clause-err g c =
    let e = c.in-Err.ensures in
    piece-too_long (desk_told g.T.Tree.answering g.C.Clock.told g.K.Sink.told)
    (desk (g.T.Tree.plain c.args.tree.now) c.args.clock.now c.args.output.now)
    (desk (g.T.Tree.plain c.loop-rest.tree) c.loop-rest.clock c.loop-rest.output)
    c.args.records.now c.loop-rest.records c.feed.new.self c.args.piece.now c.loop-rest.rest.now c.in-Err.field-0
    c.loop-rest.invariant.0
    (record { whole = e.whole; partial = e.partial; refused = e.refused; goes_on = e.goes_on }) e.stream

pub answer_whole-requires-clause-accepted : goal.answer_whole-requires-clause-accepted
answer_whole-requires-clause-accepted g c =
    let e = c.in-Ok.ensures in
    fed-accepted c.loop-rest.records c.feed.new.self c.loop-rest.rest.now c.in-Ok.n
    (record { whole = e.whole; partial = e.partial; refused = e.refused; goes_on = e.goes_on })

pub loop-rest-smaller : goal.loop-rest-smaller
loop-rest-smaller g c =
    let e = c.in-Ok.ensures in
    piece-smaller c.loop-rest.records c.feed.new.self c.loop-rest.rest.now c.in-Ok.n c.is_empty.result
    c.loop-rest.invariant.0.reading c.is_empty.ensures c.loop-rest-test.true e.within
    (record { whole = e.whole; partial = e.partial; refused = e.refused; goes_on = e.goes_on })

pub loop-rest-preserved : goal.loop-rest-preserved
loop-rest-preserved g c = (
  piece-goes_on (desk_told g.T.Tree.answering g.C.Clock.told g.K.Sink.told)
      (desk (g.T.Tree.plain c.args.tree.now) c.args.clock.now c.args.output.now)
      (desk (g.T.Tree.plain c.loop-rest.tree) c.loop-rest.clock c.loop-rest.output)
      (desk (g.T.Tree.plain c.answer_whole.new.tree) c.answer_whole.new.clock c.answer_whole.new.output)
      c.args.records.now c.loop-rest.records c.feed.new.self c.answer_whole.new.records c.args.piece.now c.loop-rest.rest.now
      c.in-Ok.n c.requires.reading c.loop-rest.invariant.0 c.in-Ok.ensures.stream
      c.in_ok-answer_whole.ensures.ok c.in_ok-answer_whole.ensures.unfinished c.in_ok-answer_whole.ensures.cause.never_falls,
  omega (arith, c.loop-rest.invariant.1, c.in_ok-answer_whole.ensures.capacity),
)

pub returns-in_err-answer_whole-clause-err : goal.returns-in_err-answer_whole-clause-err
returns-in_err-answer_whole-clause-err g c =
    let stops = piece-stops (desk_told g.T.Tree.answering g.C.Clock.told g.K.Sink.told)
    (desk (g.T.Tree.plain c.args.tree.now) c.args.clock.now c.args.output.now)
    (desk (g.T.Tree.plain c.loop-rest.tree) c.loop-rest.clock c.loop-rest.output)
    (desk (g.T.Tree.plain c.answer_whole.new.tree) c.answer_whole.new.clock c.answer_whole.new.output)
    c.args.records.now c.loop-rest.records c.feed.new.self c.args.piece.now c.loop-rest.rest.now c.in-Ok.n
    (end_of c.in_err-answer_whole.field-0.0) c.loop-rest.invariant.0 c.in-Ok.ensures.stream
    (c.in_err-answer_whole.ensures.err (drop c.in-Ok.n c.loop-rest.rest.now)) in
    search (rules, stops, c.from_residual.ensures)
