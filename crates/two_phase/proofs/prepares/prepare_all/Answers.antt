use Rattle.std.proofs.Common.{add-one}
use Rattle.std.proofs.lemmas.Result.{err_from_is_err_and}
use Rattle.two_phase.proofs.Ended.{item_at}
use Rattle.two_phase.proofs.Preparing.{fair_prepare, part_below, preparing_none, preparing_more, prepare_lacking, prepare_refused}
use Rattle.two_phase.proofs.Preparing.{prepare_faulted}
use Rattle.two_phase.proofs.prepares.prepare_all.Goals as goal

pub loop-part-init : goal.loop-part-init
loop-part-init g c = record { preparing = preparing_none _ _ _ _ c.requires }

pub returns-in_err-command : goal.returns-in_err-command
returns-in_err-command g c =
    let p = err_from_is_err_and c.from_residual.result c.from_residual.ensures.1 in
    rw (p.1, p.2) (prepare_lacking _ _ _ _ _ _ c.loop-part.invariant.preparing)

pub retry-requires-clause-store : goal.retry-requires-clause-store
retry-requires-clause-store g c =
    let at = item_at c.args.parts.now c.loop-part.part-index c.part-item.result c.loop-part-test.true c.part-item.is in
    part_below _ _ _ _ _ _ _ _ c.requires c.loop-part.invariant.preparing.onward at

pub retry-requires-clause-fair : goal.retry-requires-clause-fair
retry-requires-clause-fair g c =
    let at = item_at c.args.parts.now c.loop-part.part-index c.part-item.result c.loop-part-test.true c.part-item.is in
    rw c.in_ok-command.ensures
    (fair_prepare g.P.Rules.Meaning.stands g.P.Rules.Meaning.next _ _ _ _ _ _ _ _ c.requires
    c.loop-part.invariant.preparing.onward at c.loop-part.invariant.preparing.prepared)

pub returns-in_err-answer : goal.returns-in_err-answer
returns-in_err-answer g c =
    let at = item_at c.args.parts.now c.loop-part.part-index c.part-item.result c.loop-part-test.true c.part-item.is in
    let p = err_from_is_err_and c.from_residual-in_err-answer.result c.from_residual-in_err-answer.ensures.1 in
    rw (p.1, p.2)
    (prepare_faulted _ _ _ _ _ _ _ _ c.requires at c.loop-part.invariant.preparing _
    (rw c.in_ok-command.ensures at c.in_err-answer.ensures))

pub returns-then-not-tells_prepared : goal.returns-then-not-tells_prepared
returns-then-not-tells_prepared g c =
    let at = item_at c.args.parts.now c.loop-part.part-index c.part-item.result c.loop-part-test.true c.part-item.is in
    prepare_refused _ _ _ _ _ _ _ _ c.requires at c.loop-part.invariant.preparing c.in_ok-answer.answer
    (rw c.tells_prepared.ensures at c.if-not-tells_prepared.true) (rw c.in_ok-command.ensures at c.in_ok-answer.ensures)

pub loop-part-preserved : goal.loop-part-preserved
loop-part-preserved g c =
    let at = item_at c.args.parts.now c.loop-part.part-index c.part-item.result c.loop-part-test.true c.part-item.is in
    record {
      preparing = rw add-one
          (preparing_more _ _ _ _ _ _ _ _ c.requires at c.loop-part.invariant.preparing c.in_ok-answer.answer
          (rw c.tells_prepared.ensures at c.if-not-tells_prepared.false)
          (rw c.in_ok-command.ensures at c.in_ok-answer.ensures));
    }
