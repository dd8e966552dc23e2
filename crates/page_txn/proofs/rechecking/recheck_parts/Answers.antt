use Rattle.std.proofs.Common.{add-one, sym, ◌∙◌}
use Rattle.std.proofs.lemmas.Result.{err_from_is_err_and}
use Rattle.two_phase.proofs.Ended.{item_at}
use Rattle.page_txn.proofs.Rechecked.{looking_none, looking_may, looking_fault, looking_found, looking_more}
use Rattle.page_txn.proofs.rechecking.recheck_parts.Goals as goal

pub loop-part-init : goal.loop-part-init
loop-part-init g c = looking_none _ _ _

pub recheck_part-requires : goal.recheck_part-requires
recheck_part-requires g c =
    let at = item_at c.args.parts.now c.loop-part.part-index c.part-item.result c.loop-part-test.true c.part-item.is in
    looking_may _ _ (g.P.Port.state c.args.port.now) _ _ _ _ at c.loop-part.invariant c.requires

pub returns-in_err-found : goal.returns-in_err-found
returns-in_err-found g c =
    let at = item_at c.args.parts.now c.loop-part.part-index c.part-item.result c.loop-part-test.true c.part-item.is in
    let p = err_from_is_err_and c.from_residual.result c.from_residual.ensures.1 in
    rw (p.1, p.2) (looking_fault _ _ _ _ _ _ _ at c.loop-part.invariant _ c.in_err-found.ensures)

pub returns-then-is_some : goal.returns-then-is_some
returns-then-is_some g c =
    let at = item_at c.args.parts.now c.loop-part.part-index c.part-item.result c.loop-part-test.true c.part-item.is in
    looking_found _ _ _ _ _ _ _ at c.loop-part.invariant c.in_ok-found.found (sym c.is_some.ensures ∙ c.if-is_some.true)
    c.in_ok-found.ensures

pub loop-part-preserved : goal.loop-part-preserved
loop-part-preserved g c =
    let at = item_at c.args.parts.now c.loop-part.part-index c.part-item.result c.loop-part-test.true c.part-item.is in
    rw add-one
    (looking_more _ _ _ _ _ _ _ at c.loop-part.invariant c.in_ok-found.found (sym c.is_some.ensures ∙ c.if-is_some.false)
    c.in_ok-found.ensures)
