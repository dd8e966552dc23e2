use Rattle.std.proofs.lemmas.Result.{err_from_is_err_and}
use Rattle.page_txn.proofs.Sequel.{far_none, far_of, far_on, asks_err, asks_none, drawn_fresh}
use Rattle.page_txn.proofs.asking.fresh_slot.Goals as goal

pub loop-turn-init : goal.loop-turn-init
loop-turn-init g c = far_none _ _

pub draw_slot-requires : goal.draw_slot-requires
draw_slot-requires g c = rw c.loop-turn.invariant.onward.origin c.requires

pub returns-in_err-drawn : goal.returns-in_err-drawn
returns-in_err-drawn g c =
    let p = err_from_is_err_and c.from_residual.result c.from_residual.ensures.1 in
    rw (p.1, p.2) (asks_err _ c.args.tid _ _ _ _ _ c.loop-turn.invariant c.in_err-drawn.ensures)

pub returns-then-drawn : goal.returns-then-drawn
returns-then-drawn g c =
    drawn_fresh c.args.rows.now c.args.store c.args.tid _ _ _ _ c.if-drawn.true c.loop-turn.invariant c.in_ok-drawn.ensures

pub loop-turn-preserved : goal.loop-turn-preserved
loop-turn-preserved g c = far_on _ _ _ _ c.loop-turn.invariant (far_of _ _ _ _ _ c.in_ok-drawn.ensures)

pub returns : goal.returns
returns g c = asks_none _ _ _ _ c.loop-turn.invariant
