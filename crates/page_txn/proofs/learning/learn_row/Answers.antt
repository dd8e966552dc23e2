use Rattle.std.proofs.Common.{sym, ◌∙◌}
use Rattle.std.proofs.lemmas.Result.{err_from_is_err_and}
use Rattle.page_txn.proofs.Learned.{none_there}
use Rattle.page_txn.proofs.Moving.{learned_already, learn_failed, learn_lacking, learned_now}
use Rattle.page_txn.proofs.learning.learn_row.Goals as goal

pub returns-then-contains_key : goal.returns-then-contains_key
returns-then-contains_key g c =
    learned_already c.args.tid _ (g.P.Port.state c.args.port.now) c.args.rows.now c.args.rows.now c.args.s
    (sym c.contains_key.ensures ∙ c.if-contains_key.true)

pub returns-in_err-row : goal.returns-in_err-row
returns-in_err-row g c =
    let p = err_from_is_err_and c.from_residual.result c.from_residual.ensures.1 in
    rw (p.1, p.2) (learn_failed c.args.tid _ _ c.args.rows.now c.args.rows.now c.args.s _ c.in_err-row.ensures)

pub returns-in-Ok : goal.returns-in-Ok
returns-in-Ok g c =
    learned_now c.args.tid _ _ c.args.rows.now c.insert.new.self c.args.s c.in_ok-row.row c.in_ok-row.ensures c.requires
    (none_there _ (sym c.contains_key.ensures ∙ c.if-contains_key.false)) c.in-Ok.ensures.updates

pub returns : goal.returns
returns g c =
    learn_lacking c.args.tid _ _ c.args.rows.now c.insert.new.self c.args.s c.in_ok-row.row c.in_ok-row.ensures
    c.in-Err.ensures.err
