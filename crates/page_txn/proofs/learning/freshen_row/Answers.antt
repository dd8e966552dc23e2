use Rattle.std.proofs.lemmas.Result.{err_from_is_err_and}
use Rattle.page_txn.proofs.Moving.{freshen_failed, freshen_lacking, freshened_now}
use Rattle.page_txn.proofs.learning.freshen_row.Goals as goal

pub returns-in_err-s : goal.returns-in_err-s
returns-in_err-s g c =
    let p = err_from_is_err_and c.from_residual.result c.from_residual.ensures.1 in
    rw (p.1, p.2) (freshen_failed c.args.tid _ _ c.args.rows.now c.args.rows.now c.args.store _ c.in_err-s.ensures)

pub returns-in-Ok : goal.returns-in-Ok
returns-in-Ok g c =
    freshened_now c.args.tid _ _ c.args.rows.now c.insert.new.self c.args.store c.in_ok-s.s c.in_ok-s.ensures
    c.absent.result c.requires c.absent.ensures.version c.absent.ensures.content c.absent.ensures.written
    c.in-Ok.ensures.updates

pub returns : goal.returns
returns g c =
    freshen_lacking c.args.tid _ _ c.args.rows.now c.insert.new.self c.args.store c.in_ok-s.s c.in_ok-s.ensures
    c.in-Err.ensures.err
