use Rattle.std.proofs.lemmas.Result.{err_from_is_err_and}
use Rattle.page_txn.specs.declared.row.Row.{Row}
use Rattle.page_txn.proofs.Answering.{read_missed, read_met, read_refused, asks_read}
use Rattle.page_txn.proofs.asking.read_slot.Goals as goal

pub returns-in_err-answer : goal.returns-in_err-answer
returns-in_err-answer g c =
    let p = err_from_is_err_and c.from_residual.result c.from_residual.ensures.1 in
    rw (p.1, p.2) (read_missed _ _ _ _ c.args.s _ c.in_err-answer.ensures)

pub returns-in-Ok : goal.returns-in-Ok
returns-in-Ok g c =
    asks_read c.args.tid (g.P.Port.state c.args.port.now) (g.P.Port.state c.retry.new.port) c.args.s c.in_ok-answer.answer
    c.in-Ok.row c.in_ok-answer.ensures c.in-Ok.ensures (g.met.P.Steady.steady c.retry.new.port)

pub refused-requires : goal.refused-requires
refused-requires g c =
    read_met {A = Row} (λ row part. Unit {0}) c.args.tid (g.P.Port.state c.args.port.now) (g.P.Port.state c.retry.new.port)
    c.args.s c.in_ok-answer.answer c.in_ok-answer.ensures _ c.in-Err.ensures.0

pub returns : goal.returns
returns g c =
    read_refused _ _ _ _ c.args.s c.in_ok-answer.answer c.in_ok-answer.ensures _ _ _ c.in-Err.ensures.0 c.in-Err.ensures.1
    c.refused.ensures
