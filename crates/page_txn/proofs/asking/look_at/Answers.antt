use Rattle.std.proofs.Common.{ℕ}
use Rattle.std.proofs.lemmas.Result.{err_from_is_err_and}
use Rattle.page_txn.proofs.Answering.{asks_lacking, look_missed, look_lengths, look_met, look_refused, look_answered}
use Rattle.page_txn.proofs.asking.look_at.Goals as goal

pub returns-in_err-command : goal.returns-in_err-command
returns-in_err-command g c =
    let p = err_from_is_err_and c.from_residual.result c.from_residual.ensures.1 in
    rw (p.1, p.2) (asks_lacking _ _ _)

pub retry-requires-clause-fair : goal.retry-requires-clause-fair
retry-requires-clause-fair g c = rw c.in_ok-command.ensures tt

pub returns-in_err-answer : goal.returns-in_err-answer
returns-in_err-answer g c =
    let p = err_from_is_err_and c.from_residual-in_err-answer.result c.from_residual-in_err-answer.ensures.1 in
    rw (p.1, p.2) (look_missed _ _ _ _ c.args.s _ c.in_ok-command.ensures _ c.in_err-answer.ensures)

pub version_in-requires : goal.version_in-requires
version_in-requires g c =
    look_lengths {A = ℕ} (λ v part. Unit {0}) c.args.tid _ _ c.args.s _ c.in_ok-command.ensures c.in_ok-answer.answer
    c.in_ok-answer.ensures

pub returns-in-Ok : goal.returns-in-Ok
returns-in-Ok g c =
    look_answered {A = ℕ} (λ v part. Unit {0}) c.args.tid _ _ c.args.s _ c.in_ok-command.ensures c.in_ok-answer.answer
    c.in_ok-answer.ensures _ c.in-Ok.ensures

pub refused-requires : goal.refused-requires
refused-requires g c =
    look_met {A = ℕ} (λ v part. Unit {0}) c.args.tid (g.P.Port.state c.args.port.now) (g.P.Port.state c.retry.new.port)
    c.args.s _ c.in_ok-command.ensures c.in_ok-answer.answer c.in_ok-answer.ensures _ c.in-Err.ensures.0

pub returns : goal.returns
returns g c =
    look_refused _ _ _ _ c.args.s _ c.in_ok-command.ensures c.in_ok-answer.answer c.in_ok-answer.ensures _ _ _
    c.in-Err.ensures.0 c.in-Err.ensures.1 c.refused.ensures
