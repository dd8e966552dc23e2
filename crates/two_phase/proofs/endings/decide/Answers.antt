use Rattle.std.proofs.lemmas.Result.{err_from_is_err_and}
use Rattle.two_phase.proofs.Ended.{decides_ok, decides_fault, decides_none}
use Rattle.two_phase.proofs.endings.decide.Goals as goal

pub returns-in_err-command : goal.returns-in_err-command
returns-in_err-command g c =
    let p = err_from_is_err_and c.from_residual.result c.from_residual.ensures.1 in rw (p.1, p.2) (decides_none _ _ _)

pub returns-in_err-answer : goal.returns-in_err-answer
returns-in_err-answer g c =
    let p = err_from_is_err_and c.from_residual-in_err-answer.result c.from_residual-in_err-answer.ensures.1 in
    rw (p.1, p.2) (decides_fault _ _ _ _ _ (rw c.in_ok-command.ensures at c.in_err-answer.ensures))

pub returns : goal.returns
returns g c =
    decides_ok _ _ _ _ c.in_ok-answer.answer c.tells_commit.result c.tells_commit.ensures
    (rw c.in_ok-command.ensures at c.in_ok-answer.ensures)
