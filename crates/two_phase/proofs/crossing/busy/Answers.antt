use Rattle.std.proofs.Common.{◌≡◌, ◌∙◌, sym, false}
use Rattle.std.proofs.lemmas.Result.{err_from_is_err_and}
use Rattle.two_phase.specs.Commits.{is_later}
use Rattle.two_phase.proofs.Meeting.{other_finished, other_faulted}
use Rattle.two_phase.proofs.crossing.busy.Goals as goal

pub returns-in_err-_commit : goal.returns-in_err-_commit
returns-in_err-_commit g c =
    let older : is_later c.args.tid c.args.holder ≡ false = sym c.is_not_older.ensures ∙ c.if-is_not_older.false in
    let p = err_from_is_err_and c.from_residual.result c.from_residual.ensures.1 in
    rw (p.1, p.2) (other_faulted _ _ _ _ _ older _ c.in_err-_commit.ensures)

pub returns : goal.returns
returns g c =
    let older : is_later c.args.tid c.args.holder ≡ false = sym c.is_not_older.ensures ∙ c.if-is_not_older.false in
    other_finished _ _ _ _ _ older _ c.in_ok-_commit.ensures
