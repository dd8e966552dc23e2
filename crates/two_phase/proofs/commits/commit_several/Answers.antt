use Rattle.std.proofs.lemmas.Result.{err_from_is_err_and}
use Rattle.two_phase.proofs.Several.{commits_none}
use Rattle.two_phase.proofs.commits.commit_several.Goals as goal

pub returns-in_err-stores : goal.returns-in_err-stores
returns-in_err-stores g c =
    let p = err_from_is_err_and c.from_residual.result c.from_residual.ensures.1 in
    rw (p.1, p.2)
    (commits_none g.P.Rules.Meaning.stands g.P.Rules.Meaning.next _ _ _ _ c.requires.transaction)
