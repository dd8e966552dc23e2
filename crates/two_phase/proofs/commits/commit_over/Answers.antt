use Rattle.std.proofs.lemmas.Result.{err_from_is_err_and}
use Rattle.two_phase.proofs.Several.{may_prepare, is_ready, commits_ready, commits_unprepared, refused_known, refused_met}
use Rattle.two_phase.proofs.Several.{commits_unfinished, commits_unmet, commits_refused, first_home}
use Rattle.two_phase.proofs.commits.commit_over.Goals as goal

pub prepare_all-requires : goal.prepare_all-requires
prepare_all-requires g c =
    may_prepare g.P.Rules.Meaning.stands g.P.Rules.Meaning.next _ _ _ _ _ _ c.requires.transaction c.requires.listed
    (first_home _ _ c.requires.listed)

pub returns-in_err-prepared : goal.returns-in_err-prepared
returns-in_err-prepared g c =
    let p = err_from_is_err_and c.from_residual.result c.from_residual.ensures.1 in
    rw (p.1, p.2)
    (commits_unprepared g.P.Rules.Meaning.stands g.P.Rules.Meaning.next _ _ _ _ _ _ c.requires.transaction c.requires.listed
    (first_home _ _ c.requires.listed) _ _ c.in_err-prepared.ensures)

pub commit_prepared-requires-clause-ready : goal.commit_prepared-requires-clause-ready
commit_prepared-requires-clause-ready g c =
    is_ready g.P.Rules.Meaning.stands g.P.Rules.Meaning.next _ _ _ _ _ _ c.requires.transaction c.requires.listed
    (first_home _ _ c.requires.listed) _ (rw c.in-Ready.is at c.in_ok-prepared.ensures)

pub returns-in-Ready : goal.returns-in-Ready
returns-in-Ready g c =
    commits_ready g.P.Rules.Meaning.stands g.P.Rules.Meaning.next _ _ _ _ _ _ c.requires.transaction c.requires.listed
    (first_home _ _ c.requires.listed) _ (rw c.in-Ready.is at c.in_ok-prepared.ensures) _ _ c.commit_prepared.ensures

pub finish-requires : goal.finish-requires
finish-requires g c =
    refused_known g.P.Rules.Meaning.stands g.P.Rules.Meaning.next _ _ _ _ _ _ c.requires.transaction c.requires.listed
    (first_home _ _ c.requires.listed) _ _ _ (rw c.in-Refused.is at c.in_ok-prepared.ensures)

pub returns-in_err-_commit-in-Refused : goal.returns-in_err-_commit-in-Refused
returns-in_err-_commit-in-Refused g c =
    let r = c.from_residual-in_err-_commit-in-Refused in
    let p = err_from_is_err_and r.result r.ensures.1 in
    rw (p.1, p.2)
    (commits_unfinished g.P.Rules.Meaning.stands g.P.Rules.Meaning.next _ _ _ _ _ _ c.requires.transaction c.requires.listed
    (first_home _ _ c.requires.listed) _ _ _ (rw c.in-Refused.is at c.in_ok-prepared.ensures) _ _
    c.in_err-_commit-in-Refused.ensures)

pub met-requires : goal.met-requires
met-requires g c =
    refused_met g.P.Rules.Meaning.stands g.P.Rules.Meaning.next _ _ _ _ _ _ c.requires.transaction c.requires.listed
    (first_home _ _ c.requires.listed) _ _ _ (rw c.in-Refused.is at c.in_ok-prepared.ensures) _ _
    c.in_ok-_commit-in-Refused.ensures

pub returns-in_err-cross-in-Refused : goal.returns-in_err-cross-in-Refused
returns-in_err-cross-in-Refused g c =
    let r = c.from_residual-in_err-cross-in-Refused in
    let p = err_from_is_err_and r.result r.ensures.1 in
    rw (p.1, p.2)
    (commits_unmet g.P.Rules.Meaning.stands g.P.Rules.Meaning.next _ _ _ _ _ _ c.requires.transaction c.requires.listed
    (first_home _ _ c.requires.listed) _ _ _ (rw c.in-Refused.is at c.in_ok-prepared.ensures) _ _
    c.in_ok-_commit-in-Refused.ensures _ _
    c.in_err-cross-in-Refused.ensures)

pub returns-in_ok-cross-in-Refused : goal.returns-in_ok-cross-in-Refused
returns-in_ok-cross-in-Refused g c =
    commits_refused g.P.Rules.Meaning.stands g.P.Rules.Meaning.next _ _ _ _ _ _ c.requires.transaction c.requires.listed
    (first_home _ _ c.requires.listed) _ _ _ (rw c.in-Refused.is at c.in_ok-prepared.ensures) _ _
    c.in_ok-_commit-in-Refused.ensures
    c.requires.several _ _ c.in_ok-cross-in-Refused.ensures
