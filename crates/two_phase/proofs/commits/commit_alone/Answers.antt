use Rattle.std.proofs.lemmas.Result.{err_from_is_err_and}
use Rattle.two_phase.proofs.Alone.{fair_alone, alone_below, alone_faulted, alone_done, alone_met, alone_unmet}
use Rattle.two_phase.proofs.Alone.{alone_crossed}
use Rattle.two_phase.proofs.Several.{commits_none}
use Rattle.two_phase.proofs.commits.commit_alone.Goals as goal

pub returns-in_err-command : goal.returns-in_err-command
returns-in_err-command g c =
    let p = err_from_is_err_and c.from_residual.result c.from_residual.ensures.1 in
    rw (p.1, p.2) (commits_none g.P.Rules.Meaning.stands g.P.Rules.Meaning.next _ _ _ _ c.requires)

pub retry-requires-clause-store : goal.retry-requires-clause-store
retry-requires-clause-store g c = alone_below g.P.Rules.Meaning.stands g.P.Rules.Meaning.next _ _ _ _ c.requires

pub retry-requires-clause-fair : goal.retry-requires-clause-fair
retry-requires-clause-fair g c =
    rw c.in_ok-command.ensures (fair_alone g.P.Rules.Meaning.stands g.P.Rules.Meaning.next _ _ _ _ c.requires)

pub returns-in_err-answer : goal.returns-in_err-answer
returns-in_err-answer g c =
    let p = err_from_is_err_and c.from_residual-in_err-answer.result c.from_residual-in_err-answer.ensures.1 in
    rw (p.1, p.2)
    (alone_faulted g.P.Rules.Meaning.stands g.P.Rules.Meaning.next _ _ _ _ c.requires _ _
    (rw c.in_ok-command.ensures at c.in_err-answer.ensures))

pub returns-then-is_wrote : goal.returns-then-is_wrote
returns-then-is_wrote g c =
    alone_done g.P.Rules.Meaning.stands g.P.Rules.Meaning.next _ _ _ _ c.requires _ c.in_ok-answer.answer
    (rw c.in_ok-command.ensures at c.in_ok-answer.ensures) (c.is_wrote.ensures.yes c.if-is_wrote.true)

pub met-requires : goal.met-requires
met-requires g c =
    alone_met g.P.Rules.Meaning.stands g.P.Rules.Meaning.next _ _ _ _ c.requires _ c.in_ok-answer.answer
    (rw c.in_ok-command.ensures at c.in_ok-answer.ensures)

pub returns-in_err-cross : goal.returns-in_err-cross
returns-in_err-cross g c =
    let p = err_from_is_err_and c.from_residual-in_err-cross.result c.from_residual-in_err-cross.ensures.1 in
    rw (p.1, p.2)
    (alone_unmet g.P.Rules.Meaning.stands g.P.Rules.Meaning.next _ _ _ _ c.requires _ c.in_ok-answer.answer
    (rw c.in_ok-command.ensures at c.in_ok-answer.ensures) (c.is_wrote.ensures.no _ c.if-is_wrote.false) _ _
    c.in_err-cross.ensures)

pub returns : goal.returns
returns g c =
    alone_crossed g.P.Rules.Meaning.stands g.P.Rules.Meaning.next _ _ _ _ c.requires _ c.in_ok-answer.answer
    (rw c.in_ok-command.ensures at c.in_ok-answer.ensures) (c.is_wrote.ensures.no _ c.if-is_wrote.false) _ _
    c.in_ok-cross.ensures
