use Rattle.std.proofs.Common.{◌<◌, subst, sym}
use Rattle.std.proofs.lemmas.Result.{err_from_is_err_and}
use Rattle.page_types.specs.Journals.{Origin}
use Rattle.two_phase.specs.Endings.{abort_of}
use Rattle.two_phase.proofs.Ended.{end_fair, finish_undecided, finish_faulted, finish_done}
use Rattle.two_phase.proofs.endings.finish.Goals as goal

pub returns-in_err-commit : goal.returns-in_err-commit
returns-in_err-commit g c =
    let p = err_from_is_err_and c.from_residual.result c.from_residual.ensures.1 in
    rw (p.1, p.2) (finish_undecided _ _ (g.P.Port.state c.decide.new.port) _ _ _ c.in_err-commit.ensures)

pub resolve_all-requires-clause-parts : goal.resolve_all-requires-clause-parts
resolve_all-requires-clause-parts g c = λ store m.
    subst (λ (o : Origin). store < o.stores) (sym c.in_ok-commit.ensures.onward.origin) (c.requires.parts store m)

pub resolve_all-requires-clause-fair : goal.resolve_all-requires-clause-fair
resolve_all-requires-clause-fair g c = λ store m.
    end_fair g.P.Rules.Meaning.stands g.P.Rules.Meaning.next _ _ (abort_of c.args.tid)
    (record { home = c.args.home; parts = c.args.parts.now }) _ store c.requires.names c.in_ok-commit.ensures m

pub returns-in_err-resolve_all : goal.returns-in_err-resolve_all
returns-in_err-resolve_all g c =
    let p = err_from_is_err_and c.from_residual-in_err-resolve_all.result c.from_residual-in_err-resolve_all.ensures.1 in
    rw (p.1, p.2) (finish_faulted _ _ _ _ _ _ c.in_ok-commit.ensures _ c.in_err-resolve_all.ensures)

pub returns : goal.returns
returns g c = finish_done _ _ _ _ _ _ c.in_ok-commit.ensures _ c.in_ok-resolve_all.ensures
