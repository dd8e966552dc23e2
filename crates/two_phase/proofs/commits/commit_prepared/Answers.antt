use Rattle.std.proofs.Common.{◌<◌, subst, sym}
use Rattle.std.proofs.lemmas.Result.{err_from_is_err_and}
use Rattle.page_types.specs.Journals.{Origin}
use Rattle.two_phase.proofs.Effects.{commit_of}
use Rattle.two_phase.proofs.Ended.{end_fair}
use Rattle.two_phase.proofs.Concluding.{undecided, concludes_done, concludes_fault, concludes_crossed}
use Rattle.two_phase.proofs.commits.commit_prepared.Goals as goal

pub decide-requires-clause-home : goal.decide-requires-clause-home
decide-requires-clause-home g c = c.requires.ready.known.home

pub decide-requires-clause-fair : goal.decide-requires-clause-fair
decide-requires-clause-fair g c = c.requires.ready.fair

pub returns-in_err-committed : goal.returns-in_err-committed
returns-in_err-committed g c =
    let p = err_from_is_err_and c.from_residual.result c.from_residual.ensures.1 in
    rw (p.1, p.2)
    (undecided _ _ (g.P.Port.state c.decide.new.port) _ _ _ _ c.requires.ready.none_yet _ c.in_err-committed.ensures)

pub resolve_all-ended-requires-clause-parts : goal.resolve_all-ended-requires-clause-parts
resolve_all-ended-requires-clause-parts g c = λ store m.
    subst (λ (o : Origin). store < o.stores) (sym c.in_ok-committed.ensures.onward.origin)
    (c.requires.ready.known.parts store m)

pub resolve_all-ended-requires-clause-fair : goal.resolve_all-ended-requires-clause-fair
resolve_all-ended-requires-clause-fair g c = λ store m.
    end_fair g.P.Rules.Meaning.stands g.P.Rules.Meaning.next _ _ (commit_of c.args.tid c.args.entry)
    (record { home = c.args.home; parts = c.args.stores.now }) _ store c.requires.ready.known.names c.in_ok-committed.ensures m

pub returns-then-committed : goal.returns-then-committed
returns-then-committed g c =
    concludes_done _ _ _ _ _ _ _ c.requires.ready.none_yet _ c.in_ok-committed.ensures _ c.resolve_all-ended.ensures
    c.if-committed.true

pub returns-in_err-ended : goal.returns-in_err-ended
returns-in_err-ended g c =
    let p = err_from_is_err_and c.from_residual-in_err-ended.result c.from_residual-in_err-ended.ensures.1 in
    rw (p.1, p.2)
    (concludes_fault _ _ _ _ _ _ _ c.requires.ready.none_yet _ c.if-committed.false c.in_ok-committed.ensures _
    c.in_err-ended.ensures)

pub returns : goal.returns
returns g c =
    concludes_crossed _ _ _ _ _ _ _ c.requires.ready.none_yet _ c.if-committed.false c.in_ok-committed.ensures _
    c.in_ok-ended.ensures c.requires.several
