use Rattle.std.proofs.Common.{◌<◌, None, subst, sym}
use Rattle.page_types.specs.declared.outcome.Outcome.TheVariants.{Commit}
use Rattle.page_types.specs.Journals.{Origin}
use Rattle.two_phase.proofs.Ended.{end_fair}
use Rattle.commit_checks.specs.Rights.{any_stands, any_next}
use Rattle.commit_checks.proofs.overtaken.conclude.Goals as goal

pub decide-requires-clause-home : goal.decide-requires-clause-home
decide-requires-clause-home c = c.requires.known.home

pub decide-requires-clause-fair : goal.decide-requires-clause-fair
decide-requires-clause-fair c = c.requires.fair

pub resolve_all-requires-clause-parts : goal.resolve_all-requires-clause-parts
resolve_all-requires-clause-parts c = λ store m.
    subst (λ (o : Origin). store < o.stores) (sym c.in_ok-committed.ensures.onward.origin) (c.requires.known.parts store m)

pub resolve_all-requires-clause-fair : goal.resolve_all-requires-clause-fair
resolve_all-requires-clause-fair c = λ store m.
    end_fair any_stands any_next _ _ (record { tid = c.args.tid; outcome = Commit None })
    (record { home = c.args.home; parts = c.args.listed.now }) _ store c.requires.known.names c.in_ok-committed.ensures m
