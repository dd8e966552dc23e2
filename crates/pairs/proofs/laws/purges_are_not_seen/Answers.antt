use Rattle.pairs.proofs.VersionsLaws.{live-purge, kept-purge, has-purge}
use Rattle.pairs.proofs.laws.purges_are_not_seen.Goals as goal

pub returns-clause-live : goal.returns-clause-live
returns-clause-live c = live-purge

pub returns-clause-kept : goal.returns-clause-kept
returns-clause-kept c = kept-purge

pub returns-clause-lives : goal.returns-clause-lives
returns-clause-lives c = has-purge
