use Rattle.pairs.proofs.VersionsLaws.{live-del, earlier-del, others-del, has-del}
use Rattle.pairs.proofs.laws.dels_are_seen.Goals as goal

pub returns-clause-live : goal.returns-clause-live
returns-clause-live c = live-del

pub returns-clause-earlier : goal.returns-clause-earlier
returns-clause-earlier c = earlier-del

pub returns-clause-others : goal.returns-clause-others
returns-clause-others c = others-del

pub returns-clause-lives : goal.returns-clause-lives
returns-clause-lives c = has-del
