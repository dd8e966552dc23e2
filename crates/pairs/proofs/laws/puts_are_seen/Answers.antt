use Rattle.pairs.proofs.VersionsLaws.{live-put, birth-put, later-put, earlier-put, others-put, has-put}
use Rattle.pairs.proofs.laws.puts_are_seen.Goals as goal

pub returns-clause-live : goal.returns-clause-live
returns-clause-live c = live-put

pub returns-clause-born : goal.returns-clause-born
returns-clause-born c = birth-put

pub returns-clause-later : goal.returns-clause-later
returns-clause-later c = later-put

pub returns-clause-earlier : goal.returns-clause-earlier
returns-clause-earlier c = earlier-put

pub returns-clause-others : goal.returns-clause-others
returns-clause-others c = others-put

pub returns-clause-lives : goal.returns-clause-lives
returns-clause-lives c = has-put
