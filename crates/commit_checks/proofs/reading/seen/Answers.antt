use Rattle.commit_checks.proofs.Overtaking.{on_none}
use Rattle.commit_checks.proofs.reading.seen.Goals as goal

pub returns-in-Page : goal.returns-in-Page
returns-in-Page c = on_none _

pub returns-in_default : goal.returns-in_default
returns-in_default c = on_none _
