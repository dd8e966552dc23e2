use Rattle.two_phase.proofs.Completing.{complete}
use Rattle.two_phase.proofs.laws.commits_are_complete.Goals as goal

pub returns : goal.returns
returns c = complete
