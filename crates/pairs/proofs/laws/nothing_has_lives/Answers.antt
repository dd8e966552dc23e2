use Rattle.pairs.proofs.VersionsLaws.{has-nothing}
use Rattle.pairs.proofs.laws.nothing_has_lives.Goals as goal

pub returns : goal.returns
returns c = has-nothing
