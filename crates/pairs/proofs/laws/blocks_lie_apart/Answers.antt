use Rattle.pairs.proofs.VersionsLaws.{block-here, block-there, block-lives}
use Rattle.pairs.proofs.laws.blocks_lie_apart.Goals as goal

pub returns-clause-here : goal.returns-clause-here
returns-clause-here c = block-here

pub returns-clause-elsewhere : goal.returns-clause-elsewhere
returns-clause-elsewhere c = block-there

pub returns-clause-pairs : goal.returns-clause-pairs
returns-clause-pairs c = block-lives
