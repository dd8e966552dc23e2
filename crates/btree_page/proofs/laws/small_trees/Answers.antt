use Rattle.btree_page.proofs.Witnessed.{trees}
use Rattle.btree_page.proofs.laws.small_trees.Goals as goal

pub returns : goal.returns
returns c = trees
