use Rattle.btree_page.proofs.Trees.{keeps_trees}
use Rattle.btree_page.proofs.laws.keeps_trees.Goals as goal

pub returns : goal.returns
returns c = keeps_trees
