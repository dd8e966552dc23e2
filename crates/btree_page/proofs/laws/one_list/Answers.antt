use Rattle.btree_page.proofs.Trees.{one_list}
use Rattle.btree_page.proofs.laws.one_list.Goals as goal

pub returns : goal.returns
returns c = one_list
