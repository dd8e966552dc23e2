use Rattle.btree_page.proofs.Trees.{has_one_content}
use Rattle.btree_page.proofs.laws.one_content.Goals as goal

pub returns : goal.returns
returns c = has_one_content
