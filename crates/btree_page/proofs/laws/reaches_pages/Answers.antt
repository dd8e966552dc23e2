use Rattle.btree_page.proofs.Trees.{reaches_pages}
use Rattle.btree_page.proofs.laws.reaches_pages.Goals as goal

pub returns : goal.returns
returns c = reaches_pages
