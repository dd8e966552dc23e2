use Rattle.btree_page.proofs.Whole.{front_is}
use Rattle.btree_page.proofs.view.front.Goals as goal

pub returns : goal.returns
returns c = front_is c.min.result c.args.text.now c.min.ensures
