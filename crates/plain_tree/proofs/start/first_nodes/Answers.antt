use Rattle.plain_tree.proofs.Starting.{only}
use Rattle.plain_tree.proofs.start.first_nodes.Goals as goal

pub returns : goal.returns
returns c = only _ _ _ _ c.in_ok-insert.ensures.ok c.new-nodes.ensures c.root.ensures
