use Rattle.std.specs.BTreeMap.{keys}
use Rattle.plain_nodes.proofs.Counting.{keys_list}
use Rattle.plain_nodes.proofs.nodes.Nodes.node_count.Goals as goal

pub returns-clause-listed : goal.returns-clause-listed
returns-clause-listed c = (keys c.args.self.now.map, keys_list c.args.self.now.map c.len.ensures.ordered)
