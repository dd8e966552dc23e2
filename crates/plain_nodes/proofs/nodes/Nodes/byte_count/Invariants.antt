use Rattle.plain_nodes.proofs.Counting.{Counted}
use Rattle.plain_nodes.proofs.nodes.Nodes.byte_count.Given as goal

abbrev pub invariant-loop-node : goal.invariant-loop-node
invariant-loop-node l = Counted l.self.map.entries l.node-iterator l.count
