use Rattle.std.proofs.Common.{◌∙◌, arith}
use Rattle.std.specs.BTreeMap.{keys}
use Rattle.plain_nodes.proofs.Counting.{bytes_counted, counted_first, counted_fits, counted_last, counted_next, keys_list}
use Rattle.plain_nodes.proofs.nodes.Nodes.byte_count.Goals as goal

pub loop-node-init : goal.loop-node-init
loop-node-init c = counted_first c.args.self.now.map.entries _ c.into_iter-node-iterator.ensures.into_iter_gives.0

pub overflow_add-count : goal.overflow_add-count
overflow_add-count c =
    let small = counted_fits c.args.self.now.map.entries c.loop-node.node-iterator c.next.new.self (
      c.in-Some.field-0-0.now,
      c.in-Some.node.now,
    ) c.loop-node.count c.byte_count.result
    c.loop-node.invariant c.in-Some.ensures.steps c.byte_count.type_inv c.into_iter-node-iterator.ensures.into_iter_gives.1 in
    omega (arith, small)

pub loop-node-preserved : goal.loop-node-preserved
loop-node-preserved c =
    counted_next c.args.self.now.map.entries c.loop-node.node-iterator c.next.new.self (
      c.in-Some.field-0-0.now,
      c.in-Some.node.now,
    ) c.loop-node.count c.byte_count.result
    c.loop-node.invariant c.in-Some.ensures.steps c.byte_count.ensures c.byte_count.type_inv

pub returns-clause-bytes : goal.returns-clause-bytes
returns-clause-bytes c = λ ids l.
    counted_last c.args.self.now.map.entries c.loop-node.node-iterator c.loop-node.count c.loop-node.invariant
    c.in-None.ensures.steps.0
    ∙ bytes_counted c.args.self.now.map c.into_iter-node-iterator.ensures.into_iter_gives.5
    c.into_iter-node-iterator.ensures.into_iter_gives.6 ids l

pub returns-clause-listed : goal.returns-clause-listed
returns-clause-listed c =
    (keys c.args.self.now.map, keys_list c.args.self.now.map c.into_iter-node-iterator.ensures.into_iter_gives.5)
