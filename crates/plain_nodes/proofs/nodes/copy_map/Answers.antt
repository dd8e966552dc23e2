use Rattle.std.proofs.Common.{rules}
use Rattle.std.specs.BTreeMap.{get}
use Rattle.std.specs.Cmp.{nat_cmp_total}
use Rattle.std.specs.Map.Iter.{deref_pair}
use Rattle.std.specs.Ordering.{nat_cmp}
use Rattle.std.proofs.lemmas.Map.Iter.{btree_map_turn, rest_more}
use Rattle.plain_nodes.proofs.Copying.{copied_more}
use Rattle.plain_nodes.proofs.nodes.copy_map.Goals as goal

pub loop-fileid-preserved-in-Ok : goal.loop-fileid-preserved-in-Ok
loop-fileid-preserved-in-Ok c =
    let turn = btree_map_turn deref_pair c.loop-fileid.yielded c.into_iter-fileid-iterator.result c.loop-fileid.fileid-iterator
    c.next.new.self c.next.result (c.in-Some.fileid, c.in-Some.node) c.loop-fileid.yielded_by c.in-Some.is
    c.next.ensures.steps nat_cmp_total c.args.map.now (search rules) (search rules) in
    let left = rest_more deref_pair c.loop-fileid.fileid-iterator c.next.new.self c.next.result (c.in-Some.fileid, c.in-Some.node)
    c.in-Some.is c.next.ensures.steps in
    λ q. copied_more (λ x. get nat_cmp c.args.map.now x) (λ x. get nat_cmp c.loop-fileid.copy x)
    (λ x. get nat_cmp c.insert.new.self x) c.in-Some.fileid.now q c.in-Some.node.now c.loop-fileid.fileid-iterator
    c.next.new.self (c.loop-fileid.invariant q) left turn.1 (search rules)
