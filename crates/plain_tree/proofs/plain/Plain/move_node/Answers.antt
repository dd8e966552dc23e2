use Rattle.std.proofs.Common.{◌≡◌, ◌+◌, ◌<◌, ◌^◌, IfSome, rules, subst, sym, vec_capacity}
use Rattle.fs_rules.specs.Tree.{Node, Nodes, Tree}
use Rattle.plain_nodes.specs.Needs.{HasRoom}
use Rattle.plain_nodes.specs.Nodes.{nodes_of}
use Rattle.plain_tree.specs.Trees.{tree_of}
use Rattle.plain_tree.proofs.Moved.{links_replaced, moves_by, room_at_first, room_left, room_relinked, room_replaced}
use Rattle.plain_tree.proofs.plain.Plain.move_node.Goals as goal

pub relink-requires : goal.relink-requires
relink-requires c = λ on.
    subst (λ (t : Tree). IfSome (t.nodes c.args.plan.now.to) (λ (n : Node). n.inode.nlink + 1 < 2 ^ 32)) (sym c.replace.ensures)
    (links_replaced c.args.now c.args.plan.now.to c.as_slice-2.result.now c.args.plan.now.replaced (tree_of c.args.self.now)
    (c.requires.links on))

pub take_name-requires-clause-enough : goal.take_name-requires-clause-enough
take_name-requires-clause-enough c =
    let m = c.args.plan.now in
    let most = vec_capacity c.in_ok-room.room in
    let first = room_at_first most (nodes_of c.args.self.now.nodes m.to) c.requires.cookies c.in_ok-room.ensures.enough in
    let second = room_replaced most c.args.now m.to c.as_slice-2.result.now m.replaced (tree_of c.args.self.now) first in
    let third = room_relinked most m (tree_of c.replace.new.self) (subst (λ (t : Tree). IfSome (t.nodes m.to) (HasRoom most))
    (sym c.replace.ensures) second) in
    let fourth = room_left most c.args.now m.from m.to c.as_slice-3.result.now (tree_of c.relink.new.self).nodes
    (subst (λ (t : Tree). IfSome (t.nodes m.to) (HasRoom most)) (sym c.relink.ensures) third) in
    subst (λ (nodes : Nodes). IfSome (nodes m.to) (HasRoom most)) (sym c.drop_name.ensures) fourth

pub returns-clause-ok : goal.returns-clause-ok
returns-clause-ok c =
    let to : c.as_slice-2.result.now ≡ c.args.a.now.to.name = search rules in
    let from : c.as_slice-3.result.now ≡ c.args.a.now.from.name = search rules in
    let new : c.in_ok-name.name ≡ c.args.a.now.to.name = search rules in
    moves_by c.args.now c.args.a.now c.args.plan.now (tree_of c.args.self.now) (tree_of c.replace.new.self)
    (tree_of c.relink.new.self)
    (nodes_of c.drop_name.new.self) (nodes_of c.take_name.new.self) (nodes_of c.renew.new.self) c.as_slice-2.result.now
    c.as_slice-3.result.now c.in_ok-name.name
    to from new c.replace.ensures c.relink.ensures c.drop_name.ensures c.take_name.ensures c.renew.ensures
