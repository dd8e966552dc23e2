use Rattle.std.proofs.Common.{◌≡◌, ◌+◌, ◌<◌, ◌^◌, true, IfSome, rules, subst, sym}
use Rattle.fs_rules.specs.Tree.{Node, Nodes}
use Rattle.plain_nodes.specs.Nodes.{nodes_of}
use Rattle.plain_tree.proofs.Moved.{links_left}
use Rattle.plain_tree.proofs.plain.Plain.relink.Goals as goal

pub add_link-requires : goal.add_link-requires
add_link-requires c =
    let m = c.args.plan.now in
    let on : m.reparents ≡ true = search rules in
    subst (λ (nodes : Nodes). IfSome (nodes m.to) (λ (n : Node). n.inode.nlink + 1 < 2 ^ 32)) (sym c.drop_link.ensures)
    (links_left m.from m.to (nodes_of c.args.self.now.nodes) (c.requires on))
