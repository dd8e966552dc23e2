use Rattle.std.proofs.Common.{◌+◌, ◌<◌, ◌^◌, IfSome, refl, rules, subst, sym}
use Rattle.fs_rules.specs.Edits.{add_link, add_name, set_ctime, touch}
use Rattle.fs_rules.specs.Tree.{Node, Nodes}
use Rattle.plain_nodes.specs.Nodes.{nodes_of}
use Rattle.plain_tree.proofs.Commuting.{kept, swapped}
use Rattle.plain_tree.proofs.plain.Plain.add_link.Goals as goal

pub link-requires : goal.link-requires
link-requires c =
    let p = c.args.plan.now in
    let there = kept (λ (n : Node). n.inode.nlink + 1 < 2 ^ 32) p.directory p.file
    (λ (n : Node). touch c.args.now (add_name c.args.name.now p.file n)) (nodes_of c.args.self.now.nodes)
    (λ n h. h) c.requires.links in
    subst (λ (nodes : Nodes). IfSome (nodes p.file) (λ (n : Node). n.inode.nlink + 1 < 2 ^ 32)) (sym c.in_ok-add_name.ensures.ok)
    there

pub returns-clause-ok : goal.returns-clause-ok
unfolding Rattle.fs_rules.specs.Edits.edit_node
returns-clause-ok c =
    let p = c.args.plan.now in
    let both = swapped p.directory p.file (λ (n : Node). touch c.args.now (add_name c.args.name.now p.file n))
    (λ (n : Node). set_ctime c.args.now (add_link n)) (nodes_of c.args.self.now.nodes) (λ n. refl) in
    search (rules, both)
