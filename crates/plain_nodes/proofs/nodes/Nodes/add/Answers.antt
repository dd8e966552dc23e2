use Rattle.std.proofs.Common.{◌≡◌, false, ◌∙◌, option_map, subst}
use Rattle.fs_rules.specs.Edits.{with_node}
use Rattle.fs_rules.specs.Making.{gain_name, lacks_cookies, lacks_links}
use Rattle.fs_rules.specs.Tree.{Node, Nodes}
use Rattle.plain_nodes.specs.Nodes.{nodes_of}
use Rattle.plain_nodes.proofs.Adding.{added_has, added_there, undone}
use Rattle.plain_nodes.proofs.nodes.Nodes.add.Goals as goal

pub gain_name-requires-clause-links : goal.gain_name-requires-clause-links
gain_name-requires-clause-links c =
    added_has (λ (n : Node). lacks_links c.args.kind n.inode ≡ false) (nodes_of c.args.self.now) _ c.args.fileid c.args.node
    c.args.directory c.in_ok-earlier.ensures.ok c.requires.own_links c.requires.links

pub gain_name-requires-clause-cookies : goal.gain_name-requires-clause-cookies
gain_name-requires-clause-cookies c =
    added_has (λ (n : Node). lacks_cookies n.inode ≡ false) (nodes_of c.args.self.now) _ c.args.fileid c.args.node
    c.args.directory c.in_ok-earlier.ensures.ok c.requires.own_cookies c.requires.cookies

pub put_back-requires : goal.put_back-requires
put_back-requires c = added_there (nodes_of c.args.self.now) _ c.args.fileid c.args.node (c.in_default.ensures.err
    ∙ c.in_ok-earlier.ensures.ok)

pub returns-in_default-clause-err : goal.returns-in_default-clause-err
returns-in_default-clause-err c =
    undone (nodes_of c.args.self.now) _ _ _ c.args.fileid c.args.node c.in_ok-earlier.earlier c.in_ok-earlier.ensures.ok
    c.in_ok-earlier.ensures.given c.in_default.ensures.err c.put_back.ensures

pub returns-clause-ok : goal.returns-clause-ok
returns-clause-ok c =
    subst (λ (x : Nodes). nodes_of c.gain_name.new.self ≡ with_node c.args.directory
    (option_map (gain_name c.args.kind c.args.name.now c.args.fileid c.args.now) (x c.args.directory)) x)
    c.in_ok-earlier.ensures.ok c.in-Ok.ensures.ok
