use Rattle.std.proofs.Common.{◌≡◌, nat_le, true, false, rules}
use Rattle.fs_rules.specs.Checks.{is_live}
use Rattle.fs_rules.specs.Limits.{most_links}
use Rattle.fs_rules.specs.Making.{lacks_cookies}
use Rattle.plain_tree.specs.Trees.{tree_of}
use Rattle.plain_tree.proofs.Ready.{can_link}
use Rattle.plain_tree.proofs.plain.Plain.link_plan.Goals as goal

pub returns-clause-ready : goal.returns-clause-ready
unfolding Rattle.fs_rules.specs.Limits.most_links
returns-clause-ready c =
    let file = c.in_ok-file.file in
    let directory = c.in_ok-directory.directory in
    let file_live : is_live file.place ≡ true = search rules in
    let live : is_live directory.place ≡ true = search rules in
    let few : nat_le most_links file.inode.nlink ≡ false = search rules in
    let cookies : lacks_cookies directory.inode ≡ false = search rules in
    can_link (tree_of c.args.self.now) file directory _ c.in_ok-file.ensures.stands file_live c.in_ok-directory.ensures.stands
    live
    few cookies (search rules) (search rules)
