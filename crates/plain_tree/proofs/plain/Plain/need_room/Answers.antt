use Rattle.std.proofs.Common.{◌≡◌, ℕ, ◌<◌, ◌^◌, ◌&&◌, nat_le, is_none, false, rules, subst}
use Rattle.fs_rules.specs.Attributes.{given}
use Rattle.fs_rules.specs.Limits.{most_links}
use Rattle.fs_rules.specs.Making.{lacks_cookies}
use Rattle.fs_rules.specs.Renaming.{is_in_the_way, reparents}
use Rattle.plain_tree.specs.Trees.{tree_of}
use Rattle.plain_tree.proofs.plain.Plain.need_room.Goals as goal

pub returns-clause-room : goal.returns-clause-room
unfolding most_links
returns-clause-room c =
    let r = c.args.r.now in
    let links : c.nlink-links.result ≡ r.to.inode.nlink = search rules in
    let few : r.to.inode.nlink < 2 ^ 32 = subst (λ (n : ℕ). n < 2 ^ 32) links c.nlink-links.type_inv in
    let free : given r.target (is_in_the_way (tree_of c.args.self.now) r.source) ≡ false = search rules in
    let enough : (reparents r && is_none r.target && nat_le most_links r.to.inode.nlink) ≡ false = search rules in
    let cookies : lacks_cookies r.to.inode ≡ false = search rules in
    record { few = few; free = free; enough = enough; cookies = cookies }
