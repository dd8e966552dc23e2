-- A file loses a name, by one call or another, as it has links.
use Rattle.std.proofs.Common.{◌≡◌, ℕ, ◌<◌, ◌≤◌, Bool, true, false, if◌then◌else◌, Option, Some, None, refl, ap, subst, sym, arith}
use Rattle.std.proofs.lemmas.Grind.{common_steps}
use Rattle.std.specs.Prelude.{nat_lt, option_map, option_and_then}
use Rattle.fs_rules.specs.Edits.{edit_node, drop_node, with_node}
use Rattle.fs_rules.specs.Removing.{lose_link, lose_name}
use Rattle.fs_rules.specs.Tree.{Tree, Node}
use Rattle.nfs3_types.specs.declared.moment.Moment.{Moment}
use Rattle.fs_keys.specs.declared.inode.Inode.{Inode}
use Rattle.fs_shows.specs.Views.{IsFoundAs}
use Rattle.inode_ops.specs.declared.change.Change.TheVariants.{Unlink}
use Rattle.inode_ops.specs.Changes.{edited_by}

below-true : (a b : ℕ) → a < b → nat_lt a b ≡ true
below-true a b less = grind (arith, common_steps)

below-false : (a b : ℕ) → b ≤ a → nat_lt a b ≡ false
below-false a b less = grind (arith, common_steps)

-- with more than one link it stays
stays-with : (now : Moment) (i : Inode) (o : Option Node) → 1 < i.head.kept.nlink → IsFoundAs (Some i) o
    → option_map (edited_by (Unlink now)) o ≡ option_and_then (lose_link now) o
stays-with now i None more found = absurd found
stays-with now i (Some n) more found =
    let t : nat_lt 1 n.inode.nlink ≡ true = below-true 1 n.inode.nlink (subst (λ k. 1 < k.nlink) found.kept more) in
    rw t refl

-- with the last one it goes
goes-with : (now : Moment) (i : Inode) (o : Option Node) → i.head.kept.nlink ≤ 1 → IsFoundAs (Some i) o → None ≡ option_and_then
    (lose_link now) o
goes-with now i None few found = refl
goes-with now i (Some n) few found =
    let t : nat_lt 1 n.inode.nlink ≡ false = below-false 1 n.inode.nlink (subst (λ k. k.nlink ≤ 1) found.kept few) in
    rw t refl

pub loses-link : (now : Moment) (id : ℕ) (i : Inode) (t : Tree) → 1 < i.head.kept.nlink → IsFoundAs (Some i) (t.nodes id)
    → edit_node id (edited_by (Unlink now)) t ≡ lose_name now id t
unfolding edit_node lose_name
loses-link now id i t more found = ap (λ (o : Option Node). record t { nodes = with_node id o t.nodes })
    (stays-with now i (t.nodes id) more found)

pub loses-last : (now : Moment) (id : ℕ) (i : Inode) (t : Tree) → i.head.kept.nlink ≤ 1 → IsFoundAs (Some i) (t.nodes id)
    → drop_node id t ≡ lose_name now id t
unfolding drop_node lose_name
loses-last now id i t few found = ap (λ (o : Option Node). record t { nodes = with_node id o t.nodes })
    (goes-with now i (t.nodes id) few found)
