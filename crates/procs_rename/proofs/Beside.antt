-- Nodes of a tree of which a node was edited, this one or another.
use Rattle.std.proofs.Common.{◌≡◌, ◌≢◌, ℕ, Option, Some, None, refl, sym, ◌∙◌, subst}
use Rattle.std.specs.Prelude.{option_map, IsSomeAnd}
use Rattle.fs_rules.specs.Edits.{with_node, edit_node}
use Rattle.fs_rules.specs.Tree.{Tree, Node, Nodes}
use Rattle.fs_shows.proofs.NodeEdits.{each-node}
use Rattle.inode_ops.proofs.Revising.{some-weaker}

edited-some : (P Q : Node → Type 0) (g : Node → Node) (o : Option Node) → ((n : Node) → P n → Q (g n)) → IsSomeAnd o P
    → IsSomeAnd (option_map g o) Q
edited-some P Q g None says is = is
edited-some P Q g (Some n) says is = says n is

-- another node was edited, or this one
pub node-edited : (t : Tree) (d id : ℕ) (g : Node → Node) (P Q : Node → Type 0) → ((n : Node) → d ≡ id → P n → Q (g n))
    → ((n : Node) → d ≢ id → P n → Q n) → IsSomeAnd (t.nodes d) P → IsSomeAnd ((edit_node id g t).nodes d) Q
unfolding edit_node
node-edited t d id g P Q here there is =
    each-node (λ i o. i ≡ d → IsSomeAnd o Q) id (option_map g (t.nodes id)) t.nodes
    (λ same. edited-some P Q g (t.nodes id) (λ n. here n (sym same)) (subst (λ i. IsSomeAnd (t.nodes i) P) (sym same) is))
    (λ i other same. subst (λ i. IsSomeAnd (t.nodes i) Q) (sym same)
    (some-weaker (t.nodes d) P Q (λ n. there n (λ is. other (same ∙ is))) is)) d refl

-- an edit that leaves what is so of nodes
pub node-still : (t : Tree) (d id : ℕ) (g : Node → Node) (P : Node → Type 0) → ((n : Node) → P n → P (g n))
    → IsSomeAnd (t.nodes d) P → IsSomeAnd ((edit_node id g t).nodes d) P
node-still t d id g P says is = node-edited t d id g P P (λ n same. says n) (λ n other is. is) is

-- the node of another number is another one now, or gone
pub node-beside : (nodes : Nodes) (d id : ℕ) (m : Option Node) (P : Node → Type 0) → d ≢ id → IsSomeAnd (nodes d) P
    → IsSomeAnd (with_node id m nodes d) P
node-beside nodes d id m P other is =
    each-node (λ i o. i ≡ d → IsSomeAnd o P) id m nodes (λ same. absurd (other (sym same)))
    (λ i differs same. subst (λ i. IsSomeAnd (nodes i) P) (sym same) is) d refl
