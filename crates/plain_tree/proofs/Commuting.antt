-- Edits of nodes that can be done in either order.
use Rattle.std.proofs.Common.{◌≡◌, ℕ, Option, Some, None, IfSome, option_map, ⊎_elim, refl, ap, arith, subst}
use Rattle.std.proofs.Math.Path.{fun_ext}
use Rattle.std.proofs.lemmas.Bool.{cases_eq}
use Rattle.fs_rules.specs.Edits.{with_node}
use Rattle.fs_rules.specs.Tree.{Node, Nodes}

mapped_twice : (f g : Node → Node) (o : Option Node) → ((n : Node) → g (f n) ≡ f (g n))
    → option_map g (option_map f o) ≡ option_map f (option_map g o)
mapped_twice f g (Some n) same = ap Some (same n)
mapped_twice f g None same = refl

swapped_same : (d : ℕ) (f g : Node → Node) (nodes : Nodes) (id : ℕ) → ((n : Node) → g (f n) ≡ f (g n))
    → with_node d (option_map g (with_node d (option_map f (nodes d)) nodes d)) (with_node d (option_map f (nodes d)) nodes) id
    ≡ with_node d (option_map f (with_node d (option_map g (nodes d)) nodes d)) (with_node d (option_map g (nodes d)) nodes) id
unfolding with_node
swapped_same d f g nodes id same = grind (arith, mapped_twice f g (nodes d) same)

swapped_apart : (d q : ℕ) (f g : Node → Node) (nodes : Nodes) (id : ℕ) → (d ≡ q → ⊥)
    → with_node q (option_map g (with_node d (option_map f (nodes d)) nodes q)) (with_node d (option_map f (nodes d)) nodes) id
    ≡ with_node d (option_map f (with_node q (option_map g (nodes q)) nodes d)) (with_node q (option_map g (nodes q)) nodes) id
unfolding with_node
swapped_apart d q f g nodes id apart = grind (arith, apart)

-- two edits that do not hinder each other, of nodes that may be the same
pub swapped : (d q : ℕ) (f g : Node → Node) (nodes : Nodes) → ((n : Node) → g (f n) ≡ f (g n))
    → with_node q (option_map g (with_node d (option_map f (nodes d)) nodes q)) (with_node d (option_map f (nodes d)) nodes)
    ≡ with_node d (option_map f (with_node q (option_map g (nodes q)) nodes d)) (with_node q (option_map g (nodes q)) nodes)
swapped d q f g nodes same =
    fun_ext (λ id. ⊎_elim
    (λ is. subst (λ (r : ℕ). with_node r (option_map g (with_node d (option_map f (nodes d)) nodes r))
    (with_node d (option_map f (nodes d)) nodes) id
    ≡ with_node d (option_map f (with_node r (option_map g (nodes r)) nodes d)) (with_node r (option_map g (nodes r)) nodes) id)
    is (swapped_same d f g nodes id same))
    (λ apart. swapped_apart d q f g nodes id apart)
    (cases_eq d q))

kept_same : (P : Node → Type 0) (f : Node → Node) (o : Option Node) → ((n : Node) → P n → P (f n)) → IfSome o P
    → IfSome (option_map f o) P
kept_same P f (Some n) keeps h = keeps n h
kept_same P f None keeps h = h

-- what an edit of a node keeps
pub kept : (P : Node → Type 0) (d q : ℕ) (f : Node → Node) (nodes : Nodes) → ((n : Node) → P n → P (f n)) → IfSome (nodes q) P
    → IfSome (with_node d (option_map f (nodes d)) nodes q) P
unfolding with_node
kept P d q f nodes keeps h =
    ⊎_elim
    (λ is. subst (λ (o : Option Node). IfSome o P) (grind (arith, is)) (kept_same P f (nodes q) keeps h))
    (λ apart. subst (λ (o : Option Node). IfSome o P) (grind (arith, apart)) h)
    (cases_eq q d)
