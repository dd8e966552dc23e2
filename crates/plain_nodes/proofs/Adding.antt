-- Nodes where one is put in, and put back.
use Rattle.std.proofs.Common.{◌≡◌, ℕ, ◌==◌, if◌then◌else◌, Bool, true, false, Option, Some, IfSome, IsSome, refl, sym, subst, ap}
use Rattle.std.proofs.Common.{◌∙◌, rules}
use Rattle.std.proofs.Math.Path.{fun_ext}
use Rattle.std.proofs.lemmas.Bool.{eqb-true}
use Rattle.fs_rules.specs.Edits.{with_node}
use Rattle.fs_rules.specs.Tree.{Node, Nodes}

one_of : (P : Node → Type 0) (b : Bool) (n : Node) (o : Option Node) → P n → IfSome o P → IfSome (if b then Some n else o) P
one_of P true n o own other = own
one_of P false n o own other = other

-- what is true of the new node and of an earlier one is true of the one that is there now
pub added_has : (P : Node → Type 0) (nodes now : Nodes) (fileid : ℕ) (n : Node) (directory : ℕ)
    → now ≡ with_node fileid (Some n) nodes → P n → IfSome (nodes directory) P → IfSome (now directory) P
unfolding with_node
added_has P nodes now fileid n directory is own other =
    subst (λ (x : Nodes). IfSome (x directory) P) (sym is) (one_of P (directory == fileid) n (nodes directory) own other)

-- the new node is there
pub added_there : (nodes now : Nodes) (fileid : ℕ) (n : Node) → now ≡ with_node fileid (Some n) nodes → IsSome (now fileid)
unfolding with_node
added_there nodes now fileid n is = subst (λ (x : Nodes). IsSome (x fileid)) (sym is) (search rules)

back_at : (nodes : Nodes) (fileid q : ℕ) (n : Node) (b : Bool) → (q == fileid) ≡ b
    → (if b then nodes fileid else (if b then Some n else nodes q)) ≡ nodes q
back_at nodes fileid q n true e = ap nodes (sym (eqb-true q fileid e))
back_at nodes fileid q n false e = refl

-- what had the number is put back
pub put_back_same : (nodes : Nodes) (fileid : ℕ) (n : Node)
    → with_node fileid (nodes fileid) (with_node fileid (Some n) nodes) ≡ nodes
unfolding with_node
put_back_same nodes fileid n = fun_ext (λ q. back_at nodes fileid q n (q == fileid) refl)

pub undone : (nodes now later after : Nodes) (fileid : ℕ) (n : Node) (earlier : Option Node)
    → now ≡ with_node fileid (Some n) nodes → earlier ≡ nodes fileid → later ≡ now → after ≡ with_node fileid earlier later
    → after ≡ nodes
undone nodes now later after fileid n earlier added given same back =
    back ∙ (ap (with_node fileid earlier) (same ∙ added)
    ∙ (ap (λ (o : Option Node). with_node fileid o (with_node fileid (Some n) nodes)) given ∙ put_back_same nodes fileid n))
