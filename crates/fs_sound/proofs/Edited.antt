-- Nodes where one is another now.
use Rattle.std.proofs.Common.{◌≡◌, ℕ, Bool, if◌then◌else◌, Option, Some, None, option_map, refl, ap, ◌∙◌}
use Rattle.std.proofs.lemmas.Bool.{eq-eqb, ne_eqb}
use Rattle.fs_rules.specs.Edits.{add_node, drop_node, edit_node, with_node}
use Rattle.fs_rules.specs.Tree.{Node, Nodes, Tree}

-- the one that is another
pub here : (fileid : ℕ) (o : Option Node) (nodes : Nodes) → with_node fileid o nodes fileid ≡ o
unfolding with_node
here fileid o nodes = ap (λ (b : Bool). if b then o else nodes fileid) (eq-eqb fileid fileid refl)

pub here_at : (fileid q : ℕ) (o : Option Node) (nodes : Nodes) → q ≡ fileid → with_node fileid o nodes q ≡ o
here_at fileid q o nodes is = ap (with_node fileid o nodes) is ∙ here fileid o nodes

-- and the others
pub elsewhere : (fileid q : ℕ) (o : Option Node) (nodes : Nodes) → (q ≡ fileid → ⊥) → with_node fileid o nodes q ≡ nodes q
unfolding with_node
elsewhere fileid q o nodes apart = ap (λ (b : Bool). if b then o else nodes q) (ne_eqb q fileid apart)

-- ---- edits of a tree

pub at_here : (fileid : ℕ) (edit : Node → Node) (t : Tree) (n : Node) → t.nodes fileid ≡ Some n
    → (edit_node fileid edit t).nodes fileid ≡ Some (edit n)
unfolding edit_node
at_here fileid edit t n is = here fileid (option_map edit (t.nodes fileid)) t.nodes ∙ ap (option_map edit) is

pub at_elsewhere : (fileid q : ℕ) (edit : Node → Node) (t : Tree) → (q ≡ fileid → ⊥)
    → (edit_node fileid edit t).nodes q ≡ t.nodes q
unfolding edit_node
at_elsewhere fileid q edit t apart = elsewhere fileid q (option_map edit (t.nodes fileid)) t.nodes apart

pub add_here : (fileid : ℕ) (n : Node) (t : Tree) → (add_node fileid n t).nodes fileid ≡ Some n
unfolding add_node
add_here fileid n t = here fileid (Some n) t.nodes

pub add_elsewhere : (fileid q : ℕ) (n : Node) (t : Tree) → (q ≡ fileid → ⊥) → (add_node fileid n t).nodes q ≡ t.nodes q
unfolding add_node
add_elsewhere fileid q n t apart = elsewhere fileid q (Some n) t.nodes apart

pub drop_here : (fileid : ℕ) (t : Tree) → (drop_node fileid t).nodes fileid ≡ None
unfolding drop_node
drop_here fileid t = here fileid None t.nodes

pub drop_elsewhere : (fileid q : ℕ) (t : Tree) → (q ≡ fileid → ⊥) → (drop_node fileid t).nodes q ≡ t.nodes q
unfolding drop_node
drop_elsewhere fileid q t apart = elsewhere fileid q None t.nodes apart
