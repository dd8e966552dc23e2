-- What an edit of one node shows of it, and of others.
use Rattle.std.proofs.Common.{◌≡◌, ℕ, ◌==◌, if◌then◌else◌, Bool, true, false, Option, Some, None, option_map, refl, ap, ◌∙◌}
use Rattle.std.proofs.Math.Path.{fun_ext}
use Rattle.std.proofs.lemmas.Bool.{eq-eqb, ne_eqb}
use Rattle.fs_rules.specs.Edits.{edit_node, with_node}
use Rattle.fs_rules.specs.Places.{attributes, node_at, object_at, object_by, shown, snapshot_numbered}
use Rattle.fs_rules.specs.Tree.{Node, Nodes, Tree}
use Rattle.fs_rules.specs.declared.place.Place.TheVariants.{Kept, Live}

here : (fileid : ℕ) (o : Option Node) (nodes : Nodes) → with_node fileid o nodes fileid ≡ o
unfolding with_node
here fileid o nodes = ap (λ (b : Bool). if b then o else nodes fileid) (eq-eqb fileid fileid refl)

elsewhere : (fileid q : ℕ) (o : Option Node) (nodes : Nodes) → (q ≡ fileid → ⊥) → with_node fileid o nodes q ≡ nodes q
unfolding with_node
elsewhere fileid q o nodes apart = ap (λ (b : Bool). if b then o else nodes q) (ne_eqb q fileid apart)

-- the node that was edited, as it is now
pub shown_here : (t : Tree) (fileid : ℕ) (edit : Node → Node)
    → shown (edit_node fileid edit t) (Live fileid) ≡ option_map (λ n. attributes t (object_by (Live fileid) (edit n)))
    (t.nodes fileid)
unfolding shown object_at node_at edit_node attributes
shown_here t fileid edit =
    ap (λ (o : Option Node). option_map (attributes t) (option_map (object_by (Live fileid)) o))
    (here fileid (option_map edit (t.nodes fileid)) t.nodes)
    ∙ mapped t fileid edit (t.nodes fileid)
  where
    mapped : (t : Tree) (fileid : ℕ) (edit : Node → Node) (o : Option Node)
        → option_map (attributes t) (option_map (object_by (Live fileid)) (option_map edit o)) ≡ option_map
        (λ n. attributes t (object_by (Live fileid) (edit n))) o
    mapped t fileid edit (Some n) = refl
    mapped t fileid edit None = refl

-- another one
pub shown_elsewhere : (t : Tree) (fileid q : ℕ) (edit : Node → Node) → (q ≡ fileid → ⊥)
    → shown (edit_node fileid edit t) (Live q) ≡ shown t (Live q)
unfolding shown object_at node_at edit_node attributes
shown_elsewhere t fileid q edit apart =
    ap (λ (o : Option Node). option_map (attributes t) (option_map (object_by (Live q)) o))
    (elsewhere fileid q (option_map edit (t.nodes fileid)) t.nodes apart)

-- one of a snapshot
pub shown_kept : (t : Tree) (fileid number q : ℕ) (edit : Node → Node)
    → shown (edit_node fileid edit t) (Kept number q) ≡ shown t (Kept number q)
unfolding shown object_at node_at edit_node attributes snapshot_numbered
shown_kept t fileid number q edit = refl

-- two edits of one node
twice_at : (fileid q : ℕ) (f g : Node → Node) (nodes : Nodes) (b : Bool) → (q == fileid) ≡ b
    → (if b then option_map f (with_node fileid (option_map g (nodes fileid)) nodes fileid) else with_node fileid
    (option_map g (nodes fileid)) nodes q)
    ≡ (if b then option_map (λ n. f (g n)) (nodes fileid) else nodes q)
unfolding with_node
twice_at fileid q f g nodes true e = ap (option_map f) (here fileid (option_map g (nodes fileid)) nodes) ∙ both (nodes fileid)
  where
    both : (o : Option Node) → option_map f (option_map g o) ≡ option_map (λ n. f (g n)) o
    both (Some n) = refl
    both None = refl
twice_at fileid q f g nodes false e = ap (λ (b : Bool). if b then option_map g (nodes fileid) else nodes q) e

pub twice : (t : Tree) (fileid : ℕ) (f g : Node → Node)
    → edit_node fileid f (edit_node fileid g t) ≡ edit_node fileid (λ n. f (g n)) t
unfolding edit_node with_node twice_at
twice t fileid f g =
    ap (λ (nodes : Nodes). record t { nodes = nodes }) (fun_ext (λ q. twice_at fileid q f g t.nodes (q == fileid) refl))
