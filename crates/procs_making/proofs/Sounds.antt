-- What a sound tree has for a new node, and edited trees by their nodes.
use Rattle.std.proofs.Common.{◌≡◌, ◌∙◌, ℕ, ◌%◌, ◌<◌, ◌≤◌, ◌==◌, nat_le, nat_lt, ◌&&◌, Bool, true, false}
use Rattle.std.proofs.Common.{if◌then◌else◌, Option, Some, None, ⊎_elim, refl, ap, subst, arith}
use Rattle.std.specs.Prelude.{IfSome, option_map}
use Rattle.std.proofs.lemmas.Bool.{and_parts, eq-eqb, eqb-true, ltb-true, ne_eqb, or_cases}
use Rattle.nfs3_types.specs.declared.file_type.FileType.{FileType}
use Rattle.nfs3_types.specs.declared.file_type.FileType.TheVariants.{Reg, Dir, Blk, Chr, Lnk, Sock, Fifo}
use Rattle.fs_rules.specs.Attributes.{is_directory}
use Rattle.fs_rules.specs.Edits.{add_node, edit_node, with_node}
use Rattle.fs_rules.specs.Sound.{HasBounds, is_given}
use Rattle.fs_rules.specs.Tree.{Node, Tree, next_fileid}
use Rattle.fs_shows.specs.Files.{IsUngiven}

-- ---- edited trees

pub at-here : (id : ℕ) (edit : Node → Node) (t : Tree) (n : Node) → t.nodes id ≡ Some n
    → (edit_node id edit t).nodes id ≡ Some (edit n)
unfolding edit_node with_node
at-here id edit t n is =
    ap (λ (b : Bool). if b then option_map edit (t.nodes id) else t.nodes id) (eq-eqb id id refl)
    ∙ ap (λ (o : Option Node). option_map edit o) is

pub at-elsewhere : (id q : ℕ) (edit : Node → Node) (t : Tree) → (q ≡ id → ⊥) → (edit_node id edit t).nodes q ≡ t.nodes q
unfolding edit_node with_node
at-elsewhere id q edit t apart =
    ap (λ (b : Bool). if b then option_map edit (t.nodes id) else t.nodes q) (ne_eqb q id apart)

pub added-here : (id : ℕ) (n : Node) (t : Tree) → (add_node id n t).nodes id ≡ Some n
unfolding add_node with_node
added-here id n t = ap (λ (b : Bool). if b then Some n else t.nodes id) (eq-eqb id id refl)

pub added-elsewhere : (id q : ℕ) (n : Node) (t : Tree) → (q ≡ id → ⊥) → (add_node id n t).nodes q ≡ t.nodes q
unfolding add_node with_node
added-elsewhere id q n t apart = ap (λ (b : Bool). if b then Some n else t.nodes q) (ne_eqb q id apart)

-- ---- the next number

next-given : (t : Tree) (lane : ℕ) → lane < 16 → HasBounds t → is_given t (next_fileid t lane) ≡ true → ⊥
unfolding is_given
next-given t lane low b h =
    let x : ℕ = next_fileid t lane in
    let next = b.next lane low in
    let least : 16 ≤ x = next.least in
    ⊎_elim
    (λ one. let is : x ≡ 1 = eqb-true x 1 one in omega arith)
    (λ both.
    let lt : x < next_fileid t (x % 16) =
    ltb-true x (next_fileid t (x % 16)) (and_parts (nat_le 16 x) (nat_lt x (next_fileid t (x % 16))) both).1 in
    let same : next_fileid t (x % 16) ≡ x = ap (next_fileid t) next.own in
    omega arith)
    (or_cases (x == 1) (nat_le 16 x && nat_lt x (next_fileid t (x % 16))) h)

false-by : (b : Bool) → (b ≡ true → ⊥) → b ≡ false
false-by true out = absurd (out refl)
false-by false out = refl

none-by : (P : Type 0) (o : Option Node) → IfSome o (λ n. P) → (P → ⊥) → o ≡ None
none-by P (Some n) h out = absurd (out h)
none-by P None h out = refl

-- the number that a lane gives next was not given
pub next-ungiven : (t : Tree) (lane : ℕ) → lane < 16 → HasBounds t → IsUngiven (next_fileid t lane) t
next-ungiven t lane low b = record {
  ungiven = false-by (is_given t (next_fileid t lane)) (next-given t lane low b);
  absent = none-by (is_given t (next_fileid t lane) ≡ true) (t.nodes (next_fileid t lane)) (b.live.given (next_fileid t lane))
      (next-given t lane low b);
}

-- ---- nodes

pub node-has : (P : Node → Type 0) (o : Option Node) (n : Node) → o ≡ Some n → IfSome o P → P n
node-has P o n is h = subst (λ (x : Option Node). IfSome x P) is h

pub kind-is : (k : FileType) → is_directory k ≡ true → k ≡ Dir
kind-is Reg is = absurd (cc)
kind-is Dir is = refl
kind-is Blk is = absurd (cc)
kind-is Chr is = absurd (cc)
kind-is Lnk is = absurd (cc)
kind-is Sock is = absurd (cc)
kind-is Fifo is = absurd (cc)
