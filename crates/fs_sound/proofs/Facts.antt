-- What bounds, and how the nodes hang together, say of one node.
use Rattle.std.proofs.Common.{◌≡◌, ℕ, ◌+◌, ◌%◌, ◌≤◌, ◌<◌, ◌==◌, nat_le, nat_lt, Bool, true, false, ◌&&◌, IfSome, [], Option}
use Rattle.std.proofs.Common.{Some, None, is_some, ⊎_elim, refl, sym, ap, subst, ◌∙◌, arith, mod-lt}
use Rattle.std.proofs.lemmas.Bool.{and_parts, cases_eq, eqb-true, leb-false, ltb-true, or_cases}
use Rattle.nfs3_types.specs.declared.file_type.FileType.{FileType}
use Rattle.nfs3_types.specs.declared.file_type.FileType.TheVariants.{Reg, Dir, Blk, Chr, Lnk, Sock, Fifo}
use Rattle.fs_rules.specs.Attributes.{is_directory}
use Rattle.fs_rules.specs.Limits.{most_numbers}
use Rattle.fs_rules.specs.Renaming.{parent_of}
use Rattle.fs_rules.specs.Sound.{AreNames, AreNodesWithin, HangTogether, HasBounds, HasLinks, IsLinked, IsNodeWithin, IsOfKind}
use Rattle.fs_rules.specs.Sound.{IsPlaced, all_numbers, count_in, count_names, count_of, is_given, is_some_directory}
use Rattle.fs_rules.specs.Tree.{Node, Nodes, Tree, next_fileid}
use Rattle.fs_sound.proofs.Counts.{count_nil, unled}
use Rattle.fs_sound.proofs.Sums.{sum_part, sum_two, sum_zero}

-- what holds of a node that is there
pub some_has : (P : Node → Type 0) (o : Option Node) (n : Node) → o ≡ Some n → IfSome o P → P n
some_has P o n is h = subst (λ (x : Option Node). IfSome x P) is h

-- ---- numbers

pub one_below : 1 < all_numbers
unfolding all_numbers most_numbers
one_below = omega arith

most_below : (n : ℕ) → n < most_numbers → n < all_numbers
unfolding all_numbers
most_below n lt = omega arith

next_all : (n next : ℕ) → n < next → next ≤ most_numbers + 15 → n < all_numbers
unfolding all_numbers
next_all n next lt le = omega arith

given_below : (t : Tree) (id : ℕ) → HasBounds t → is_given t id ≡ true → id < all_numbers
unfolding is_given
given_below t id b h =
    ⊎_elim
    (λ one. subst (λ (k : ℕ). k < all_numbers) (sym (eqb-true id 1 one)) one_below)
    (λ both.
    let low : id % 16 < 16 = mod-lt id (omega arith) in
    next_all id (next_fileid t (id % 16)) (ltb-true id (next_fileid t (id % 16))
    (and_parts (nat_le 16 id) (nat_lt id (next_fileid t (id % 16))) both).1) (b.next (id % 16) low).most)
    (or_cases (id == 1) (nat_le 16 id && nat_lt id (next_fileid t (id % 16))) h)

-- a node's number is below all numbers, in the live tree and in snapshots
pub there_below : (t : Tree) (nodes : Nodes) (id : ℕ) (n : Node) → HasBounds t → AreNodesWithin t nodes → nodes id ≡ Some n
    → id < all_numbers
there_below t nodes id n b w is = given_below t id b (some_has (λ n. is_given t id ≡ true) (nodes id) n is (w.given id))

-- the next number of a lane is not the root's, and no node has it
next_given : (t : Tree) (lane : ℕ) → lane < 16 → HasBounds t → is_given t (next_fileid t lane) ≡ true → ⊥
unfolding is_given
next_given t lane low b h =
    let x : ℕ = next_fileid t lane in
    let next = b.next lane low in
    let least : 16 ≤ x = next.least in
    ⊎_elim
    (λ one. let is : x ≡ 1 = eqb-true x 1 one in omega arith)
    (λ both.
    let lt : x < next_fileid t (x % 16) =
    ltb-true x (next_fileid t (x % 16)) (and_parts (nat_le 16 x) (nat_lt x (next_fileid t (x % 16))) both).1 in
    let same : next_fileid t (x % 16) ≡ x = ap (next_fileid t) next.own in
    omega arith)
    (or_cases (x == 1) (nat_le 16 x && nat_lt x (next_fileid t (x % 16))) h)

none_by : (P : Type 0) (o : Option Node) → IfSome o (λ n. P) → (P → ⊥) → o ≡ None
none_by P (Some n) h out = absurd (out h)
none_by P None h out = refl

pub next_free : (t : Tree) (lane : ℕ) → lane < 16 → HasBounds t → t.nodes (next_fileid t lane) ≡ None
next_free t lane low b =
    none_by (is_given t (next_fileid t lane) ≡ true) (t.nodes (next_fileid t lane)) (b.live.given (next_fileid t lane))
    (next_given t lane low b)

pub next_other : (t : Tree) (lane : ℕ) → lane < 16 → HasBounds t → next_fileid t lane ≡ 1 → ⊥
next_other t lane low b is = let least : 16 ≤ next_fileid t lane = (b.next lane low).least in omega arith

pub next_below : (t : Tree) (lane : ℕ) → nat_le most_numbers (next_fileid t lane) ≡ false → next_fileid t lane < all_numbers
next_below t lane h = most_below (next_fileid t lane) (leb-false most_numbers (next_fileid t lane) h)

-- ---- names

nothing_by : (kind : FileType) (id : ℕ) (n : Node) → IsOfKind kind id n → is_directory kind ≡ false → n.names ≡ []
nothing_by Reg id n h e = h.leaf.nothing
nothing_by Dir id n h e = absurd cc
nothing_by Blk id n h e = absurd h
nothing_by Chr id n h e = absurd h
nothing_by Lnk id n h e = h.leaf.nothing
nothing_by Sock id n h e = absurd h
nothing_by Fifo id n h e = absurd h

-- a node that is no directory has no names
pub file_nothing : (t : Tree) (nodes : Nodes) (id : ℕ) (n : Node) → AreNodesWithin t nodes → nodes id ≡ Some n
    → is_directory n.inode.kind ≡ false → n.names ≡ []
file_nothing t nodes id n w is e = nothing_by n.inode.kind id n (some_has (IsNodeWithin id) (nodes id) n is (w.each id)).kind e

-- what has names is a directory
named_directory_by : (t : Tree) (nodes : Nodes) (d x : ℕ) (o : Option Node) → AreNodesWithin t nodes → nodes d ≡ o
    → 1 ≤ count_in o x → (b : Bool) → is_some_directory o ≡ b → b ≡ true
named_directory_by t nodes d x o w is some true e = refl
named_directory_by t nodes d x (Some n) w is some false e =
    let none : count_of x n.names ≡ 0 = ap (count_of x) (file_nothing t nodes d n w is e) ∙ count_nil x in
    absurd (omega arith)
named_directory_by t nodes d x None w is some false e = absurd (omega arith)

pub named_directory : (t : Tree) (nodes : Nodes) (d x : ℕ) → AreNodesWithin t nodes → 1 ≤ count_in (nodes d) x
    → is_some_directory (nodes d) ≡ true
named_directory t nodes d x w some = named_directory_by t nodes d x (nodes d) w refl some (is_some_directory (nodes d)) refl

unnamed_in : (nodes : Nodes) (x d : ℕ) (o : Option Node) → nodes x ≡ None → IfSome o (λ n. AreNames nodes n.names)
    → count_in o x ≡ 0
unnamed_in nodes x d (Some n) none a = unled nodes x n.names none a.lead
unnamed_in nodes x d None none a = refl

-- nothing names a number that no node has
pub none_named_in : (nodes : Nodes) (x d : ℕ) → HangTogether nodes → nodes x ≡ None → count_in (nodes d) x ≡ 0
none_named_in nodes x d h none = unnamed_in nodes x d (nodes d) none (h.names d)

pub none_named : (nodes : Nodes) (x : ℕ) → HangTogether nodes → nodes x ≡ None → count_names nodes x ≡ 0
unfolding count_names
none_named nodes x h none = sum_zero (λ d. count_in (nodes d) x) all_numbers (λ d lt. none_named_in nodes x d h none)

-- the names in one directory are among all
pub in_all : (nodes : Nodes) (d x : ℕ) → d < all_numbers → count_in (nodes d) x ≤ count_names nodes x
unfolding count_names
in_all nodes d x lt = sum_part (λ d. count_in (nodes d) x) d all_numbers lt

pub in_two : (nodes : Nodes) (d e x : ℕ) → d < all_numbers → e < all_numbers → (d ≡ e → ⊥)
    → count_in (nodes d) x + count_in (nodes e) x ≤ count_names nodes x
unfolding count_names
in_two nodes d e x low lower apart = sum_two (λ d. count_in (nodes d) x) d e all_numbers low lower apart

-- ---- directories

pub placed : (nodes : Nodes) (id : ℕ) (n : Node) → HangTogether nodes → nodes id ≡ Some n → is_directory n.inode.kind ≡ true
    → IsPlaced nodes id n
placed nodes id n h is dir =
    subst (λ (b : Bool). IsLinked b nodes id n) dir (some_has (λ n. IsLinked (is_directory n.inode.kind) nodes id n) (nodes id)
    n is (h.links id))

pub has_links : (nodes : Nodes) (id : ℕ) (n : Node) → HangTogether nodes → nodes id ≡ Some n → is_directory n.inode.kind ≡ false
    → HasLinks nodes id n
has_links nodes id n h is dir =
    subst (λ (b : Bool). IsLinked b nodes id n) dir (some_has (λ n. IsLinked (is_directory n.inode.kind) nodes id n) (nodes id)
    n is (h.links id))

pub names_are : (nodes : Nodes) (id : ℕ) (n : Node) → HangTogether nodes → nodes id ≡ Some n → AreNames nodes n.names
names_are nodes id n h is = some_has (λ n. AreNames nodes n.names) (nodes id) n is (h.names id)

-- a number with a name is below all numbers: what has names is there
some_by : (o : Option Node) (x : ℕ) → 1 ≤ count_in o x → is_some o ≡ true
some_by (Some n) x h = refl
some_by None x h = absurd (omega arith)

pub naming_some : (nodes : Nodes) (d x : ℕ) → 1 ≤ count_in (nodes d) x → is_some (nodes d) ≡ true
naming_some nodes d x h = some_by (nodes d) x h

-- the node there
pub record There (nodes : Nodes) (id : ℕ) : Type 0 where
  pub node : Node
  pub is : nodes id ≡ Some node

there_by : (nodes : Nodes) (id : ℕ) (o : Option Node) → nodes id ≡ o → is_some o ≡ true → There nodes id
there_by nodes id (Some n) is h = record { node = n; is = is }
there_by nodes id None is h = absurd cc

pub there : (nodes : Nodes) (id : ℕ) → is_some (nodes id) ≡ true → There nodes id
there nodes id h = there_by nodes id (nodes id) refl h

directory_some : (o : Option Node) → is_some_directory o ≡ true → is_some o ≡ true
directory_some (Some n) h = refl
directory_some None h = absurd cc

directory_kind : (o : Option Node) (n : Node) → o ≡ Some n → is_some_directory o ≡ true → is_directory n.inode.kind ≡ true
directory_kind o n is h = sym (ap is_some_directory is) ∙ h

-- a directory that is there, as the definitions say it
pub record DirectoryThere (nodes : Nodes) (id : ℕ) : Type 0 where
  pub node : Node
  pub is : nodes id ≡ Some node
  pub kind : is_directory node.inode.kind ≡ true

pub directory_there : (nodes : Nodes) (id : ℕ) → is_some_directory (nodes id) ≡ true → DirectoryThere nodes id
directory_there nodes id h =
    let n = there nodes id (directory_some (nodes id) h) in
    record { node = n.node; is = n.is; kind = directory_kind (nodes id) n.node n.is h }

-- the parent of a directory other than the root: a directory that names it once
pub record StandsIn (nodes : Nodes) (id : ℕ) : Type 0 where
  pub parent : is_some_directory (nodes (parent_of (nodes id) id)) ≡ true
  pub once : count_in (nodes (parent_of (nodes id) id)) id ≡ 1

pub stands_in : (t : Tree) (nodes : Nodes) (id : ℕ) → AreNodesWithin t nodes → HangTogether nodes
    → is_some_directory (nodes id) ≡ true → (id ≡ 1 → ⊥) → StandsIn nodes id
stands_in t nodes id w h dir apart =
    let d = directory_there nodes id dir in
    let p = (placed nodes id d.node h d.is d.kind).parent apart in
    let at : d.node.inode.parent ≡ parent_of (nodes id) id = sym (ap (λ (o : Option Node). parent_of o id) d.is) in
    let once : count_in (nodes (parent_of (nodes id) id)) id ≡ 1 = subst (λ (k : ℕ). count_in (nodes k) id ≡ 1) at p.there in
    record { parent = named_directory t nodes (parent_of (nodes id) id) id w (omega arith); once = once }

-- a directory that has a name stands in the directory of the name
pub parent_is : (t : Tree) (nodes : Nodes) (d id : ℕ) (n : Node) → HasBounds t → AreNodesWithin t nodes → HangTogether nodes
    → nodes id ≡ Some n → is_directory n.inode.kind ≡ true → (id ≡ 1 → ⊥) → 1 ≤ count_in (nodes d) id → n.inode.parent ≡ d
parent_is t nodes d id n b w h is dir apart some =
    let p = (placed nodes id n h is dir).parent apart in
    let one : count_in (nodes n.inode.parent) id ≡ 1 = p.there in
    let all : count_names nodes id ≡ 1 = p.once in
    let own = there nodes n.inode.parent (naming_some nodes n.inode.parent id (omega arith)) in
    let other = there nodes d (naming_some nodes d id some) in
    ⊎_elim
    (λ same. same)
    (λ differ. absurd (omega (
      arith,
      in_two nodes n.inode.parent d id (there_below t nodes n.inode.parent own.node b w own.is)
          (there_below t nodes d other.node b w other.is) differ,
    )))
    (cases_eq n.inode.parent d)

-- the root has no name
pub root_unnamed : (t : Tree) (nodes : Nodes) (d id : ℕ) → HasBounds t → AreNodesWithin t nodes → HangTogether nodes
    → 1 ≤ count_in (nodes d) id → id ≡ 1 → ⊥
root_unnamed t nodes d id b w h some is =
    let n = there nodes d (naming_some nodes d id some) in
    let le : count_in (nodes d) id ≤ count_names nodes id = in_all nodes d id (there_below t nodes d n.node b w n.is) in
    let none : count_names nodes id ≡ 0 = ap (count_names nodes) is ∙ h.unnamed in
    omega arith
