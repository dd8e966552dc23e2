-- How nodes hang together where a directory has one name less, and what it led to goes, or has one link less.
use Rattle.std.proofs.Common.{◌≡◌, ℕ, ◌+◌, ◌≤◌, ◌<◌, ◌==◌, if◌then◌else◌, Bool, true, false, not, true≢false, All, IfSome}
use Rattle.std.proofs.Common.{List, [], Option, Some, None, is_some, ⊎_elim, refl, sym, ap, subst, ◌∙◌, arith}
use Rattle.std.proofs.lemmas.Bool.{cases_eq}
use Rattle.std.proofs.lemmas.List.Elements.{All-filter}
use Rattle.fs_rules.specs.Attributes.{is_directory}
use Rattle.fs_rules.specs.Names.{has_name, named}
use Rattle.fs_rules.specs.Renaming.{parent_of}
use Rattle.fs_rules.specs.Sound.{AreNames, AreNodesWithin, HangTogether, HasBounds, IsLinked, IsPlaced, IsRoot, LeadsUp}
use Rattle.fs_rules.specs.Sound.{all_numbers, count_in, count_names, count_of, is_some_directory, subdirectories}
use Rattle.fs_rules.specs.Tree.{Node, Nodes, Tree}
use Rattle.fs_rules.specs.declared.name_entry.NameEntry.{NameEntry}
use Rattle.fs_sound.proofs.Counts.{count_nil, count_without, counts_none, counts_one, distinct_filter, subdirectories_without}
use Rattle.fs_sound.proofs.Counts.{without}
use Rattle.fs_sound.proofs.Facts.{directory_there, file_nothing, has_links, in_all, names_are, placed, there_below}
use Rattle.fs_sound.proofs.Sums.{sum_but, sum_same}
use Rattle.fs_sound.proofs.Up.{StaysOnWay, up_same}

-- ---- what holds of nodes beside how they hang together

-- what is no directory has no names
abbrev pub AreNone : Node → Type 0
AreNone n = is_directory n.inode.kind ≡ false → n.names ≡ []

-- the numbers of nodes are below all numbers, and files and links have no names
pub record IsWithin (nodes : Nodes) : Type 0 where
  pub low : (id : ℕ) → is_some (nodes id) ≡ true → id < all_numbers
  pub nothing : (id : ℕ) → IfSome (nodes id) AreNone

low_by : (t : Tree) (nodes : Nodes) (id : ℕ) (o : Option Node) → HasBounds t → AreNodesWithin t nodes → nodes id ≡ o
    → is_some o ≡ true → id < all_numbers
low_by t nodes id (Some n) b w is h = there_below t nodes id n b w is
low_by t nodes id None b w is h = absurd cc

nothing_by : (t : Tree) (nodes : Nodes) (id : ℕ) (o : Option Node) → AreNodesWithin t nodes → nodes id ≡ o → IfSome o AreNone
nothing_by t nodes id (Some n) w is = λ kind. file_nothing t nodes id n w is kind
nothing_by t nodes id None w is = tt

pub bounds_within : (t : Tree) → HasBounds t → IsWithin t.nodes
bounds_within t b = record {
  low = λ id h. low_by t t.nodes id (t.nodes id) b b.live refl h;
  nothing = λ id. nothing_by t t.nodes id (t.nodes id) b.live refl;
}

directory_by : (x : ℕ) (o : Option Node) → IfSome o AreNone → 1 ≤ count_in o x → (b : Bool) → is_some_directory o ≡ b → b ≡ true
directory_by x o w some true e = refl
directory_by x (Some n) w some false e =
    let none : count_of x n.names ≡ 0 = ap (count_of x) (w e) ∙ count_nil x in
    absurd (omega arith)
directory_by x None w some false e = absurd (omega arith)

-- what has names is a directory
pub names_directory : (nodes : Nodes) (d x : ℕ) → IsWithin nodes → 1 ≤ count_in (nodes d) x → is_some_directory (nodes d) ≡ true
names_directory nodes d x w some = directory_by x (nodes d) (w.nothing d) some (is_some_directory (nodes d)) refl

-- it is enough to show it of the node that is there
some_if : (P : Node → Type 0) (o : Option Node) → ((n : Node) → o ≡ Some n → P n) → IfSome o P
some_if P (Some n) h = h n refl
some_if P None h = tt

-- what holds of this number, and of each other one, holds of all
pub one_or : (P : ℕ → Type 0) (d x : ℕ) → P d → ((x ≡ d → ⊥) → P x) → P x
one_or P d x this other = ⊎_elim (λ is. subst P (sym is) this) other (cases_eq x d)

two_or : (P : ℕ → Type 0) (d f x : ℕ) → P d → P f → ((x ≡ d → ⊥) → (x ≡ f → ⊥) → P x) → P x
two_or P d f x this that other = one_or P d x this (λ apart. one_or P f x that (λ beside. other apart beside))

-- of a node that is there
pub same_some : (n m : Node) → Some n ≡ Some m → n ≡ m
same_some n m e = cc

pub some_of : (o : Option Node) (n : Node) → o ≡ Some n → is_some o ≡ true
some_of o n is = ap is_some is

-- ---- a removal

-- a directory's name goes, and what it led to, which has no names, is another node then or none
pub record Removal (nodes after : Nodes) (d f : ℕ) : Type 0 where
  pub name : List ℕ
  pub entry : NameEntry
  pub before : Node
  pub later : Node
  pub was : nodes d ≡ Some before
  pub is : after d ≡ Some later
  pub found : named name before.names ≡ Some entry
  pub leads : entry.fileid ≡ f
  pub names : later.names ≡ without name before.names
  pub parent : later.inode.parent ≡ before.inode.parent
  pub kind : later.inode.kind ≡ before.inode.kind
  pub apart : d ≡ f → ⊥
  pub there : is_some (nodes f) ≡ true
  pub empty : (x : ℕ) → count_in (nodes f) x ≡ 0
  pub left : (x : ℕ) → count_in (after f) x ≡ 0
  pub same : (x : ℕ) → (x ≡ d → ⊥) → (x ≡ f → ⊥) → after x ≡ nodes x

-- a directory that is not the one that the name led to
abbrev IsBeside : Nodes → ℕ → ℕ → Type 0
IsBeside nodes f id = (is_some_directory (nodes id) ≡ true) × (id ≡ f → ⊥)

module _ (nodes after : Nodes) (d f : ℕ) (r : Removal nodes after d f) (h : HangTogether nodes) (w : IsWithin nodes) where
  -- the directory has one name of it less
  fewer : (x : ℕ) → count_in (nodes d) x ≡ count_in (after d) x + (if f == x then 1 else 0)
  fewer x =
      ap (λ (o : Option Node). count_in o x) r.was
      ∙ count_without x r.name r.before r.entry (names_are nodes d r.before h r.was).distinct r.found
      ∙ ap (λ (k : ℕ). count_of x (without r.name r.before.names) + (if k == x then 1 else 0)) r.leads
      ∙ ap (λ (l : List NameEntry). count_of x l + (if f == x then 1 else 0)) (sym r.names)
      ∙ ap (λ (o : Option Node). count_in o x + (if f == x then 1 else 0)) (sym r.is)

  -- the others have the same names, or none, as what goes
  others : (x q : ℕ) → (x ≡ d → ⊥) → count_in (nodes x) q ≡ count_in (after x) q
  others x q apart =
      one_or (λ k. count_in (nodes k) q ≡ count_in (after k) q) f x
      (r.empty q ∙ sym (r.left q))
      (λ other. ap (λ (o : Option Node). count_in o q) (sym (r.same x apart other)))

  -- names of others stay
  names_alike : (x q : ℕ) → (q ≡ f → ⊥) → count_in (nodes x) q ≡ count_in (after x) q
  names_alike x q apart =
      one_or (λ k. count_in (nodes k) q ≡ count_in (after k) q) d x (omega
      (arith, fewer q, counts_none f q (λ e. apart (sym e)))) (λ other. others x q other)

  all_alike : (q : ℕ) → (q ≡ f → ⊥) → count_names nodes q ≡ count_names after q
  unfolding count_names
  all_alike q apart = sum_same (λ d. count_in (nodes d) q) (λ d. count_in (after d) q) all_numbers (λ x. names_alike x q apart)

  directory_low : d < all_numbers
  directory_low = w.low d (some_of (nodes d) r.before r.was)

  pub one_less : count_names nodes f ≡ count_names after f + 1
  unfolding count_names
  one_less =
      omega (
        arith,
        fewer f,
        counts_one f f refl,
        sum_but (λ k. count_in (nodes k) f) (λ k. count_in (after k) f) d all_numbers
            directory_low (λ x apart. others x f apart),
      )

  -- it stood in the directory, so it is not the root, and the directory is one
  some_named : 1 ≤ count_in (nodes d) f
  some_named = omega (arith, fewer f, counts_one f f refl)

  pub not_root : f ≡ 1 → ⊥
  not_root is =
      let none : count_names nodes f ≡ 0 = ap (count_names nodes) is ∙ h.unnamed in
      omega (arith, in_all nodes d f directory_low, some_named)

  is_one : is_directory r.before.inode.kind ≡ true
  is_one = sym (ap is_some_directory r.was) ∙ names_directory nodes d f w some_named

  later_kind : is_directory r.later.inode.kind ≡ true
  later_kind = ap is_directory r.kind ∙ is_one

  -- ---- parents

  parents : (x : ℕ) → (x ≡ f → ⊥) → parent_of (nodes x) x ≡ parent_of (after x) x
  parents x apart =
      one_or (λ k. parent_of (nodes k) k ≡ parent_of (after k) k) d x
      (ap (λ (o : Option Node). parent_of o d) r.was ∙ sym r.parent ∙ ap (λ (o : Option Node). parent_of o d) (sym r.is))
      (λ other. ap (λ (o : Option Node). parent_of o x) (sym (r.same x other apart)))

  -- no directory stands in what goes
  on_way : (id : ℕ) → IsBeside nodes f id → (id ≡ 1 → ⊥) → StaysOnWay nodes after (IsBeside nodes f) id
  on_way id p other =
      let n = directory_there nodes id p.0 in
      let at : n.node.inode.parent ≡ parent_of (nodes id) id = sym (ap (λ (o : Option Node). parent_of o id) n.is) in
      let once : count_in (nodes (parent_of (nodes id) id)) id ≡ 1 =
      subst (λ (k : ℕ). count_in (nodes k) id ≡ 1) at ((placed nodes id n.node h n.is n.kind).parent other).there in
      record {
        same = parents id p.1;
        next = (
          names_directory nodes (parent_of (nodes id) id) id w (omega arith),
          λ is. let none : count_in (nodes (parent_of (nodes id) id)) id ≡ 0 =
              ap (λ (k : ℕ). count_in (nodes k) id) is ∙ r.empty id in omega arith,
        );
      }

  up : (id : ℕ) (n : Node) → nodes id ≡ Some n → is_directory n.inode.kind ≡ true → (id ≡ f → ⊥) → LeadsUp nodes id
      → LeadsUp after id
  up id n is kind apart u = up_same nodes after (IsBeside nodes f) on_way id (ap is_some_directory is ∙ kind, apart) u

  -- ---- what is there

  pub back : (x : ℕ) → is_some (after x) ≡ true → is_some (nodes x) ≡ true
  back x =
      two_or (λ k. is_some (after k) ≡ true → is_some (nodes k) ≡ true) d f x
      (λ there. some_of (nodes d) r.before r.was)
      (λ there. r.there)
      (λ other apart there. ap is_some (sym (r.same x other apart)) ∙ there)

  pub onward : (x : ℕ) → (x ≡ f → ⊥) → is_some (nodes x) ≡ true → is_some (after x) ≡ true
  onward x apart =
      one_or (λ k. is_some (nodes k) ≡ true → is_some (after k) ≡ true) d x
      (λ there. some_of (after d) r.later r.is)
      (λ other there. ap is_some (r.same x other apart) ∙ there)

  -- where all names of it are gone, none stands anywhere
  pub none_left : (x : ℕ) (m : Node) → after x ≡ Some m → count_names after f ≡ 0 → count_of f m.names ≡ 0
  none_left x m is none =
      let at : count_in (after x) f ≡ count_of f m.names = ap (λ (o : Option Node). count_in o f) is in
      omega (arith, in_all after x f (w.low x (back x (some_of (after x) m is))))

  -- ---- directories

  pub directories_alike : (x : ℕ) → (x ≡ f → ⊥) → is_some_directory (nodes x) ≡ is_some_directory (after x)
  directories_alike x apart =
      one_or (λ k. is_some_directory (nodes k) ≡ is_some_directory (after k)) d x
      (ap is_some_directory r.was ∙ ap is_directory (sym r.kind) ∙ ap is_some_directory (sym r.is))
      (λ other. ap is_some_directory (sym (r.same x other apart)))

  -- the directory's links before, and what its names led to
  pub links_before : r.before.inode.nlink ≡ 2 + (subdirectories nodes r.later.names +
      (if is_some_directory (nodes f) then 1 else 0))
  links_before =
      (placed nodes d r.before h r.was is_one).links
      ∙ ap (λ (k : ℕ). 2 + k) (subdirectories_without nodes r.name r.before r.entry
      (names_are nodes d r.before h r.was).distinct r.found)
      ∙ ap (λ (k : ℕ). 2 + (subdirectories nodes (without r.name r.before.names) +
      (if is_some_directory (nodes k) then 1 else 0))) r.leads
      ∙ ap (λ (l : List NameEntry). 2 + (subdirectories nodes l + (if is_some_directory (nodes f) then 1 else 0))) (sym r.names)

  -- ---- what bounds say

  later_nothing : IfSome (after d) AreNone
  later_nothing = subst (λ (o : Option Node). IfSome o AreNone) (sym r.is) (λ kind. absurd (true≢false (sym later_kind ∙ kind)))

  pub removal_within : IfSome (after f) AreNone → IsWithin after
  removal_within gone = record {
    low = λ x there. w.low x (back x there);
    nothing = λ x.
        two_or (λ k. IfSome (after k) AreNone) d f x later_nothing gone
        (λ other apart. subst (λ (o : Option Node). IfSome o AreNone) (sym (r.same x other apart)) (w.nothing x));
  }

  -- ---- the nodes, where names lead to nodes still, and as many to directories

  module _ (leads : (x : ℕ) (m : Node) → after x ≡ Some m → All (λ e. is_some (nodes e.fileid) ≡ true) m.names → All
      (λ e. is_some (after e.fileid) ≡ true) m.names)
      (subs : (x : ℕ) (m : Node) → after x ≡ Some m → subdirectories nodes m.names ≡ subdirectories after m.names)
      (links : r.later.inode.nlink ≡ 2 + subdirectories nodes r.later.names)
      (gone : (m : Node) → after f ≡ Some m → AreNames after m.names × IsLinked (is_directory m.inode.kind) after f m) where
    kept_names : (x : ℕ) (m : Node) → after x ≡ Some m → AreNames nodes m.names → AreNames after m.names
    kept_names x m is a = record { distinct = a.distinct; lead = leads x m is a.lead }

    later_names : AreNames nodes r.later.names
    later_names =
        let a = names_are nodes d r.before h r.was in
        subst (AreNames nodes) (sym r.names) (record {
          distinct = distinct_filter (λ e. not (has_name r.name e)) r.before.names a.distinct;
          lead = All-filter (λ e. not (has_name r.name e)) (λ e. is_some (nodes e.fileid) ≡ true) r.before.names a.lead;
        })

    names_after : (x : ℕ) (m : Node) → after x ≡ Some m → AreNames after m.names
    names_after x =
        two_or (λ k. (m : Node) → after k ≡ Some m → AreNames after m.names) d f x
        (λ m is. subst (λ (n : Node). AreNames after n.names) (same_some r.later m (sym r.is ∙ is))
        (kept_names d r.later r.is later_names))
        (λ m is. (gone m is).0)
        (λ other apart m is. kept_names x m is (names_are nodes x m h (sym (r.same x other apart) ∙ is)))

    placed_after : (x : ℕ) (n m : Node) → nodes x ≡ Some n → is_directory n.inode.kind ≡ true → (x ≡ f → ⊥) → after x ≡ Some m
        → m.inode.nlink ≡ 2 + subdirectories nodes m.names → m.inode.parent ≡ n.inode.parent → IsPlaced after x m
    placed_after x n m was kind apart is count parent =
        let l = placed nodes x n h was kind in
        record {
          links = count ∙ ap (λ (k : ℕ). 2 + k) (subs x m is);
          up = up x n was kind apart l.up;
          parent = λ other.
              let p = l.parent other in
              record {
                once = sym (all_alike x apart) ∙ p.once;
                there = ap (λ (k : ℕ). count_in (after k) x) parent ∙ sym (names_alike n.inode.parent x apart) ∙ p.there;
              };
        }

    linked_after : (x : ℕ) (m : Node) (b : Bool) → is_directory m.inode.kind ≡ b → nodes x ≡ Some m → after x ≡ Some m
        → (x ≡ f → ⊥) → IsLinked b after x m
    linked_after x m true kind was is apart = placed_after x m m was kind apart is (placed nodes x m h was kind).links refl
    linked_after x m false kind was is apart =
        let l = has_links nodes x m h was kind in
        record { count = sym (all_alike x apart) ∙ l.count; some = l.some }

    later_linked : IsLinked (is_directory r.later.inode.kind) after d r.later
    later_linked = subst (λ (b : Bool). IsLinked b after d r.later) (sym later_kind)
        (placed_after d r.before r.later r.was is_one r.apart r.is links r.parent)

    links_after : (x : ℕ) (m : Node) → after x ≡ Some m → IsLinked (is_directory m.inode.kind) after x m
    links_after x =
        two_or (λ k. (m : Node) → after k ≡ Some m → IsLinked (is_directory m.inode.kind) after k m) d f x
        (λ m is. subst (λ (n : Node). IsLinked (is_directory n.inode.kind) after d n) (same_some r.later m (sym r.is ∙ is))
        later_linked)
        (λ m is. (gone m is).1)
        (λ other apart m is. linked_after x m (is_directory m.inode.kind) refl (sym (r.same x other apart) ∙ is) is apart)

    root_later : IsRoot (Some r.before) → IsRoot (Some r.later)
    root_later root = (later_kind, r.parent ∙ root.1)

    root_after : IsRoot (after 1)
    root_after =
        one_or (λ k. IsRoot (nodes k) → IsRoot (after k)) d 1
        (λ root. subst IsRoot (sym r.is) (root_later (subst IsRoot r.was root)))
        (λ other root. subst IsRoot (sym (r.same 1 other (λ is. not_root (sym is)))) root)
        h.root

    pub removal_hangs : HangTogether after
    removal_hangs = record {
      root = root_after;
      unnamed = sym (all_alike 1 (λ is. not_root (sym is))) ∙ h.unnamed;
      names = λ x. some_if (λ m. AreNames after m.names) (after x) (names_after x);
      links = λ x. some_if (λ m. IsLinked (is_directory m.inode.kind) after x m) (after x) (links_after x);
    }
