-- Trees where nodes have other names, links and parents.
use Rattle.std.proofs.Common.{◌≡◌, ℕ, ◌+◌, ◌≤◌, ◌<◌, ◌==◌, Bool, true, false, not, if◌then◌else◌, List, [], ◌∷◌, ◌++◌, IfSome}
use Rattle.std.proofs.Common.{Option, Some, None, is_some, ⊎_elim, refl, sym, ap, subst, ◌∙◌, arith}
use Rattle.std.proofs.lemmas.Bool.{cases_eq, eq-eqb, ne_eqb}
use Rattle.std.proofs.lemmas.List.Elements.{All-filter, All-push}
use Rattle.fs_rules.specs.Answers.{after}
use Rattle.fs_rules.specs.Attributes.{is_directory}
use Rattle.fs_rules.specs.Names.{has_name, named}
use Rattle.fs_rules.specs.Renaming.{parent_of}
use Rattle.fs_rules.specs.Sound.{AreDistinct, AreNames, HangTogether, IsLinked, IsRoot, Lacks, LeadsUp, count_in, count_names}
use Rattle.fs_rules.specs.Sound.{count_of, is_some_directory, subdirectories, sum_below}
use Rattle.fs_rules.specs.Tree.{Node, Nodes}
use Rattle.fs_rules.specs.declared.name_entry.NameEntry.{NameEntry}
use Rattle.fs_sound.proofs.Checked.{both}
use Rattle.fs_sound.proofs.Counts.{count_append, count_without, distinct_append, distinct_filter, lead_same}
use Rattle.fs_sound.proofs.Counts.{subdirectories_append, subdirectories_same, subdirectories_without, without}
use Rattle.fs_sound.proofs.Sums.{sum_but}

-- ---- trees with other names, links and parents

-- what a node keeps: its kind, its names and links by the rules, and its place in its parent
pub record IsKept (nodes after : Nodes) (id : ℕ) (n m : Node) : Type 0 where
  pub kind : n.inode.kind ≡ m.inode.kind
  pub root : id ≡ 1 → n.inode.parent ≡ m.inode.parent
  pub names : AreNames after m.names
  pub links : n.inode.nlink + subdirectories after m.names ≡ m.inode.nlink + subdirectories nodes n.names
  pub file : is_directory n.inode.kind ≡ false → n.inode.nlink ≡ m.inode.nlink
  pub there : is_directory n.inode.kind ≡ true → count_in (nodes n.inode.parent) id ≡ 1 → count_in (after m.inode.parent) id ≡ 1

abbrev pub AreKept : Nodes → Nodes → ℕ → Option Node → Option Node → Type 0
AreKept nodes after id (Some n) (Some m) = IsKept nodes after id n m
AreKept nodes after id (Some n) None = ⊥
AreKept nodes after id None (Some m) = ⊥
AreKept nodes after id None None = Unit {0}

pub kept_some : (nodes after : Nodes) (id : ℕ) (o p : Option Node) (n m : Node) → o ≡ Some n → p ≡ Some m
    → IsKept nodes after id n m → AreKept nodes after id o p
kept_some nodes after id (Some a) (Some b) n m is now k =
    let first : n ≡ a = cc in
    let second : m ≡ b = cc in
    subst (λ (x : Node). IsKept nodes after id x b) first (subst (λ (y : Node). IsKept nodes after id n y) second k)
kept_some nodes after id (Some a) None n m is now k = absurd cc
kept_some nodes after id None p n m is now k = absurd cc

-- a node that is the same
kept_same_by : (nodes after : Nodes) (id : ℕ) (o : Option Node) → ((q : ℕ) → is_some (nodes q) ≡ true → is_some (after q) ≡ true)
    → ((q : ℕ) → is_some_directory (nodes q) ≡ is_some_directory (after q))
    → ((q : ℕ) → count_in (nodes q) id ≡ count_in (after q) id)
    → IfSome o (λ n. AreNames nodes n.names) → AreKept nodes after id o o
kept_same_by nodes after id (Some n) some dirs same a = record {
  kind = refl;
  root = λ is. refl;
  names = record { distinct = a.distinct; lead = lead_same nodes after n.names some a.lead };
  links = ap (λ (k : ℕ). n.inode.nlink + k) (sym (subdirectories_same nodes after n.names dirs));
  file = λ k. refl;
  there = λ k one. sym (same n.inode.parent) ∙ one;
}
kept_same_by nodes after id None some dirs same a = tt

pub kept_same : (nodes after : Nodes) (id : ℕ) → ((q : ℕ) → is_some (nodes q) ≡ true → is_some (after q) ≡ true)
    → ((q : ℕ) → is_some_directory (nodes q) ≡ is_some_directory (after q))
    → ((q : ℕ) → count_in (nodes q) id ≡ count_in (after q) id)
    → HangTogether nodes → nodes id ≡ after id → AreKept nodes after id (nodes id) (after id)
kept_same nodes after id some dirs same h is =
    subst (λ (o : Option Node). AreKept nodes after id (nodes id) o) is
    (kept_same_by nodes after id (nodes id) some dirs same (h.names id))

kept_root : (nodes after : Nodes) (o p : Option Node) → AreKept nodes after 1 o p → IsRoot o → IsRoot p
kept_root nodes after (Some n) (Some m) k r = (ap is_directory (sym k.kind) ∙ r.0, sym (k.root refl) ∙ r.1)
kept_root nodes after (Some n) None k r = absurd k
kept_root nodes after None p k r = absurd r

kept_names : (nodes after : Nodes) (id : ℕ) (o p : Option Node) → AreKept nodes after id o p
    → IfSome p (λ m. AreNames after m.names)
kept_names nodes after id (Some n) (Some m) k = k.names
kept_names nodes after id (Some n) None k = tt
kept_names nodes after id None (Some m) k = absurd k
kept_names nodes after id None None k = tt

kept_linked : (nodes after : Nodes) (id : ℕ) (n m : Node) (b : Bool) → count_names nodes id ≡ count_names after id
    → (LeadsUp nodes id → LeadsUp after id)
    → IsKept nodes after id n m → is_directory n.inode.kind ≡ b → IsLinked b nodes id n → IsLinked b after id m
kept_linked nodes after id n m true all up k is l = record {
  links = omega (arith, k.links, l.links);
  up = up l.up;
  parent = λ apart.
      let p = l.parent apart in
      record { once = sym all ∙ p.once; there = k.there is p.there };
}
kept_linked nodes after id n m false all up k is l = record {
  count = sym all ∙ l.count ∙ k.file is;
  some = subst (λ (x : ℕ). 1 ≤ x) (k.file is) l.some;
}

kept_links : (nodes after : Nodes) (id : ℕ) (o p : Option Node) → count_names nodes id ≡ count_names after id
    → (LeadsUp nodes id → LeadsUp after id)
    → AreKept nodes after id o p → IfSome o (λ n. IsLinked (is_directory n.inode.kind) nodes id n)
    → IfSome p (λ m. IsLinked (is_directory m.inode.kind) after id m)
kept_links nodes after id (Some n) (Some m) all up k l =
    subst (λ (b : Bool). IsLinked b after id m) (ap is_directory k.kind)
    (kept_linked nodes after id n m (is_directory n.inode.kind) all up k refl l)
kept_links nodes after id (Some n) None all up k l = tt
kept_links nodes after id None (Some m) all up k l = absurd k
kept_links nodes after id None None all up k l = tt

pub hangs_kept : (nodes after : Nodes) → ((id : ℕ) → count_names nodes id ≡ count_names after id)
    → ((id : ℕ) → LeadsUp nodes id → LeadsUp after id)
    → ((id : ℕ) → AreKept nodes after id (nodes id) (after id)) → HangTogether nodes → HangTogether after
hangs_kept nodes after all up kept h = record {
  root = kept_root nodes after (nodes 1) (after 1) (kept 1) h.root;
  unnamed = sym (all 1) ∙ h.unnamed;
  names = λ id. kept_names nodes after id (nodes id) (after id) (kept id);
  links = λ id. kept_links nodes after id (nodes id) (after id) (all id) (up id) (kept id) (h.links id);
}

-- ---- what holds of the numbers where nodes are others, and of the rest, holds of all

pub at_one : (P : ℕ → Type 0) (d : ℕ) → P d → ((q : ℕ) → (q ≡ d → ⊥) → P q) → (q : ℕ) → P q
at_one P d own rest q = ⊎_elim (λ is. subst P (sym is) own) (λ apart. rest q apart) (cases_eq q d)

pub at_three : (P : ℕ → Type 0) (f g s : ℕ) → P f → P g → P s → ((q : ℕ) → (q ≡ f → ⊥) → (q ≡ g → ⊥) → (q ≡ s → ⊥) → P q)
    → (q : ℕ) → P q
at_three P f g s first second third rest =
    at_one P f first (λ q apart. at_one (λ x. (x ≡ f → ⊥) → P x) g (λ other. second)
    (λ x far. at_one (λ y. (y ≡ g → ⊥) → (y ≡ f → ⊥) → P y) s (λ no_g no_f. third) (λ y out no_g no_f. rest y no_f no_g out)
    x far) q apart)

pub directory_of : (o p : Option Node) (n m : Node) → o ≡ Some n → p ≡ Some m → n.inode.kind ≡ m.inode.kind
    → is_some_directory o ≡ is_some_directory p
directory_of o p n m is now k = ap is_some_directory is ∙ ap is_directory k ∙ sym (ap is_some_directory now)

pub parent_of_same : (o p : Option Node) (id : ℕ) (n m : Node) → o ≡ Some n → p ≡ Some m → n.inode.parent ≡ m.inode.parent
    → parent_of o id ≡ parent_of p id
parent_of_same o p id n m is now k =
    ap (λ (x : Option Node). parent_of x id) is ∙ k ∙ sym (ap (λ (x : Option Node). parent_of x id) now)

pub names_in_some : (o : Option Node) (id : ℕ) (n : Node) → o ≡ Some n → count_in o id ≡ count_of id n.names
names_in_some o id n is = ap (λ (x : Option Node). count_in x id) is

-- ---- names that move

abbrev pub one_if : Bool → ℕ
one_if b = if b then 1 else 0

-- the names of a directory without one, and with another for the same node
pub count_moved : (id : ℕ) (name : List ℕ) (n : Node) (e x : NameEntry) → AreDistinct n.names → named name n.names ≡ Some e
    → e.fileid ≡ x.fileid
    → count_of id n.names ≡ count_of id (without name n.names ++ (x ∷ []))
count_moved id name n e x d found same =
    let test : one_if (e.fileid == id) ≡ one_if (x.fileid == id) = ap (λ (k : ℕ). one_if (k == id)) same in
    omega (arith, count_without id name n e d found, count_append id (without name n.names) x, test)

pub subdirectories_moved : (nodes : Nodes) (name : List ℕ) (n : Node) (e x : NameEntry) → AreDistinct n.names
    → named name n.names ≡ Some e → e.fileid ≡ x.fileid
    → subdirectories nodes n.names ≡ subdirectories nodes (without name n.names ++ (x ∷ []))
subdirectories_moved nodes name n e x d found same =
    let test : one_if (is_some_directory (nodes e.fileid)) ≡ one_if (is_some_directory (nodes x.fileid)) =
    ap (λ (k : ℕ). one_if (is_some_directory (nodes k))) same in
    omega (arith, subdirectories_without nodes name n e d found, subdirectories_append nodes (without name n.names) x, test)

-- fewer names
pub names_without : (nodes after : Nodes) (name : List ℕ) (names : List NameEntry)
    → ((q : ℕ) → is_some (nodes q) ≡ true → is_some (after q) ≡ true)
    → AreNames nodes names → AreNames after (without name names)
names_without nodes after name names some a = record {
  distinct = distinct_filter (λ e. not (has_name name e)) names a.distinct;
  lead = lead_same nodes after (without name names) some (All-filter (λ e. not (has_name name e))
      (λ e. is_some (nodes e.fileid) ≡ true) names a.lead);
}

-- one more
pub names_with : (nodes after : Nodes) (names : List NameEntry) (x : NameEntry)
    → ((q : ℕ) → is_some (nodes q) ≡ true → is_some (after q) ≡ true)
    → AreNames nodes names → Lacks x.name names → is_some (nodes x.fileid) ≡ true → AreNames after (names ++ (x ∷ []))
names_with nodes after names x some a lacks is = record {
  distinct = distinct_append names x a.distinct lacks;
  lead = lead_same nodes after (names ++ (x ∷ [])) some (All-push (λ e. is_some (nodes e.fileid) ≡ true) names x a.lead is);
}

-- a sum where two terms are others, which together are the same
pub sum_moved : (f g : ℕ → ℕ) (d e n : ℕ) → d < n → e < n → (d ≡ e → ⊥) → ((x : ℕ) → (x ≡ d → ⊥) → (x ≡ e → ⊥) → f x ≡ g x)
    → f d + f e ≡ g d + g e → sum_below f n ≡ sum_below g n
sum_moved f g d e n low lower apart same both =
    let mid : ℕ → ℕ = λ x. if x == d then g d else f x in
    let at : mid d ≡ g d = ap (λ (b : Bool). if b then g d else f d) (eq-eqb d d refl) in
    let out : (x : ℕ) → (x ≡ d → ⊥) → mid x ≡ f x = λ x other. ap (λ (b : Bool). if b then g d else f x) (ne_eqb x d other) in
    let first : sum_below f n + mid d ≡ sum_below mid n + f d = sum_but f mid d n low (λ x other. sym (out x other)) in
    let rest : (x : ℕ) → (x ≡ e → ⊥) → mid x ≡ g x =
    λ x other.
    ⊎_elim
    (λ is. ap mid is ∙ at ∙ ap g (sym is))
    (λ third. out x third ∙ same x third other)
    (cases_eq x d) in
    let second : sum_below mid n + g e ≡ sum_below g n + mid e = sum_but mid g e n lower rest in
    omega (arith, first, second, at, out e (λ is. apart (sym is)), both)
