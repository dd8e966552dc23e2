-- One more name in a directory: how the nodes hang together then.
use Rattle.std.proofs.Common.{◌≡◌, ℕ, ◌+◌, ◌<◌, ◌==◌, Bool, true, false, All, IfSome, List, [], ◌∷◌, ◌++◌, Option, Some, None}
use Rattle.std.proofs.Common.{is_some, Ok, ⊎_elim, refl, sym, ap, subst, ◌∙◌, arith}
use Rattle.std.proofs.lemmas.Bool.{cases_eq, or_parts}
use Rattle.std.proofs.lemmas.List.Elements.{All-nil, All-push}
use Rattle.nfs3_types.specs.declared.cred.Cred.{Cred}
use Rattle.nfs3_types.specs.declared.status.Status.{Status}
use Rattle.fs_rules.specs.Attributes.{is_directory}
use Rattle.fs_rules.specs.Checks.{Check, refuse_if, ◌>>=◌}
use Rattle.fs_rules.specs.Making.{is_reserved, need_free_name}
use Rattle.fs_rules.specs.Places.{Object, entry_at}
use Rattle.fs_rules.specs.Renaming.{parent_of}
use Rattle.fs_rules.specs.Sound.{AreDistinct, AreNames, HangTogether, IsLinked, IsPlaced, IsRoot, Lacks, LeadsUp, all_numbers}
use Rattle.fs_rules.specs.Sound.{count_in, count_names, count_of, is_some_directory, subdirectories}
use Rattle.fs_rules.specs.Tree.{Node, Nodes, Tree}
use Rattle.fs_rules.specs.declared.name_entry.NameEntry.{NameEntry}
use Rattle.fs_sound.proofs.Counts.{count_append, count_nil, counts_none, counts_one, distinct_append, lead_same, one_if}
use Rattle.fs_sound.proofs.Counts.{subdirectories_append}
use Rattle.fs_sound.proofs.Facts.{names_are, placed}
use Rattle.fs_sound.proofs.Sums.{sum_but}

-- Directory d gets one more name, which leads to node x. That node has no names of its own, and the others stay as
-- they are.
pub record Grows (nodes after : Nodes) (d x : ℕ) : Type 0 where
  -- the directory before and after, and its new name
  pub before : Node
  pub grown : Node
  pub cookie : ℕ
  pub name : List ℕ
  pub low : d < all_numbers
  pub was : nodes d ≡ Some before
  pub is : after d ≡ Some grown
  pub directory : is_directory before.inode.kind ≡ true
  pub kind : grown.inode.kind ≡ before.inode.kind
  pub parent : grown.inode.parent ≡ before.inode.parent
  pub names : grown.names ≡ before.names ++ (record { cookie = cookie; name = name; fileid = x } ∷ [])
  pub lacks : Lacks name before.names
  pub links : grown.inode.nlink ≡ before.inode.nlink + one_if (is_some_directory (after x))
  -- what the name leads to
  pub target : Node
  pub led : after x ≡ Some target
  pub nothing : target.names ≡ []
  pub nameless : (id : ℕ) → count_in (nodes x) id ≡ 0
  pub apart : x ≡ d → ⊥
  pub other : x ≡ 1 → ⊥
  -- the other nodes
  pub rest : (id : ℕ) → (id ≡ x → ⊥) → (id ≡ d → ⊥) → after id ≡ nodes id

-- ---- counts of names, kinds and parents

module _ (nodes after : Nodes) (d x : ℕ) (g : Grows nodes after d x) where
  names_there : (id : ℕ) → count_in (nodes x) id ≡ count_in (after x) id
  names_there id = g.nameless id ∙ sym (ap (λ (o : Option Node). count_in o id) g.led ∙ ap (count_of id) g.nothing ∙ count_nil id)

  names_beside : (id q : ℕ) → (q ≡ d → ⊥) → count_in (nodes q) id ≡ count_in (after q) id
  names_beside id q apart =
      ⊎_elim
      (λ is. ap (λ (k : ℕ). count_in (nodes k) id) is ∙ names_there id ∙ sym (ap (λ (k : ℕ). count_in (after k) id) is))
      (λ other. sym (ap (λ (o : Option Node). count_in o id) (g.rest q other apart)))
      (cases_eq q x)

  pub names_grown : (id : ℕ) → count_in (after d) id ≡ count_in (nodes d) id + one_if (x == id)
  names_grown id =
      ap (λ (o : Option Node). count_in o id) g.is
      ∙ ap (count_of id) g.names
      ∙ count_append id g.before.names (record { cookie = g.cookie; name = g.name; fileid = x })
      ∙ ap (λ (o : Option Node). count_in o id + one_if (x == id)) (sym g.was)

  all_grown : (id : ℕ) → count_names after id ≡ count_names nodes id + one_if (x == id)
  unfolding count_names
  all_grown id =
      omega (
        arith,
        sum_but (λ q. count_in (nodes q) id) (λ q. count_in (after q) id) d all_numbers g.low (names_beside id),
        names_grown id,
      )

  -- the node of the name has one more
  pub all_own : count_names after x ≡ count_names nodes x + 1
  all_own = all_grown x ∙ ap (λ (k : ℕ). count_names nodes x + k) (counts_one x x refl)

  -- and the others have the same
  all_others : (id : ℕ) → (id ≡ x → ⊥) → count_names nodes id ≡ count_names after id
  all_others id other = omega (arith, all_grown id, counts_none x id (λ is. other (sym is)))

  names_kept : (id q : ℕ) → (id ≡ x → ⊥) → count_in (nodes q) id ≡ count_in (after q) id
  names_kept id q other =
      ⊎_elim
      (λ is. subst (λ (k : ℕ). count_in (nodes k) id ≡ count_in (after k) id) (sym is)
      (omega (arith, names_grown id, counts_none x id (λ is. other (sym is)))))
      (λ apart. names_beside id q apart)
      (cases_eq q d)

  parent_grown : parent_of (nodes d) d ≡ parent_of (after d) d
  parent_grown = ap (λ (o : Option Node). parent_of o d) g.was ∙ sym g.parent ∙ sym (ap (λ (o : Option Node). parent_of o d) g.is)

  pub parent_kept : (id : ℕ) → (id ≡ x → ⊥) → parent_of (nodes id) id ≡ parent_of (after id) id
  parent_kept id other =
      ⊎_elim
      (λ is. subst (λ (k : ℕ). parent_of (nodes k) k ≡ parent_of (after k) k) (sym is) parent_grown)
      (λ apart. sym (ap (λ (o : Option Node). parent_of o id) (g.rest id other apart)))
      (cases_eq id d)

  kind_grown : is_some_directory (nodes d) ≡ is_some_directory (after d)
  kind_grown = ap is_some_directory g.was ∙ sym (ap is_directory g.kind) ∙ sym (ap is_some_directory g.is)

  pub kind_kept : (id : ℕ) → (id ≡ x → ⊥) → is_some_directory (nodes id) ≡ is_some_directory (after id)
  kind_kept id other =
      ⊎_elim
      (λ is. subst (λ (k : ℕ). is_some_directory (nodes k) ≡ is_some_directory (after k)) (sym is) kind_grown)
      (λ apart. sym (ap is_some_directory (g.rest id other apart)))
      (cases_eq id d)

  some_kept : (id : ℕ) → is_some (nodes id) ≡ true → is_some (after id) ≡ true
  some_kept id h =
      ⊎_elim
      (λ is. ap (λ (k : ℕ). is_some (after k)) is ∙ ap is_some g.led)
      (λ other.
      ⊎_elim
      (λ is. ap (λ (k : ℕ). is_some (after k)) is ∙ ap is_some g.is)
      (λ apart. ap is_some (g.rest id other apart) ∙ h)
      (cases_eq id d))
      (cases_eq id x)

-- ---- the root

pub root_is : (o : Option Node) → IsRoot o → (is_some_directory o ≡ true) × (parent_of o 1 ≡ 1)
root_is (Some n) r = r
root_is None r = absurd r

root_by : (o : Option Node) → is_some_directory o ≡ true → parent_of o 1 ≡ 1 → IsRoot o
root_by (Some n) kind parent = (kind, parent)
root_by None kind parent = absurd cc

no_names : (nodes : Nodes) → AreNames nodes []
unfolding AreDistinct
no_names nodes = record { distinct = tt; lead = All-nil (λ e. is_some (nodes e.fileid) ≡ true) }

-- ---- the whole, where what else matters is as it was

module _ (nodes after : Nodes) (d x : ℕ) (g : Grows nodes after d x) (h : HangTogether nodes)
    (up : (id : ℕ) → LeadsUp nodes id → LeadsUp after id)
    (below : (id : ℕ) (n : Node) → nodes id ≡ Some n → subdirectories nodes n.names ≡ subdirectories after n.names) where
  one_apart : 1 ≡ x → ⊥
  one_apart is = g.other (sym is)

  own_apart : d ≡ x → ⊥
  own_apart is = g.apart (sym is)

  root_grown : IsRoot (after 1)
  root_grown =
      let r = root_is (nodes 1) h.root in
      root_by (after 1) (sym (kind_kept nodes after d x g 1 one_apart) ∙ r.0)
      (sym (parent_kept nodes after d x g 1 one_apart) ∙ r.1)

  names_carried : (o : Option Node) → IfSome o (λ n. AreNames nodes n.names) → IfSome o (λ n. AreNames after n.names)
  names_carried (Some n) a =
      record { distinct = a.distinct; lead = lead_same nodes after n.names (some_kept nodes after d x g) a.lead }
  names_carried None a = tt

  names_here : AreNames after g.grown.names
  names_here =
      let e : NameEntry = record { cookie = g.cookie; name = g.name; fileid = x } in
      let a = names_are nodes d g.before h g.was in
      let lead : All (λ e. is_some (after e.fileid) ≡ true) g.before.names =
      lead_same nodes after g.before.names (some_kept nodes after d x g) a.lead in
      subst (AreNames after) (sym g.names)
      (record {
        distinct = distinct_append g.before.names e a.distinct g.lacks;
        lead = All-push (λ (e : NameEntry). is_some (after e.fileid) ≡ true) g.before.names e lead (ap is_some g.led);
      })

  names_hang : (id : ℕ) → IfSome (after id) (λ n. AreNames after n.names)
  names_hang id =
      ⊎_elim
      (λ is. subst (λ (o : Option Node). IfSome o (λ n. AreNames after n.names)) (sym (ap after is ∙ g.led))
      (subst (AreNames after) (sym g.nothing) (no_names after)))
      (λ other.
      ⊎_elim
      (λ is. subst (λ (o : Option Node). IfSome o (λ n. AreNames after n.names)) (sym (ap after is ∙ g.is)) names_here)
      (λ apart. subst (λ (o : Option Node). IfSome o (λ n. AreNames after n.names)) (sym (g.rest id other apart))
      (names_carried (nodes id) (h.names id)))
      (cases_eq id d))
      (cases_eq id x)

  linked_carried : (b : Bool) (id : ℕ) (n : Node) → nodes id ≡ Some n → (id ≡ x → ⊥) → IsLinked b nodes id n
      → IsLinked b after id n
  linked_carried true id n is other l = record {
    links = l.links ∙ ap (λ (k : ℕ). 2 + k) (below id n is);
    up = up id l.up;
    parent = λ apart.
        let p = l.parent apart in
        record {
          once = sym (all_others nodes after d x g id other) ∙ p.once;
          there = sym (names_kept nodes after d x g id n.inode.parent other) ∙ p.there;
        };
  }
  linked_carried false id n is other l = record {
    count = sym (all_others nodes after d x g id other) ∙ l.count;
    some = l.some;
  }

  links_carried : (id : ℕ) (o : Option Node) → nodes id ≡ o → (id ≡ x → ⊥)
      → IfSome o (λ n. IsLinked (is_directory n.inode.kind) nodes id n)
      → IfSome o (λ n. IsLinked (is_directory n.inode.kind) after id n)
  links_carried id (Some n) is other l = linked_carried (is_directory n.inode.kind) id n is other l
  links_carried id None is other l = tt

  placed_here : IsPlaced after d g.grown
  placed_here =
      let e : NameEntry = record { cookie = g.cookie; name = g.name; fileid = x } in
      let p = placed nodes d g.before h g.was g.directory in
      record {
        links = omega (
          arith,
          g.links,
          p.links,
          below d g.before g.was,
          ap (subdirectories after) g.names,
          subdirectories_append
              after g.before.names e,
        );
        up = up d p.up;
        parent = λ apart.
            let q = p.parent apart in
            record {
              once = sym (all_others nodes after d x g d own_apart) ∙ q.once;
              there = ap (λ (k : ℕ). count_in (after k) d) g.parent ∙ sym
                  (names_kept nodes after d x g d g.before.inode.parent own_apart) ∙ q.there;
            };
      }

  linked_here : IsLinked (is_directory g.grown.inode.kind) after d g.grown
  linked_here = subst (λ (b : Bool). IsLinked b after d g.grown) (sym (ap is_directory g.kind ∙ g.directory)) placed_here

  links_hang : IsLinked (is_directory g.target.inode.kind) after x g.target → (id : ℕ)
      → IfSome (after id) (λ n. IsLinked (is_directory n.inode.kind) after id n)
  links_hang own id =
      ⊎_elim
      (λ is.
      subst (λ (k : ℕ). IfSome (after k) (λ n. IsLinked (is_directory n.inode.kind) after k n)) (sym is)
      (subst (λ (o : Option Node). IfSome o (λ n. IsLinked (is_directory n.inode.kind) after x n)) (sym g.led) own))
      (λ other.
      ⊎_elim
      (λ is.
      subst (λ (k : ℕ). IfSome (after k) (λ n. IsLinked (is_directory n.inode.kind) after k n)) (sym is)
      (subst (λ (o : Option Node). IfSome o (λ n. IsLinked (is_directory n.inode.kind) after d n)) (sym g.is) linked_here))
      (λ apart.
      subst (λ (o : Option Node). IfSome o (λ n. IsLinked (is_directory n.inode.kind) after id n)) (sym (g.rest id other apart))
      (links_carried id (nodes id) refl other (h.links id)))
      (cases_eq id d))
      (cases_eq id x)

  pub grown_hangs : IsLinked (is_directory g.target.inode.kind) after x g.target → HangTogether after
  grown_hangs own = record {
    root = root_grown;
    unnamed = sym (all_others nodes after d x g 1 one_apart) ∙ h.unnamed;
    names = names_hang;
    links = links_hang own;
  }

-- ---- checks

-- the test did not refuse, and the rest passed
pub step : {B : Type 0} (test : Bool) (status : Status) (rest : Check B) (b : B)
    → (refuse_if test status >>= (λ u. rest)) ≡ Ok b → (test ≡ false) × (rest ≡ Ok b)
step true status rest b e = absurd cc
step false status rest b e = (refl, e)

pub ok_is : {A : Type 0} (a b : A) → ◌≡◌ {A = Check A} (Ok a) (Ok b) → a ≡ b
ok_is a b e = cc

none_by : (o : Option NameEntry) → is_some o ≡ false → o ≡ None
none_by (Some e) h = absurd cc
none_by None h = refl

-- no entry has a name that is free
pub free_ok : (t : Tree) (cred : Cred) (o : Object) (name : List ℕ) (u : Unit {0}) → need_free_name t cred o name ≡ Ok u
    → entry_at t o.place name ≡ None
unfolding need_free_name
free_ok t cred o name u e =
    let taken = step _ _ _ u e in
    none_by (entry_at t o.place name) (or_parts (is_reserved o name) (is_some (entry_at t o.place name)) taken.0).1
