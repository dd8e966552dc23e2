-- The names of a directory that loses one, or gains one.
use Rattle.std.proofs.Common.{◌≡◌, ◌≢◌, ℕ, ◌≤◌, Bool, true, false, List, [], Option, Some, None}
use Rattle.std.proofs.Common.{refl, sym, ◌∙◌, ap, subst}
use Rattle.std.specs.Prelude.{option_map, IsSome, IsSomeAnd}
use Rattle.std.specs.Str.{bytes_eq}
use Rattle.pairs.proofs.VersionsLaws.{same-is, is-same}
use Rattle.fs_rules.specs.declared.name_entry.NameEntry.{NameEntry}
use Rattle.fs_rules.specs.Edits.{drop_name}
use Rattle.fs_rules.specs.Limits.{most_links}
use Rattle.fs_rules.specs.Names.{named}
use Rattle.fs_rules.specs.Places.{names_of}
use Rattle.fs_rules.specs.Tree.{Tree, Node}
use Rattle.fs_shows.proofs.NameLists.{named-dropped, named-left}
use Rattle.dir_ops.specs.Directories.{CanAdd, CanDrop}
use Rattle.dir_ops.proofs.Keeping.{distinct-dropped, rise-dropped, can-drop as may-drop, can-add as may-add}
use Rattle.procs_rename.specs.Moving.{IsOrderly, number_at, Has}

-- ---- names in order, of which one goes

pub orderly-dropped : (name : List ℕ) (n : Node) → IsOrderly n → IsOrderly (drop_name name n)
orderly-dropped name n o = record {
  distinct = distinct-dropped name n.names o.distinct;
  cookies = rise-dropped name 3 n.inode.next_cookie n.names o.cookies;
  most = o.most;
}

-- ---- what has a name

pub number-other : (name other : List ℕ) (n : Node) → name ≢ other → number_at name (drop_name other n) ≡ number_at name n
number-other name other n differs =
    ap (λ (o : Option NameEntry). option_map (λ e. e.fileid) o) (named-left other name n.names differs)

pub number-dropped : (name : List ℕ) (n : Node) → number_at name (drop_name name n) ≡ None
number-dropped name n = ap (λ (o : Option NameEntry). option_map (λ e. e.fileid) o) (named-dropped name n.names)

-- a name that is not there is not there when another one went
pub number-free : (name other : List ℕ) (n : Node) → number_at name n ≡ None → number_at name (drop_name other n) ≡ None
number-free name other n free = by_test (bytes_eq name other) refl
  where
    by_test : (u : Bool) → bytes_eq name other ≡ u → number_at name (drop_name other n) ≡ None
    by_test true is =
        subst (λ (x : List ℕ). number_at name (drop_name x n) ≡ None) (same-is name other is) (number-dropped name n)
    by_test false is =
        number-other name other n (λ same.
        differs (bytes_eq name other) (subst (λ (x : List ℕ). bytes_eq name x ≡ true) same (is-same name)) is) ∙ free
      where
        differs : (b : Bool) → b ≡ true → b ≡ false → ⊥
        differs b p q = cc

none-of : (o : Option NameEntry) → option_map (λ e. e.fileid) o ≡ None → o ≡ None
none-of None is = refl
none-of (Some e) is = absurd (cc)

some-of : (fileid : ℕ) (o : Option NameEntry) → option_map (λ e. e.fileid) o ≡ Some fileid → IsSome o
some-of fileid None is = absurd (cc)
some-of fileid (Some e) is = refl

-- two names of one directory that lead to different nodes differ
pub names-differ : (a b : List ℕ) (f g : ℕ) (n : Node) → Has a f n → number_at b n ≡ Some g → g ≢ f → a ≢ b
names-differ a b f g n has leads other same =
    other (one (number_at a n) (subst (λ (x : List ℕ). number_at x n ≡ Some g) (sym same) leads) has.leads)
  where
    one : (o : Option ℕ) → o ≡ Some g → o ≡ Some f → g ≡ f
    one o p q = cc

-- what has no names has not this one
pub bare-not : (name : List ℕ) (f : ℕ) (o : Option Node) → names_of o ≡ [] → IsSomeAnd o (Has name f) → ⊥
unfolding named
bare-not name f None bare has = has
bare-not name f (Some n) bare has =
    nothing
    (sym (ap (λ (names : List NameEntry). option_map (λ e. e.fileid) (named name names)) bare) ∙ has.leads)
  where
    nothing : None ≡ Some f → ⊥
    nothing e = cc

-- ---- names that may be dropped and added

pub can-drop : (directory : ℕ) (name : List ℕ) (f : ℕ) (t : Tree) → IsSomeAnd (t.nodes directory) (Has name f)
    → CanDrop directory name t
can-drop directory name f t is = by_node (t.nodes directory) refl is
  where
    by_node : (o : Option Node) → t.nodes directory ≡ o → IsSomeAnd o (Has name f) → CanDrop directory name t
    by_node None at has = absurd has
    by_node (Some n) at has =
        may-drop t directory n at (record { distinct = has.orderly.distinct; cookies = has.orderly.cookies }) name
        (some-of f (named name n.names) has.leads)

-- a directory has not the name, and may have a link and a name more
pub record IsFree (name : List ℕ) (n : Node) : Type 0 where
  pub orderly : IsOrderly n
  pub leads : number_at name n ≡ None
  pub links : n.inode.nlink ≤ most_links

pub can-add : (directory : ℕ) (name : List ℕ) (t : Tree) → IsSomeAnd (t.nodes directory) (IsFree name) → CanAdd directory name t
can-add directory name t is = by_node (t.nodes directory) refl is
  where
    by_node : (o : Option Node) → t.nodes directory ≡ o → IsSomeAnd o (IsFree name) → CanAdd directory name t
    by_node None at free = absurd free
    by_node (Some n) at free =
        may-add t directory n at (record { distinct = free.orderly.distinct; cookies = free.orderly.cookies }) name
        (none-of (named name n.names) free.leads) (record { cookies = free.orderly.most; links = free.links })
