-- Edits of a directory's names keep it fit for further edits: no name stands in it twice, and its cookies rise. In a sound tree
-- each directory is so.
use Rattle.std.proofs.Common.{◌≡◌, ℕ, ◌+◌, ◌≤◌, Bool, true, false, if◌then◌else◌, List, [], ◌∷◌, ◌++◌}
use Rattle.std.proofs.Common.{Option, Some, None, refl, sym, subst, arith}
use Rattle.std.specs.Prelude.{All, IsSome, IfSome, find, filter, not, ◌^◌}
use Rattle.std.specs.Str.{bytes_eq}
use Rattle.nfs3_types.specs.declared.file_type.FileType.{FileType}
use Rattle.nfs3_types.specs.declared.file_type.FileType.TheVariants.{Reg, Dir, Lnk, Blk, Chr, Sock, Fifo}
use Rattle.nfs3_types.specs.declared.moment.Moment.{Moment}
use Rattle.pairs.proofs.VersionsLaws.{is-same, other-is}
use Rattle.pairs.specs.declared.at.At.TheVariants.{Live}
use Rattle.fs_rules.specs.declared.name_entry.NameEntry.{NameEntry}
use Rattle.fs_rules.specs.Attributes.{is_directory}
use Rattle.fs_rules.specs.Edits.{touch, add_name, add_link}
use Rattle.fs_rules.specs.Limits.{most_numbers}
use Rattle.fs_rules.specs.Making.{gain_name}
use Rattle.fs_rules.specs.Names.{has_name, named}
use Rattle.fs_rules.specs.Places.{names_of, node_at}
use Rattle.fs_rules.specs.Sound.{AreDistinct, AreNames, IsDirectoryWithin, IsNodeWithin, IsOfKind, IsSound, Lacks, Rise}
use Rattle.fs_rules.specs.Tree.{Tree, Node}
use Rattle.fs_shows.proofs.NameLists.{all-cons, all-tail, entry_of, next-is-fresh, without}
use Rattle.dir_ops.specs.Directories.{CanGain, CanAdd, lose_entry, CanDrop}
use Rattle.dir_ops.specs.Listing.{IsListed}

-- ---- a name less

all-filter : {X : Type 0} (P : X → Type 0) (keep : X → Bool) (xs : List X) → All P xs → All P (filter keep xs)
all-filter P keep [] all = all
all-filter P keep (x ∷ xs) all = by_test (keep x) (all-filter P keep xs (all-tail P x xs all))
  where
    by_test : (u : Bool) → All P (filter keep xs) → All P (if u then x ∷ filter keep xs else filter keep xs)
    by_test true rest = all-cons P x (filter keep xs) (all 0 x (omega arith)) rest
    by_test false rest = rest

distinct-filter : (keep : NameEntry → Bool) (names : List NameEntry) → AreDistinct names → AreDistinct (filter keep names)
unfolding AreDistinct
distinct-filter keep [] distinct = tt
distinct-filter keep (e ∷ names) distinct =
    by_test (keep e) (all-filter (λ f. bytes_eq f.name e.name ≡ false) keep names distinct.0)
    (distinct-filter keep names distinct.1)
  where
    by_test : (u : Bool) → Lacks e.name (filter keep names) → AreDistinct (filter keep names)
        → AreDistinct (if u then e ∷ filter keep names else filter keep names)
    by_test true lacks rest = (lacks, rest)
    by_test false lacks rest = rest

rise-from : (least from next : ℕ) (names : List NameEntry) → least ≤ from → Rise from next names → Rise least next names
unfolding Rise
rise-from least from next [] up rise = omega (arith, up, rise)
rise-from least from next (e ∷ names) up rise = (omega (arith, up, rise.0), rise.1)

rise-filter : (keep : NameEntry → Bool) (least next : ℕ) (names : List NameEntry) → Rise least next names
    → Rise least next (filter keep names)
unfolding Rise
rise-filter keep least next [] rise = rise
rise-filter keep least next (e ∷ names) rise = by_test (keep e) (rise-filter keep (e.cookie + 1) next names rise.1)
  where
    by_test : (u : Bool) → Rise (e.cookie + 1) next (filter keep names)
        → Rise least next (if u then e ∷ filter keep names else filter keep names)
    by_test true rest = (rise.0, rest)
    by_test false rest = rise-from least (e.cookie + 1) next (filter keep names) (omega (arith, rise.0)) rest

pub distinct-dropped : (name : List ℕ) (names : List NameEntry) → AreDistinct names → AreDistinct (without name names)
distinct-dropped name names distinct = distinct-filter (λ e. not (has_name name e)) names distinct

pub rise-dropped : (name : List ℕ) (least next : ℕ) (names : List NameEntry) → Rise least next names
    → Rise least next (without name names)
rise-dropped name least next names rise = rise-filter (λ e. not (has_name name e)) least next names rise

-- ---- a name more

all-last : {X : Type 0} (P : X → Type 0) (xs : List X) (x : X) → All P xs → P x → All P (xs ++ x ∷ [])
all-last P [] x all last = all-cons P x [] last all
all-last P (y ∷ xs) x all last = all-cons P y (xs ++ x ∷ []) (all 0 y (omega arith)) (all-last P xs x (all-tail P y xs all) last)

pub distinct-added : (name : List ℕ) (cookie fileid : ℕ) (names : List NameEntry) → AreDistinct names → named name names ≡ None
    → AreDistinct (names ++ entry_of cookie name fileid ∷ [])
unfolding AreDistinct named has_name
distinct-added name cookie fileid [] distinct free = ((λ k d less. absurd (omega (arith, less))), tt)
distinct-added name cookie fileid (e ∷ names) distinct free =
    by_test (bytes_eq e.name name) refl free (λ more. distinct-added name cookie fileid names distinct.1 more)
  where
    other : bytes_eq e.name name ≡ false → bytes_eq name e.name ≡ false
    other differs = other-is name e.name (λ is. contradicts
        (subst (λ (k : List ℕ). bytes_eq e.name k ≡ true) (sym is) (is-same e.name)))
      where
        contradicts : bytes_eq e.name name ≡ true → ⊥
        contradicts same = cc

    by_test : (u : Bool) → bytes_eq e.name name ≡ u → (if u then Some e else find (λ e. bytes_eq e.name name) names) ≡ None
        → (find (λ e. bytes_eq e.name name) names ≡ None → AreDistinct (names ++ entry_of cookie name fileid ∷ []))
        → Lacks e.name (names ++ entry_of cookie name fileid ∷ []) × AreDistinct (names ++ entry_of cookie name fileid ∷ [])
    by_test true is free more = absurd (cc)
    by_test false is free more = (
      all-last (λ f. bytes_eq f.name e.name ≡ false) names (entry_of cookie name fileid) distinct.0 (other is),
      more free,
    )

pub rise-added : (name : List ℕ) (fileid least next : ℕ) (names : List NameEntry) → Rise least next names
    → Rise least (next + 1) (names ++ entry_of next name fileid ∷ [])
unfolding Rise
rise-added name fileid least next [] rise = (rise, omega arith)
rise-added name fileid least next (e ∷ names) rise = (rise.0, rise-added name fileid (e.cookie + 1) next names rise.1)

-- ---- directories

-- what edits of its names need of a directory, beside room
pub record KeepsNames (n : Node) : Type 0 where
  pub distinct : AreDistinct n.names
  pub cookies : Rise 3 n.inode.next_cookie n.names

pub keeps-lost : (u : Bool) (name : List ℕ) (now : Moment) (n : Node) → KeepsNames n → KeepsNames (lose_entry u name now n)
keeps-lost true name now n keeps = record {
  distinct = distinct-dropped name n.names keeps.distinct;
  cookies = rise-dropped name 3 n.inode.next_cookie n.names keeps.cookies;
}
keeps-lost false name now n keeps = record {
  distinct = distinct-dropped name n.names keeps.distinct;
  cookies = rise-dropped name 3 n.inode.next_cookie n.names keeps.cookies;
}

pub keeps-gained : (kind : FileType) (name : List ℕ) (fileid : ℕ) (now : Moment) (n : Node) → named name n.names ≡ None
    → KeepsNames n → KeepsNames (gain_name kind name fileid now n)
keeps-gained kind name fileid now n free keeps = by_kind (is_directory kind)
  where
    by_kind : (u : Bool) → KeepsNames (touch now (add_name name fileid (if u then add_link n else n)))
    by_kind true = record {
      distinct = distinct-added name n.inode.next_cookie fileid n.names keeps.distinct free;
      cookies = rise-added name fileid 3 n.inode.next_cookie n.names keeps.cookies;
    }
    by_kind false = record {
      distinct = distinct-added name n.inode.next_cookie fileid n.names keeps.distinct free;
      cookies = rise-added name fileid 3 n.inode.next_cookie n.names keeps.cookies;
    }

module _ (t : Tree) (directory : ℕ) (n : Node) (there : t.nodes directory ≡ Some n) (keeps : KeepsNames n) where
  pub can-drop : (name : List ℕ) → IsSome (named name n.names) → CanDrop directory name t
  can-drop name has =
      record { node = n; there = there; distinct = keeps.distinct; cookies = keeps.cookies; has = has }

  pub can-add : (name : List ℕ) → named name n.names ≡ None → CanGain n.inode → CanAdd directory name t
  can-add name free room = record {
    node = n;
    there = there;
    free = free;
    fresh = next-is-fresh 3 n.inode.next_cookie n.names keeps.cookies;
    room = room;
  }

  pub is-listed : n.inode.next_cookie ≤ 2 ^ 64 → IsListed Live directory t
  unfolding node_at
  is-listed most = record {
    kept = tt;
    next = n.inode.next_cookie;
    rises = subst (λ (o : Option Node). Rise 3 n.inode.next_cookie (names_of o)) (sym there) keeps.cookies;
    most = most;
  }

-- ---- in a sound tree

directory-within : (kind : FileType) (id : ℕ) (n : Node) → is_directory kind ≡ true → IsOfKind kind id n → IsDirectoryWithin id n
directory-within Reg id n is within = absurd (cc)
directory-within Dir id n is within = within
directory-within Blk id n is within = absurd (cc)
directory-within Chr id n is within = absurd (cc)
directory-within Lnk id n is within = absurd (cc)
directory-within Sock id n is within = absurd (cc)
directory-within Fifo id n is within = absurd (cc)

module _ (t : Tree) (sound : IsSound t) (directory : ℕ) (n : Node) (there : t.nodes directory ≡ Some n)
    (is : is_directory n.inode.kind ≡ true) where
  node-within : IsNodeWithin directory n
  node-within =
      subst (λ (o : Option Node). IfSome o (IsNodeWithin directory)) there (sound.bounds.live.each directory)

  within : IsDirectoryWithin directory n
  within = directory-within n.inode.kind directory n is node-within.kind

  names-are : AreNames t.nodes n.names
  names-are = subst (λ (o : Option Node). IfSome o (λ n. AreNames t.nodes n.names)) there (sound.live.names directory)

  pub sound-keeps : KeepsNames n
  sound-keeps = record { distinct = names-are.distinct; cookies = within.entries.cookies }

  pub sound-gains : CanGain n.inode
  sound-gains = record { cookies = within.most; links = node-within.links }

  pub sound-listed : IsListed Live directory t
  unfolding most_numbers
  sound-listed = is-listed t directory n there sound-keeps (omega (arith, within.most))
