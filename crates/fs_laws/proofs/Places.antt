-- The live node that a handle leads to, and a place for a name.
use Rattle.std.proofs.Common.{◌≡◌, ℕ, ◌==◌, if◌then◌else◌, Bool, true, false, not, List, Option, Some, None, option_map, Ok}
use Rattle.std.proofs.Common.{refl, subst, sym, ap}
use Rattle.std.proofs.lemmas.Bool.{not-false}
use Rattle.nfs3_types.specs.declared.args.DirOp.{DirOp}
use Rattle.nfs3_types.specs.declared.file_type.FileType.TheVariants.{Dir}
use Rattle.nfs3_types.specs.declared.status.Status.TheVariants.{BadHandle, NotDir, Rofs, Stale}
use Rattle.nfs3_types.specs.Handles.{handle_in}
use Rattle.fs_rules.specs.Attributes.{is_directory}
use Rattle.fs_rules.specs.Checks.{find_directory, find_object, is_live, need_place_for}
use Rattle.fs_rules.specs.Names.{name_fault}
use Rattle.fs_rules.specs.Places.{Object, fileid_at, node_at, node_in, object_at, object_by, object_of, place_of}
use Rattle.fs_rules.specs.Places.{snapshot_directory, snapshot_numbered}
use Rattle.fs_rules.specs.Tree.{Node, Tree}
use Rattle.fs_rules.specs.declared.place.Place.{Place}
use Rattle.fs_rules.specs.declared.place.Place.TheVariants.{Kept, Live, SnapshotDirectory}
use Rattle.fs_laws.proofs.NodesWithin.{directory_is}
use Rattle.fs_laws.proofs.Passed.{next_of, no_fault_passed, past, past_some, some_found}

-- the object is the node of this number in the live tree
pub record IsLive (t : Tree) (fileid : ℕ) (n : Node) (o : Object) : Type 0 where
  pub stands : t.nodes fileid ≡ Some n
  pub same : o ≡ object_by (Live fileid) n

pub number_is : {t : Tree} {fileid : ℕ} {n : Node} {o : Object} → IsLive t fileid n o → fileid_at o.place ≡ fileid
number_is is = ap (λ (x : Object). fileid_at x.place) is.same

-- what is so of the node's number and of what is seen of the node is so of the object
pub of_live : {t : Tree} {fileid : ℕ} {n : Node} {o : Object} (P : Object → Type 0) → IsLive t fileid n o
    → P (object_by (Live fileid) n) → P o
of_live P is h = subst P (sym is.same) h

pub to_live : {t : Tree} {fileid : ℕ} {n : Node} {o : Object} (P : Object → Type 0) → IsLive t fileid n o → P o
    → P (object_by (Live fileid) n)
to_live P is h = subst P is.same h

if_some : {A : Type 0} (b : Bool) (o : Option A) (a : A) → (if b then o else None) ≡ Some a → o ≡ Some a
if_some true o a e = e
if_some false o a e = absurd cc

pub live_of : {G : Type 0} (t : Tree) (fileid : ℕ) (n : Option Node) (o : Object) → t.nodes fileid ≡ n
    → option_map (object_by (Live fileid)) n ≡ Some o → ((n : Node) → IsLive t fileid n o → G) → G
live_of t fileid (Some n) o is e more = more n (record { stands = is; same = cc })
live_of t fileid None o is e more = absurd cc

-- what is found of a place stands there
elsewhere : (place : Place) (n : Option Node) (o : Object) → option_map (object_by place) n ≡ Some o → is_live place ≡ false
    → not (is_live o.place) ≡ false → ⊥
elsewhere place (Some n) o e dead live =
    let same : object_by place n ≡ o = cc in
    let living = subst (λ (x : Object). not (is_live x.place) ≡ false) (sym same) live in
    absurd cc
elsewhere place None o e dead live = absurd cc

-- a place that is not live does not become one
live_at : {G : Type 0} (t : Tree) (place : Place) (o : Object) → object_at t place ≡ Some o → not (is_live o.place) ≡ false
    → ((fileid : ℕ) (n : Node) → IsLive t fileid n o → G) → G
unfolding object_at node_at
live_at t (Live fileid) o e live more = live_of t fileid (t.nodes fileid) o refl e (more fileid)
live_at {G = G} t SnapshotDirectory o e live more =
    absurd (elsewhere SnapshotDirectory (Some (snapshot_directory t)) o e refl live)
live_at {G = G} t (Kept number fileid) o e live more =
    absurd (elsewhere (Kept number fileid) (node_in (snapshot_numbered t number) fileid) o e refl live)

-- what a handle leads to, where it is live
pub live_found : {G : Type 0} (t : Tree) (bytes : List ℕ) (o : Object) → find_object t bytes ≡ Ok o
    → not (is_live o.place) ≡ false → ((fileid : ℕ) (n : Node) → IsLive t fileid n o → G) → G
unfolding find_object object_of
live_found t bytes o e live more = past_some (handle_in bytes) BadHandle _ o e (λ h is e.
    live_at t (place_of h) o (if_some (h.fsid == t.fsid) _ o (some_found (object_of t h) Stale o e)) live more)

-- ---- a place for a name

-- a directory in the live tree, and an own name
pub record IsPlace (t : Tree) (fileid : ℕ) (n : Node) (o : Object) (name : List ℕ) : Type 0 where
  pub live : IsLive t fileid n o
  pub kind : n.inode.kind ≡ Dir
  pub good : name_fault name ≡ None

pub live_kind : (t : Tree) (fileid : ℕ) (n : Node) (o : Object) → IsLive t fileid n o → not (is_directory o.inode.kind) ≡ false
    → n.inode.kind ≡ Dir
live_kind t fileid n o is kind =
    directory_is n.inode.kind (not-false (is_directory n.inode.kind) (subst
    (λ (x : Object). not (is_directory x.inode.kind) ≡ false) is.same kind))

pub place_for : {G : Type 0} (t : Tree) (bytes : List ℕ) (o : Object) (name : List ℕ) (u : Unit {0})
    → find_object t bytes ≡ Ok o → need_place_for o name ≡ Ok u → ((fileid : ℕ) (n : Node) → IsPlace t fileid n o name → G) → G
unfolding need_place_for
place_for t bytes o name u is e more =
    past (not (is_directory o.inode.kind)) NotDir _ u e (λ kind e.
    past (not (is_live o.place)) Rofs _ u e (λ live e.
    live_found t bytes o is live (λ fileid n alive.
    more fileid n (record {
      live = alive;
      kind = live_kind t fileid n o alive kind;
      good = no_fault_passed (name_fault name) u e;
    }))))

pub place_of_name : {G : Type 0} (t : Tree) (a : DirOp (List ℕ)) (directory : Object) → find_directory t a ≡ Ok directory
    → ((fileid : ℕ) (n : Node) → IsPlace t fileid n directory a.name → G) → G
unfolding find_directory
place_of_name {G = G} t a directory e more =
    next_of (find_object t a.directory) _ directory e (λ o is e.
    next_of (need_place_for o a.name) _ directory e (λ u fits e.
    place_for t a.directory o a.name u is fits (λ fileid n at.
    let same : o ≡ directory = cc in
    more fileid n (subst (λ (x : Object). IsPlace t fileid n x a.name) same at))))
