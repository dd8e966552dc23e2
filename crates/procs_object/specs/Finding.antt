-- What a handle leads to, as records tell it.
use Rattle.std.specs.Prelude.{ℕ, ◌≡◌, ◌≤◌, ⊤, Bool, true, false, List, [], length, Option, Some, None, Result, Ok, Err}
use Rattle.nfs3_types.specs.declared.handle.Handle.{Handle}
use Rattle.nfs3_types.specs.Handles.{handle_in}
use Rattle.fs_rules.specs.declared.inode.Inode.{Inode as Kept}
use Rattle.fs_rules.specs.declared.place.Place.{Place}
use Rattle.fs_rules.specs.declared.place.Place.TheVariants.{SnapshotDirectory}
use Rattle.fs_rules.specs.Attributes.{is_directory, attributes_of}
use Rattle.fs_rules.specs.Checks.{Check, is_live}
use Rattle.fs_rules.specs.Limits.{longest_name}
use Rattle.fs_rules.specs.Places.{Object, object_by, node_at, attributes, place_of}
use Rattle.fs_rules.specs.Snapshots.{is_snapshot_directory}
use Rattle.fs_rules.specs.Sound.{IsSound}
use Rattle.fs_rules.specs.Tree.{Tree, Node}
use Rattle.pairs.specs.Told.{PairsTold}
use Rattle.fs_keys.specs.declared.rows.First.{First}
use Rattle.fs_shows.specs.declared.halt.Halt.{Halt}
use Rattle.fs_shows.specs.declared.halt.Halt.TheVariants.{Refused, Fault}
use Rattle.fs_shows.specs.Nodes.{IsInodeOf}
use Rattle.fs_shows.specs.Shows.{first_of}
use Rattle.fs_shows.specs.Steps.{Reads, GivesUpOn}
use Rattle.procs_object.specs.declared.object.Begun.{Begun}
use Rattle.procs_object.specs.declared.object.Found.{Found}

-- the handle is that of `.snapshot`
abbrev pub is_of_snapshots : Option Handle → Bool
is_of_snapshots None = false
is_of_snapshots (Some h) = is_snapshot_directory (place_of h)

abbrev pub says_snapshots : List ℕ → Bool
says_snapshots bytes = is_of_snapshots (handle_in bytes)

-- the tree is sound, and this is its first record
pub record Begins (row : First) (t : Tree) : Type 0 where
  pub sound : IsSound t
  pub first : first_of t ≡ row

-- what was found, by its place, its inode and its attributes, is this object of the tree
pub record IsObject (t : Tree) (x : Found) (o : Object) : Type 0 where
  pub node : Node
  pub there : node_at t x.place ≡ Some node
  pub inode : IsInodeOf x.inode node
  pub is : o ≡ object_by x.place node
  pub attributes : attributes t o ≡ x.attributes

-- what was found by the first record is this object of the tree, whose first record it is
pub record IsBegun (t : Tree) (x : Begun) (o : Object) : Type 0 where
  pub object : IsObject t x.found o
  pub first : first_of t ≡ x.begins

-- the tree is sound, and something stands at the place
pub record HasPlace (place : Place) (t : Tree) : Type 0 where
  pub sound : IsSound t
  pub node : Node
  pub there : node_at t place ≡ Some node

-- the directory `.snapshot`, where this is its inode
abbrev pub directory_found : ℕ → Kept → Found
directory_found fsid kept = record {
  place = SnapshotDirectory;
  inode = record { head = record { kept = kept; size = 4096; floor = 0 }; target = [] };
  attributes = attributes_of fsid 2 kept 4096;
}

-- a place leads to what was found, or to nothing
abbrev pub IsLed : Tree → Option Found → Option Object → Type 0
IsLed t None None = ⊤
IsLed t None (Some o) = ⊥
IsLed t (Some x) None = ⊥
IsLed t (Some x) (Some o) = IsObject t x o

-- what was found is a live directory, and this is no longer than names are
pub record IsPlaceFor (name : List ℕ) (x : Found) : Type 0 where
  pub directory : is_directory x.inode.head.kept.kind ≡ true
  pub live : is_live x.place ≡ true
  pub short : length name ≤ longest_name

module _ {S W : Type 0} (told : PairsTold S W) (old new : S) where
  -- Reads that answer as a check of the answer table does, on each tree of which this much is given: what was found stands,
  -- in the tree, for what the check finds, or the status is that of its refusal.
  abbrev pub CheckedOn : {A X : Type 0} → (Tree → Type 0) → (Tree → X → A → Type 0) → (Tree → Check A) → Result X Halt → Type 0
  CheckedOn {A = A} Given Finds check (Ok x) = Reads told old new Given (λ t. (a : A) × (check t ≡ Ok a) × Finds t x a)
  CheckedOn Given Finds check (Err (Refused status)) = Reads told old new Given (λ t. check t ≡ Err status)
  CheckedOn Given Finds check (Err (Fault fault)) = GivesUpOn told old new Given fault
