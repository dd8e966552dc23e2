-- What versions of pairs, with their blocks, show as a tree.
use Rattle.std.specs.Prelude.{ℕ, ◌≡◌, ◌≢◌, ◌<◌, ◌≤◌, ◌^◌, Bool, true, false, List, [], Option, Some, None}
use Rattle.std.specs.Prelude.{option_map, option_and_then, IfSome, All, Contains, slice_get}
use Rattle.pairs.specs.declared.at.At.{At}
use Rattle.pairs.specs.declared.at.At.TheVariants.{Live, Snap}
use Rattle.pairs.specs.Lives.{Life}
use Rattle.pairs.specs.Versions.{Versions, HasLives, epoch}
use Rattle.fs_rules.specs.Places.{snapshot_numbered}
use Rattle.fs_rules.specs.Sound.{IsSound, is_given}
use Rattle.fs_rules.specs.Tree.{Tree, Snapshot}
use Rattle.fs_keys.specs.declared.key_parts.KeyParts.TheVariants as key
use Rattle.fs_keys.specs.declared.inode.Inode.{Inode}
use Rattle.fs_keys.specs.declared.rows.Extent.{Extent}
use Rattle.fs_keys.specs.declared.rows.First.{First}
use Rattle.fs_keys.specs.Inodes.{inode_of}
use Rattle.fs_keys.specs.Keys.{Parts, HasBounds, key_of, parts_of}
use Rattle.fs_keys.specs.Values.{first_in, lane_in, extent_in, times_in}
use Rattle.fs_shows.specs.Extents.{Marks, counts, slot_of, IsPlace, row, extent_at}
use Rattle.fs_shows.specs.Nodes.{Holds, marks_of, ShowsNodes}

-- ---- extents and blocks

-- A life is that of an extent: its value says so, and the slot that it names holds a block.
pub record NamesBlock (v : Versions) (file index : ℕ) (l : Life) : Type 0 where
  pub extent : Extent
  pub said : extent_in l.value ≡ Some extent
  pub there : v.blocks (slot_of v.stores file index extent) ≢ None

-- a life of an extent, and the block's place that it names
pub record IsExtent (v : Versions) (file index : ℕ) (l : Life) (x : Extent) : Type 0 where
  pub place : IsPlace file index
  pub life : Contains (v.lives (key_of (key.Extent file index))) l
  pub said : extent_in l.value ≡ Some x

-- Each extent, live or dead, names a block, and no two name one.
pub record KeepsBlocks (v : Versions) : Type 0 where
  pub some : 1 ≤ v.stores
  pub named : (file index : ℕ) (l : Life) → IsPlace file index → Contains (v.lives (key_of (key.Extent file index))) l
      → NamesBlock v file index l
  pub alone : (f i g j : ℕ) (l k : Life) (x y : Extent) → IsExtent v f i l x → IsExtent v g j k y
      → slot_of v.stores f i x ≡ slot_of v.stores g j y → (f ≡ g) × (i ≡ j) × (l.birth ≡ k.birth)

-- the marks of a live file, where there is one
abbrev pub live_marks : Versions → ℕ → Option Marks
live_marks v file = option_map (λ i. marks_of i.head) (option_and_then inode_of (row v Live (key.Inode file)))

abbrev pub counts_by : Option Marks → ℕ → Extent → Bool
counts_by (Some m) index x = counts m index x
counts_by None index x = false

-- The live extents of a file: none is newer than the file's last cut; and where one does not count, the file is marked as
-- one that has stale extents.
pub record MarksStale (v : Versions) : Type 0 where
  pub within : (file index : ℕ) (x : Extent) → IsPlace file index → extent_at v Live file index ≡ Some x
      → IfSome (live_marks v file) (λ m. x.stamp ≤ m.stamp)
  pub marked : (file index : ℕ) (x : Extent) → IsPlace file index → extent_at v Live file index ≡ Some x
      → counts_by (live_marks v file) index x ≡ false → row v Live (key.Stale file) ≢ None

-- ---- the tree

abbrev pub first_of : Tree → First
first_of t = record { epoch = t.epoch; fsid = t.fsid; verifier = t.verifier }

-- No record names a file whose number was not given, and no key is outside of the table.
pub record IsWithin (v : Versions) (t : Tree) : Type 0 where
  pub extents : (file index : ℕ) → IsPlace file index → v.lives (key_of (key.Extent file index)) ≢ [] → is_given t file ≡ true
  pub stale : (file : ℕ) → file < 2 ^ 64 → v.lives (key_of (key.Stale file)) ≢ [] → is_given t file ≡ true
  pub table : (k : List ℕ) → parts_of k ≡ None → v.lives k ≡ []

-- The rows that are the tree's own: its numbers, and the names of its snapshots.
pub record ShowsRows (v : Versions) (t : Tree) : Type 0 where
  pub first : Holds first_in (row v Live key.First) (Some (first_of t))
  pub lanes : (lane : ℕ) → lane < 256 → Holds lane_in (row v Live (key.Lane lane)) (slice_get t.next_fileids lane)
  pub snapshots : (number : ℕ) → number < 2 ^ 64
      → row v Live (key.Snapshot number) ≡ option_map (λ s. s.name) (snapshot_numbered t number)
  pub times : Holds times_in (row v Live key.Times) (Some t.snapshot_times)

-- Versions show a tree, sound or not: its rows, its live nodes, and those of each snapshot, in the view by its number,
-- which is below the epoch.
pub record Shows (v : Versions) (t : Tree) : Type 0 where
  pub lives : HasLives v
  pub epoch_is : epoch v ≡ t.epoch
  pub rows : ShowsRows v t
  pub live : ShowsNodes v Live t.nodes
  pub earlier : All (λ s. s.number < t.epoch) t.snapshots
  pub kept : All (λ s. ShowsNodes v (Snap s.number) s.nodes) t.snapshots
  pub blocks : KeepsBlocks v
  pub stale : MarksStale v
  pub within : IsWithin v t

-- versions stand for a tree: they show it, and it is sound
pub record Stands (v : Versions) (t : Tree) : Type 0 where
  pub shows : Shows v t
  pub sound : IsSound t
