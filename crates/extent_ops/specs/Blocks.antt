-- One block of a file: how it is found, read and written.
use Rattle.std.specs.Prelude.{ℕ, ◌≡◌, ◌≢◌, ◌<◌, ◌≤◌, ◌+◌, ◌-◌, ◌^◌, nat_le, nat_lt, ◌&&◌, if◌then◌else◌, List, [], length}
use Rattle.std.specs.Prelude.{slice_index, Option, Some, None}
use Rattle.pair_types.specs.declared.slot.Slot.{Slot}
use Rattle.pairs.specs.declared.at.At.{At}
use Rattle.pairs.specs.declared.at.At.TheVariants.{Live, Snap}
use Rattle.pairs.specs.Lives.{born}
use Rattle.pairs.specs.Versions.{Versions, value_at, epoch, with_put, with_block}
use Rattle.pairs.specs.Found.{Fills, IsFresh}
use Rattle.fs_keys.specs.declared.key_parts.KeyParts.TheVariants.{Extent as ExtentKey}
use Rattle.fs_keys.specs.declared.rows.Extent.{Extent}
use Rattle.fs_keys.specs.Keys.{key_of}
use Rattle.fs_keys.specs.Values.{extent}
use Rattle.fs_shows.specs.Extents.{Marks, IsPlace, block_size, block_slot, block_at, byte_at}
use Rattle.fs_shows.specs.Shows.{KeepsBlocks, MarksStale, live_marks}
use Rattle.extent_ops.specs.Steps.{HasBlocks}

-- ---- records of extents

abbrev pub extent_key : ℕ → ℕ → List ℕ
extent_key file index = key_of (ExtentKey file index)

abbrev pub extent_value : Extent → List ℕ
extent_value x = extent.spelling x

-- a key that is no extent's of this file
abbrev pub IsBeside : ℕ → List ℕ → Type 0
IsBeside file key = (index : ℕ) → index < 2 ^ 64 → key ≢ extent_key file index

-- ---- reading

-- the first bytes of the block in a slot stand in a room from now on; where there is no slot, the room stays
abbrev pub FilledFrom : Option Slot → List ℕ → List ℕ → ℕ → Versions → Type 0
FilledFrom None old new n v = (n ≡ 0) × (new ≡ old)
FilledFrom (Some at) old new n v = (block : List ℕ) → v.blocks at ≡ Some block → Fills block old new n

-- Where the block lies that a view shows at an index, and its bytes, as many as these, with zeros behind them.
pub record IsLoaded (at : At) (file : ℕ) (m : Marks) (index : ℕ) (slot : Option Slot) (bytes : List ℕ) (n : ℕ)
    (v : Versions) : Type 0 where
  pub slot_is : block_slot v at file m index ≡ slot
  pub bytes_are : KeepsBlocks v → IsPlace file index → (k : ℕ) → k < block_size
      → slice_index bytes k ≡ slice_index (block_at v at file m index) k
  pub behind : KeepsBlocks v → IsPlace file index → (k : ℕ) → n ≤ k → slice_index bytes k ≡ 0

-- ---- writing

-- the byte at an offset, where so many bytes of a content are laid over those that were there
abbrev pub overlaid : ℕ → ℕ → List ℕ → (ℕ → ℕ) → ℕ → ℕ
overlaid offset count content bytes o =
    if nat_le offset o && nat_lt o (offset + count) then slice_index content (o - offset) else bytes o

-- a block has this part laid over its bytes
abbrev pub IsPatched : List ℕ → ℕ → List ℕ → List ℕ → Type 0
IsPatched old from part new = (k : ℕ) → k < block_size
    → slice_index new k ≡ overlaid from (length part) part (λ j. slice_index old j) k

-- the live extent at an index of a file was born in the epoch
abbrev pub BornNow : ℕ → ℕ → Versions → Type 0
BornNow file index v = born (v.lives (extent_key file index)) ≡ Some (epoch v)

-- a block that counts lies here, and its extent was born in the epoch
pub record LiesNow (file : ℕ) (m : Marks) (index : ℕ) (slot : Slot) (v : Versions) : Type 0 where
  pub slot_is : block_slot v Live file m index ≡ Some slot
  pub now : BornNow file index v

-- What a write to a live file leaves as it was: what every other file and every earlier view shows, and what earlier views
-- have at any key. A block that counts and was born in the epoch is written where it lies. Lives stay in order, each extent
-- names a block of its own, and none is left unmarked that does not count.
pub record Leaves (file : ℕ) (m : Marks) (v z : Versions) : Type 0 where
  pub others : (other : ℕ) (n : Marks) (offset : ℕ) → other < 2 ^ 64 → offset < 2 ^ 64 → other ≢ file
      → byte_at z Live other n offset ≡ byte_at v Live other n offset
  pub earlier : (number : ℕ) → number < epoch v → (other : ℕ) (n : Marks) (offset : ℕ) → other < 2 ^ 64 → offset < 2 ^ 64
      → byte_at z (Snap number) other n offset ≡ byte_at v (Snap number) other n offset
  pub before : (number : ℕ) → number < epoch v → (key : List ℕ) → value_at (Snap number) z key ≡ value_at (Snap number) v key
  pub in_place : (index : ℕ) (slot : Slot) → index < 2 ^ 64 → LiesNow file m index slot v → LiesNow file m index slot z
  pub stores : z.stores ≡ v.stores
  pub epoch_is : epoch z ≡ epoch v
  pub has : HasBlocks z
  pub stale : live_marks v file ≡ Some m → MarksStale v → MarksStale z

-- the live block at an index lies here
pub record LiesAt (file : ℕ) (m : Marks) (index : ℕ) (slot : Option Slot) (v : Versions) : Type 0 where
  pub has : HasBlocks v
  pub slot_is : block_slot v Live file m index ≡ slot

-- the live file has this block at an index now; all else stays
pub record SetsBlock (file : ℕ) (m : Marks) (index : ℕ) (block : List ℕ) (v z : Versions) : Type 0 where
  pub live : block_at z Live file m index ≡ block
  pub beside : (j : ℕ) → j < 2 ^ 64 → j ≢ index → block_at z Live file m j ≡ block_at v Live file m j
  pub keys : (key : List ℕ) → IsBeside file key → z.lives key ≡ v.lives key
  pub leaves : Leaves file m v z

-- a block in a slot that had none, and an extent that names it, with the file's stamp
pub record PlacesNew (file : ℕ) (m : Marks) (index : ℕ) (block : List ℕ) (v z : Versions) : Type 0 where
  pub at : Slot
  pub numbered : at.number < 2 ^ 64
  pub stamped : m.stamp < 2 ^ 64
  pub fresh : IsFresh file index at v
  pub is : z ≡ with_put (extent_key file index) (extent_value (record { number = at.number; stamp = m.stamp }))
      (with_block at (Some block) (with_block at (Some []) v))
