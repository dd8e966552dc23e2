-- Files that are cut to a size (RFC 1813, section 3.3.2: the bytes behind the new size are gone, and zeros where it grows again).
use Rattle.std.specs.Prelude.{ℕ, ◌≡◌, ◌≢◌, ◌⊎◌, ◌<◌, ◌≤◌, ◌+◌, ◌/◌, ◌^◌, nat_lt, if◌then◌else◌, Bool, true, false, List}
use Rattle.std.specs.Prelude.{None, Some}
use Rattle.pairs.specs.declared.at.At.TheVariants.{Live}
use Rattle.pairs.specs.Versions.{Versions}
use Rattle.pairs.specs.Told.{PairsTold, Tells}
use Rattle.fs_keys.specs.declared.key_parts.KeyParts.TheVariants.{Stale as StaleKey}
use Rattle.fs_keys.specs.Keys.{key_of}
use Rattle.fs_shows.specs.Extents.{Marks, row, block_size, byte_at}
use Rattle.fs_shows.specs.Shows.{live_marks, MarksStale}
use Rattle.extent_ops.specs.Steps.{HasBlocks, Makes}
use Rattle.extent_ops.specs.Blocks.{IsBeside, Leaves}

-- how many blocks have bytes below a size
abbrev pub floor_of : ℕ → ℕ
floor_of size = (size + 8191) / block_size

-- the marks of a file that was cut to a size
abbrev pub cut_marks : ℕ → Marks → Marks
cut_marks size m = record { stamp = m.stamp + 1; floor = floor_of size }

-- the byte at an offset, where zeros stand from a size on
abbrev pub trimmed : ℕ → (ℕ → ℕ) → ℕ → ℕ
trimmed size bytes o = if nat_lt o size then bytes o else 0

abbrev pub stale_key : ℕ → List ℕ
stale_key file = key_of (StaleKey file)

-- Whether a sweep of the file is to come first: the cut would raise its floor, and extents may be left that do not count.
abbrev pub Sweeps : ℕ → Marks → ℕ → Bool → Versions → Type 0
Sweeps file m size true v = (m.floor < floor_of size) × (row v Live (StaleKey file) ≢ None)
Sweeps file m size false v = (floor_of size ≤ m.floor) ⊎ (row v Live (StaleKey file) ≡ None)

-- zeros stand in the last block below the new floor from the size on; all else stays
pub record Trims (file : ℕ) (m : Marks) (size : ℕ) (v z : Versions) : Type 0 where
  pub live : (o : ℕ) → o < 2 ^ 64 → o / block_size < floor_of size
      → byte_at z Live file m o ≡ trimmed size (byte_at v Live file m) o
  pub keys : (key : List ℕ) → IsBeside file key → z.lives key ≡ v.lives key
  pub leaves : Leaves file m v z

-- The file's marks behind the cut show what stood below the size, and zeros behind it, at every offset; and the file is marked as
-- one that may have stale extents. All else stays, and so do all records but these.
pub record Cuts (file : ℕ) (m : Marks) (size : ℕ) (v z : Versions) : Type 0 where
  pub live : live_marks v file ≡ Some m → MarksStale v → (o : ℕ) → o < 2 ^ 64
      → byte_at z Live file (cut_marks size m) o ≡ trimmed size (byte_at v Live file m) o
  pub marked : row z Live (StaleKey file) ≢ None
  pub keys : (key : List ℕ) → IsBeside file key → key ≢ stale_key file → z.lives key ≡ v.lives key
  pub leaves : Leaves file m v z

-- a cut that was made, or one that waits for a sweep
abbrev pub CutsOrWaits : {S W : Type 0} → PairsTold S W → S → S → ℕ → Marks → ℕ → Bool → Type 0
CutsOrWaits told old new file m size true = Makes told old new HasBlocks (Cuts file m size)
CutsOrWaits told old new file m size false = Tells told old new (Sweeps file m size true)
