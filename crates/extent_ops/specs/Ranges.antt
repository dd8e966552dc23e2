-- Ranges of a file's bytes: an offset, and how many bytes (RFC 1813, sections 3.3.6 and 3.3.7).
use Rattle.std.specs.Prelude.{ℕ, ◌≡◌, ◌<◌, ◌+◌, ◌/◌, ◌%◌, ◌^◌, ◌==◌, if◌then◌else◌, List, slice_index}
use Rattle.pairs.specs.declared.at.At.{At}
use Rattle.pairs.specs.declared.at.At.TheVariants.{Live}
use Rattle.pairs.specs.Versions.{Versions}
use Rattle.fs_shows.specs.Extents.{Marks, block_size, byte_at}
use Rattle.fs_shows.specs.Shows.{KeepsBlocks}
use Rattle.extent_ops.specs.Blocks.{IsBeside, overlaid, Leaves}

-- so many bytes of a room are those of a file from an offset on
pub record ReadsBytes (at : At) (file : ℕ) (m : Marks) (offset count : ℕ) (room : List ℕ) (v : Versions) : Type 0 where
  pub bytes : KeepsBlocks v → (k : ℕ) → k < count → slice_index room k ≡ byte_at v at file m (offset + k)

-- So many bytes of a content stand in the live file from an offset on; all else stays, and so do all records but the file's
-- extents.
pub record Writes (file : ℕ) (m : Marks) (offset count : ℕ) (content : List ℕ) (v z : Versions) : Type 0 where
  pub live : (o : ℕ) → o < 2 ^ 64 → byte_at z Live file m o ≡ overlaid offset count content (byte_at v Live file m) o
  pub keys : (key : List ℕ) → IsBeside file key → z.lives key ≡ v.lives key
  pub leaves : Leaves file m v z

-- in how many blocks so many bytes lie, from an offset on
abbrev pub blocks_in : ℕ → ℕ → ℕ
blocks_in offset count = if count == 0 then 0 else (offset % block_size + count + 8191) / block_size
