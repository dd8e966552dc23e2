-- What extents and blocks show as the bytes of a file.
use Rattle.std.specs.Prelude.{ℕ, ◌≡◌, ◌≤◌, ◌<◌, ◌+◌, ◌/◌, ◌%◌, ◌^◌, ◌==◌, nat_lt, Bool, false, ◌||◌, if◌then◌else◌, List, []}
use Rattle.std.specs.Prelude.{slice_index_or, Option, Some, None, option_map, option_and_then, unwrap_or}
use Rattle.pair_types.specs.declared.slot.Slot.{Slot}
use Rattle.pairs.specs.declared.at.At.{At}
use Rattle.pairs.specs.Versions.{Versions, value_at}
use Rattle.fs_keys.specs.declared.key_parts.KeyParts.TheVariants.{Extent as ExtentKey}
use Rattle.fs_keys.specs.declared.rows.Extent.{Extent}
use Rattle.fs_keys.specs.Keys.{Parts, key_of}
use Rattle.fs_keys.specs.Values.{extent_in}

-- What of an inode decides which extents count: how often the file was cut, and the index below which older ones count too.
pub record Marks : Type 0 where
  pub stamp : ℕ
  pub floor : ℕ

abbrev pub counts : Marks → ℕ → Extent → Bool
counts m index x = nat_lt index m.floor || (x.stamp == m.stamp)

abbrev pub counted : Marks → ℕ → Option Extent → Option Extent
counted m index None = None
counted m index (Some x) = if counts m index x then Some x else None

-- where the block lies that an extent names: the blocks of a file go round the stores
abbrev pub slot_of : ℕ → ℕ → ℕ → Extent → Slot
slot_of stores file index x = record { store = (file + index) % stores; number = x.number }

-- a file and an index fit their places in a key: beyond, a number is spelled as another one
pub record IsPlace (file index : ℕ) : Type 0 where
  pub file_fits : file < 2 ^ 64
  pub index_fits : index < 2 ^ 64

-- what a view has at the key of these parts
abbrev pub row : Versions → At → Parts → Option (List ℕ)
row v at parts = value_at at v (key_of parts)

-- the bytes of a block
abbrev pub block_size : ℕ
block_size = 8192

module _ (v : Versions) (at : At) (file : ℕ) where
  -- the extent at an index of the file
  abbrev pub extent_at : ℕ → Option Extent
  extent_at index = option_and_then extent_in (row v at (ExtentKey file index))

  module _ (m : Marks) where
    -- where the block lies that counts at an index
    unfoldable pub block_slot : ℕ → Option Slot
    block_slot index = option_map (slot_of v.stores file index) (counted m index (extent_at index))

    -- its bytes: none where there is none
    abbrev pub block_at : ℕ → List ℕ
    block_at index = unwrap_or (option_and_then v.blocks (block_slot index)) []

    -- the byte at an offset: behind a block's bytes, and where there is no block, are zeros
    unfoldable pub byte_at : ℕ → ℕ
    byte_at offset = slice_index_or (block_at (offset / block_size)) (offset % block_size) 0

    -- the file has this content, and zeros behind it
    pub record ShowsContent (content : List ℕ) : Type 0 where
      pub bytes : (offset : ℕ) → offset < 2 ^ 64 → slice_index_or content offset 0 ≡ byte_at offset
