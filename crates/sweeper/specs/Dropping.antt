-- The block that a purged record names.
use Rattle.std.specs.Prelude.{ℕ, List, Option, Some, None, IfSome, option_map, option_and_then}
use Rattle.pair_types.specs.declared.slot.Slot.{Slot}
use Rattle.pairs.specs.Versions.{Versions, IsBlock, with_block}
use Rattle.fs_keys.specs.declared.key_parts.KeyParts.TheVariants.{First, Lane, Snapshot, Inode, Name, Cookie, Extent, Stale}
use Rattle.fs_keys.specs.declared.key_parts.KeyParts.TheVariants.{Times}
use Rattle.fs_keys.specs.Keys.{Parts, parts_of}
use Rattle.fs_keys.specs.Values.{extent_in}
use Rattle.fs_shows.specs.Extents.{slot_of}

-- where the block lies that a record of these parts names, if it is an extent's
abbrev pub slot_in : ℕ → List ℕ → Parts → Option Slot
slot_in stores value First = None
slot_in stores value (Lane lane) = None
slot_in stores value (Snapshot number) = None
slot_in stores value (Inode id) = None
slot_in stores value (Name directory name) = None
slot_in stores value (Cookie directory cookie) = None
slot_in stores value (Extent file index) = option_map (slot_of stores file index) (extent_in value)
slot_in stores value (Stale file) = None
slot_in stores value Times = None

abbrev pub slot_named : ℕ → List ℕ → List ℕ → Option Slot
slot_named stores key value = option_and_then (slot_in stores value) (parts_of key)

-- the slot holds no block
abbrev pub without : Option Slot → Versions → Versions
without None v = v
without (Some s) v = with_block s None v

-- the block is there that a record names
abbrev pub NamesThere : List ℕ → List ℕ → Versions → Type 0
NamesThere key value v = IfSome (slot_named v.stores key value) (λ s. IsBlock s v)

abbrev pub without_named : List ℕ → List ℕ → Versions → Versions
without_named key value v = without (slot_named v.stores key value) v
