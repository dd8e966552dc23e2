-- The entries of the directory `.snapshot`, as they follow one another.
use Rattle.std.specs.Prelude.{ℕ, ◌≡◌, ◌<◌, ◌≤◌, ◌+◌, ◌^◌, ◌⊎◌, List, length, Option, Some, None, option_and_then}
use Rattle.pair_types.specs.declared.fault.PairFault.{PairFault}
use Rattle.pair_types.specs.declared.fault.PairFault.TheVariants.{Odd, HeightFull, Page}
use Rattle.pair_types.specs.PageState.{no_memory}
use Rattle.fs_rules.specs.declared.name_entry.NameEntry.{NameEntry}
use Rattle.fs_keys.specs.declared.key_parts.KeyParts.TheVariants.{First, Lane, Snapshot, Inode, Name, Cookie, Extent, Stale}
use Rattle.fs_keys.specs.declared.key_parts.KeyParts.TheVariants.{Times}
use Rattle.fs_keys.specs.Keys.{Parts, key_of, parts_of}

-- the number of a key that is a snapshot's
abbrev pub number_of : Parts → Option ℕ
number_of First = None
number_of (Lane lane) = None
number_of (Snapshot number) = Some number
number_of (Inode id) = None
number_of (Name directory name) = None
number_of (Cookie directory cookie) = None
number_of (Extent file index) = None
number_of (Stale file) = None
number_of Times = None

abbrev pub number_at : List ℕ → Option ℕ
number_at key = option_and_then number_of (parts_of key)

-- the entry of a snapshot
abbrev pub entry_by : ℕ → List ℕ → NameEntry
entry_by number name = record { cookie = number + 2; name = name; fileid = number }

-- what a record that follows says: a snapshot's entry, or that it is none of a snapshot
abbrev pub SaysNext : List ℕ → List ℕ → Option NameEntry → Type 0
SaysNext key value None = number_at key ≡ None
SaysNext key value (Some e) = (key ≡ key_of (Snapshot e.fileid)) × (e.fileid < 2 ^ 64) × (e ≡ entry_by e.fileid value)

-- a record of a snapshot whose number or name is beyond those that snapshots have
pub record IsBeyond (key value : List ℕ) : Type 0 where
  pub number : ℕ
  pub fits : number < 2 ^ 64
  pub own : key ≡ key_of (Snapshot number)
  pub beyond : (2 ^ 64 ≤ number + 2) ⊎ (255 < length value)

-- why such a record says nothing
abbrev pub NextFault : List ℕ → List ℕ → PairFault → Type 0
NextFault key value Odd = IsBeyond key value
NextFault key value HeightFull = ⊥
NextFault key value (Page fault) = fault ≡ no_memory
