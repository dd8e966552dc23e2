-- The entries of a directory, as they follow one another.
use Rattle.std.specs.Prelude.{ℕ, ◌≡◌, ◌≤◌, nat_lt, find, List, Option, Some, None, if◌then◌else◌, ◌==◌, ◌<◌, ◌^◌, option_and_then}
use Rattle.pairs.specs.declared.at.At.{At}
use Rattle.pair_types.specs.declared.fault.PairFault.{PairFault}
use Rattle.pair_types.specs.declared.fault.PairFault.TheVariants.{Odd, HeightFull, Page}
use Rattle.pair_types.specs.PageState.{no_memory}
use Rattle.fs_rules.specs.declared.name_entry.NameEntry.{NameEntry}
use Rattle.fs_rules.specs.Places.{names_at}
use Rattle.fs_rules.specs.Sound.{Rise}
use Rattle.fs_rules.specs.Tree.{Tree}
use Rattle.fs_keys.specs.declared.key_parts.KeyParts.TheVariants.{First, Lane, Snapshot, Inode, Name, Cookie, Extent, Stale}
use Rattle.fs_keys.specs.declared.key_parts.KeyParts.TheVariants.{Times}
use Rattle.fs_keys.specs.Keys.{Parts, key_of, parts_of}
use Rattle.fs_keys.specs.Values.{cookie_in}
use Rattle.fs_shows.specs.Nodes.{cookie_row}
use Rattle.fs_shows.specs.Views.{place_in, IsKept}

-- the first entry whose cookie is greater
abbrev pub next_entry : ℕ → List NameEntry → Option NameEntry
next_entry cookie names = find (λ e. nat_lt cookie e.cookie) names

-- the view is kept, and the cookies of the directory's names rise there, below 2 ^ 64
pub record IsListed (at : At) (directory : ℕ) (t : Tree) : Type 0 where
  pub kept : IsKept at t
  pub next : ℕ
  pub rises : Rise 3 next (names_at t (place_in at directory))
  pub most : next ≤ 2 ^ 64

-- the cookie of a key that is one of this directory's cookies
abbrev pub cookie_of : ℕ → Parts → Option ℕ
cookie_of directory First = None
cookie_of directory (Lane lane) = None
cookie_of directory (Snapshot number) = None
cookie_of directory (Inode id) = None
cookie_of directory (Name other name) = None
cookie_of directory (Cookie other cookie) = if other == directory then Some cookie else None
cookie_of directory (Extent file index) = None
cookie_of directory (Stale file) = None
cookie_of directory Times = None

abbrev pub cookie_at : ℕ → List ℕ → Option ℕ
cookie_at directory key = option_and_then (cookie_of directory) (parts_of key)

-- what a record that follows says of the directory: an entry, or that it is none of the directory's
abbrev pub SaysNext : ℕ → List ℕ → List ℕ → Option NameEntry → Type 0
SaysNext directory key value None = cookie_at directory key ≡ None
SaysNext directory key value (Some e) =
    (key ≡ key_of (Cookie directory e.cookie)) × (e.cookie < 2 ^ 64) × (cookie_in value ≡ Some (cookie_row e))

-- a value of the directory that says nothing
pub record Unsaid (directory : ℕ) (key value : List ℕ) : Type 0 where
  pub cookie : ℕ
  pub fits : cookie < 2 ^ 64
  pub own : key ≡ key_of (Cookie directory cookie)
  pub nothing : cookie_in value ≡ None

-- why such a record says nothing
abbrev pub NextFault : ℕ → List ℕ → List ℕ → PairFault → Type 0
NextFault directory key value Odd = Unsaid directory key value
NextFault directory key value HeightFull = ⊥
NextFault directory key value (Page fault) = fault ≡ no_memory
