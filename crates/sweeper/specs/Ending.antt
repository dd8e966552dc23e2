-- What becomes of a live extent that is looked at, and of the mark of a file that was walked through.
use Rattle.std.specs.Prelude.{ℕ, ◌≡◌, Bool, true, false, List, Some}
use Rattle.pairs.specs.Versions.{Versions, with_del}
use Rattle.fs_keys.specs.declared.key_parts.KeyParts.TheVariants.{Extent as ExtentKey, Stale as StaleKey}
use Rattle.fs_keys.specs.declared.rows.Extent.{Extent}
use Rattle.fs_keys.specs.Keys.{key_of}
use Rattle.fs_keys.specs.Values.{extent_in}
use Rattle.fs_shows.specs.Extents.{Marks}
use Rattle.fs_shows.specs.Shows.{live_marks, counts_by}
use Rattle.std.specs.Prelude.{Option}

-- the value is that of an extent that does not count
pub record IsStale (m : Option Marks) (index : ℕ) (value : List ℕ) : Type 0 where
  pub extent : Extent
  pub said : extent_in value ≡ Some extent
  pub out : counts_by m index extent ≡ false

-- or of one that counts, if of any
abbrev pub Counts : Option Marks → ℕ → List ℕ → Type 0
Counts m index value = (x : Extent) → extent_in value ≡ Some x → counts_by m index x ≡ true

abbrev pub StaleOr : Bool → Option Marks → ℕ → List ℕ → Type 0
StaleOr true m index value = IsStale m index value
StaleOr false m index value = Counts m index value

-- it was ended where it does not count, and stays where it does
abbrev pub EndsOr : ℕ → ℕ → List ℕ → Bool → Versions → Versions → Type 0
EndsOr file index value true v z = (z ≡ with_del (key_of (ExtentKey file index)) v) × IsStale (live_marks v file) index value
EndsOr file index value false v z = (z ≡ v) × Counts (live_marks v file) index value

-- the mark of a file is taken away, or left
abbrev pub unmarked : Bool → ℕ → Versions → Versions
unmarked true file v = with_del (key_of (StaleKey file)) v
unmarked false file v = v
