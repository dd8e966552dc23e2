-- Rows of keys with a common front, a number behind it and nothing more; and which of them follows a number.
use Rattle.std.specs.Prelude.{ℕ, ◌≡◌, ◌≢◌, ◌<◌, ◌^◌, List, [], ◌∷◌, ◌++◌, length, Option, Some, None}
use Rattle.byteorder.specs.Endian.{big_bytes}
use Rattle.pairs.specs.declared.at.At.TheVariants.{Live}
use Rattle.pairs.specs.Found.{IsBefore}
use Rattle.pairs.specs.Versions.{Versions, value_at}

-- ---- the fronts

-- of the numbers of snapshots
abbrev pub snapshot_front : List ℕ
snapshot_front = 3 ∷ []

-- of the indices of a file's extents
abbrev pub extent_front : ℕ → List ℕ
extent_front file = 7 ∷ big_bytes 8 file

-- of the files that are marked as those that may have stale extents
abbrev pub mark_front : List ℕ
mark_front = 8 ∷ []

-- ---- their numbers

abbrev pub numbered : List ℕ → ℕ → List ℕ
numbered front n = front ++ big_bytes 8 n

abbrev pub tail : Option ℕ → List ℕ
tail None = []
tail (Some n) = big_bytes 8 n

-- the key behind which those lie that come after a number, or all
abbrev pub behind : List ℕ → Option ℕ → List ℕ
behind front after = front ++ tail after

-- a number lies behind that place
abbrev pub IsAfter : List ℕ → Option ℕ → ℕ → Type 0
IsAfter front after n = IsBefore (behind front after) (numbered front n)

-- one number's key lies before another's
abbrev pub IsSooner : List ℕ → ℕ → ℕ → Type 0
IsSooner front n k = IsBefore (numbered front n) (numbered front k)

-- what the live view has at a number
abbrev pub value_in : List ℕ → ℕ → Versions → Option (List ℕ)
value_in front n v = value_at Live v (numbered front n)

-- all records of this front have such keys
pub record HasNumbers (front : List ℕ) (v : Versions) : Type 0 where
  pub only : (rest : List ℕ) → length rest ≢ 8 → v.lives (front ++ rest) ≡ []

-- the first number behind a place that the live view has, with its value
pub record IsNextIn (front : List ℕ) (after : Option ℕ) (n : ℕ) (value : List ℕ) (v : Versions) : Type 0 where
  pub fits : n < 2 ^ 64
  pub later : IsAfter front after n
  pub has : value_in front n v ≡ Some value
  pub first : (k : ℕ) → k < 2 ^ 64 → IsAfter front after k → IsSooner front k n → value_in front k v ≡ None

abbrev pub NextIn : List ℕ → Option ℕ → Option (ℕ × List ℕ) → Versions → Type 0
NextIn front after None v = (k : ℕ) → k < 2 ^ 64 → IsAfter front after k → value_in front k v ≡ None
NextIn front after (Some (n, value)) v = IsNextIn front after n value v
