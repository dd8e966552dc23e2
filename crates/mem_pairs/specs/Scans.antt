-- What scans of a list of records find, by a test of the lives that they tell, and what edits of the list do to the
-- lives of a key. Records are found by their place in the list, in any order of keys.
use Rattle.std.specs.Prelude.{ℕ, ◌≡◌, ◌+◌, Bool, true, ◌&&◌, List, take, Option, Some, None}
use Rattle.std.specs.List.{find, slice_get, slice_set}
use Rattle.std.specs.Ordering.{nat_cmp, is_lt, is_le}
use Rattle.std.specs.Cmp.Lexicographic.{slice_cmp}
use Rattle.pair_types.specs.declared.quad.Quad.{Quad}
use Rattle.pairs.specs.Lives.{Life, life_of, lives_of}
use Rattle.pairs.specs.Versions.{Versions, with_lives}
use Rattle.pairs.specs.Found.{IsBefore}

-- a key lies behind another one; it is another one, or lies behind it
abbrev pub is_behind : List ℕ → List ℕ → Bool
is_behind after key = is_lt (slice_cmp nat_cmp after key)

abbrev pub is_from : List ℕ → List ℕ → Bool
is_from from key = is_le (slice_cmp nat_cmp from key)

module _ (test : Life → Bool) where
  -- no record of a key passes
  abbrev pub NonePasses : List Quad → List ℕ → Type 0
  NonePasses rows key = find test (lives_of rows key) ≡ None

  -- the record at a place passes, as the first one of its key
  pub record IsFirst (rows : List Quad) (place : ℕ) (row : Quad) : Type 0 where
    pub here : slice_get rows place ≡ Some row
    pub passes : test (life_of row) ≡ true
    pub none : NonePasses (take place rows) row.key

  -- the first record of a key that passes lies at a place
  pub record IsFirstOf (key : List ℕ) (rows : List Quad) (place : ℕ) : Type 0 where
    pub row : Quad
    pub first : IsFirst rows place row
    pub same : row.key ≡ key

  -- where that is, if there is one
  abbrev pub FirstOf : List ℕ → List Quad → Option ℕ → Type 0
  FirstOf key rows None = NonePasses rows key
  FirstOf key rows (Some place) = IsFirstOf key rows place

  module _ (among : List ℕ → Bool) where
    -- at a place lies the first record that passes of the least of these keys that have one
    pub record IsLeast (rows : List Quad) (place : ℕ) : Type 0 where
      pub row : Quad
      pub first : IsFirst rows place row
      pub within : among row.key ≡ true
      pub least : (k : List ℕ) → among k ≡ true → IsBefore k row.key → NonePasses rows k

    -- where that is, if there is one
    abbrev pub Least : List Quad → Option ℕ → Type 0
    Least rows None = (k : List ℕ) → among k ≡ true → NonePasses rows k
    Least rows (Some place) = IsLeast rows place

-- whether a record has a lesser key than another one, which there may not be
abbrev pub IsLess : List Quad → ℕ → Option ℕ → Bool → Type 0
IsLess rows i None is = is ≡ true
IsLess rows i (Some j) is =
    (row other : Quad) → slice_get rows i ≡ Some row → slice_get rows j ≡ Some other → is ≡ is_behind row.key other.key

-- From the least among the first i records to that among the first i + 1: whatever the test and the keys are, if the
-- answer is right that record i has such a key and passes.
abbrev pub Steps : List Quad → ℕ → Bool → Option ℕ → Option ℕ → Type 0
Steps rows i passes best next =
    (test : Life → Bool) (among : List ℕ → Bool) (row : Quad) → slice_get rows i ≡ Some row
    → passes ≡ (among row.key && test (life_of row))
    → Least test among (take i rows) best → Least test among (take (i + 1) rows) next

-- this much is so of all versions that have the lives of these records
abbrev pub Tell : List Quad → (Versions → Type 0) → Type 0
Tell rows IsSo = (v : Versions) → v.lives ≡ lives_of rows → IsSo v

-- the record at a place is changed
abbrev pub Changes : ℕ → (Quad → Quad) → List Quad → List Quad → Type 0
Changes place change old new = (row : Quad) → slice_get old place ≡ Some row → new ≡ slice_set old place (change row)

-- the lives of one key are edited, and those of the others stay
abbrev pub Edits : List ℕ → (List Life → List Life) → List Quad → List Quad → Type 0
Edits key edit old new = lives_of new ≡ with_lives key (edit (lives_of old key)) (lives_of old)
