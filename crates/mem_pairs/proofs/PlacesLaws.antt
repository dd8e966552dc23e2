-- A list of records, seen from a place in it.
use Rattle.std.proofs.Common.{◌≡◌, ℕ, zero, suc, ◌+◌, ◌<◌, Bool, true, false, if◌then◌else◌, List, [], ◌∷◌, ◌++◌}
use Rattle.std.proofs.Common.{take, drop, length}
use Rattle.std.proofs.Common.{Some, None, refl, sym, ◌∙◌, ap, subst, arith}
use Rattle.std.proofs.lemmas.List.{take_more, take-take, length-take}
use Rattle.std.proofs.lemmas.Option.{slice_get_within, get_or_from_slice_get}
use Rattle.std.specs.List.{find, slice_get}
use Rattle.std.specs.Str.{bytes_eq}
use Rattle.pair_types.specs.declared.quad.Quad.{Quad}
use Rattle.pairs.specs.Lives.{Life, life_of, lives_of}
use Rattle.pairs.proofs.RecordsLaws.{find-behind, lives_of-append, lives_of-split}
use Rattle.mem_pairs.specs.Scans.{NonePasses, IsFirst}

-- ---- lists of anything

pub split_at : (xs : List Quad) (i : ℕ) (x : Quad) → slice_get xs i ≡ Some x → xs ≡ take i xs ++ (x ∷ drop (suc i) xs)
split_at [] i x is = cc
split_at (y ∷ xs) zero x is = let same : y ≡ x = cc in ap (λ (z : Quad). z ∷ xs) same
split_at (y ∷ xs) (suc i) x is = ap (λ (zs : List Quad). y ∷ zs) (split_at xs i x is)

pub take_one_more : (xs : List Quad) (i : ℕ) (x : Quad) → slice_get xs i ≡ Some x
    → take (i + 1) xs ≡ take i xs ++ (x ∷ [])
take_one_more xs i x is =
    take_more xs i x (slice_get_within xs i x is) ∙ ap (λ (y : Quad). take i xs ++ (y ∷ []))
    (get_or_from_slice_get xs i x x is)

-- what stands at a place of the first ones stands there
pub get-take : (xs : List Quad) (i j : ℕ) (x : Quad) → slice_get (take i xs) j ≡ Some x → slice_get xs j ≡ Some x
get-take xs zero j x is = cc
get-take [] (suc i) j x is = cc
get-take (y ∷ xs) (suc i) zero x is = is
get-take (y ∷ xs) (suc i) (suc j) x is = get-take xs i j x is

get-take_suc : (xs : List Quad) (i j : ℕ) (x : Quad) → slice_get (take i xs) j ≡ Some x
    → slice_get (take (suc i) xs) j ≡ Some x
get-take_suc xs zero j x is = cc
get-take_suc [] (suc i) j x is = cc
get-take_suc (y ∷ xs) (suc i) zero x is = is
get-take_suc (y ∷ xs) (suc i) (suc j) x is = get-take_suc xs i j x is

get-take_last_suc : (xs : List Quad) (i : ℕ) (x : Quad) → slice_get xs i ≡ Some x
    → slice_get (take (suc i) xs) i ≡ Some x
get-take_last_suc [] i x is = cc
get-take_last_suc (y ∷ xs) zero x is = is
get-take_last_suc (y ∷ xs) (suc i) x is = get-take_last_suc xs i x is

one_more : (i : ℕ) → suc i ≡ i + 1
one_more i = omega arith

get-take_more : (xs : List Quad) (i j : ℕ) (x : Quad) → slice_get (take i xs) j ≡ Some x
    → slice_get (take (i + 1) xs) j ≡ Some x
get-take_more xs i j x is = subst (λ (n : ℕ). slice_get (take n xs) j ≡ Some x) (one_more i) (get-take_suc xs i j x is)

get-take_last : (xs : List Quad) (i : ℕ) (x : Quad) → slice_get xs i ≡ Some x → slice_get (take (i + 1) xs) i ≡ Some x
get-take_last xs i x is = subst (λ (n : ℕ). slice_get (take n xs) i ≡ Some x) (one_more i) (get-take_last_suc xs i x is)

below_take : (xs : List Quad) (i j : ℕ) (x : Quad) → slice_get (take i xs) j ≡ Some x → j < i
below_take xs i j x is =
    let within : j < length (take i xs) = slice_get_within (take i xs) j x is in
    omega (arith, length-take i xs)

-- ---- one record more

lives_more : (rows : List Quad) (i : ℕ) (row : Quad) (k : List ℕ) → slice_get rows i ≡ Some row
    → lives_of (take (i + 1) rows) k ≡ lives_of (take i rows) k ++ lives_of (row ∷ []) k
lives_more rows i row k here =
    ap (λ (qs : List Quad). lives_of qs k) (take_one_more rows i row here) ∙ lives_of-append (take i rows) (row ∷ []) k

-- one record alone
none_alone : (test : Life → Bool) (row : Quad) (k : List ℕ) → (bytes_eq row.key k ≡ true → test (life_of row) ≡ false)
    → find test (lives_of (row ∷ []) k) ≡ None
none_alone test row k fails = by_key (bytes_eq row.key k) refl
  where
    by_test : test (life_of row) ≡ false → find test (life_of row ∷ []) ≡ None
    by_test is = rw is refl

    by_key : (t : Bool) → bytes_eq row.key k ≡ t → find test (if t then life_of row ∷ [] else []) ≡ None
    by_key true is = by_test (fails is)
    by_key false is = refl

pub none_more : (test : Life → Bool) (rows : List Quad) (i : ℕ) (row : Quad) (k : List ℕ) → slice_get rows i ≡ Some row
    → NonePasses test (take i rows) k → (bytes_eq row.key k ≡ true → test (life_of row) ≡ false)
    → NonePasses test (take (i + 1) rows) k
none_more test rows i row k here none fails =
    ap (find test) (lives_more rows i row k here)
    ∙ (find-behind test (lives_of (take i rows) k) (lives_of (row ∷ []) k) none ∙ none_alone test row k fails)

-- ---- the first of its key

-- it stays so where one record more is seen
pub first_more : (test : Life → Bool) (rows : List Quad) (i j : ℕ) (row : Quad) → IsFirst test (take i rows) j row
    → IsFirst test (take (i + 1) rows) j row
first_more test rows i j row first =
    let below : j < i = below_take rows i j row first.here in
    let same : take j (take i rows) ≡ take j (take (i + 1) rows) = take-take j i rows (omega arith)
    ∙ sym (take-take j (i + 1) rows (omega arith)) in
    record {
      here = get-take_more rows i j row first.here;
      passes = first.passes;
      none = subst (λ (qs : List Quad). NonePasses test qs row.key) same first.none;
    }

-- a record that passes, behind none of its key that does
pub first_last : (test : Life → Bool) (rows : List Quad) (i : ℕ) (row : Quad) → slice_get rows i ≡ Some row
    → test (life_of row) ≡ true → NonePasses test (take i rows) row.key → IsFirst test (take (i + 1) rows) i row
first_last test rows i row here passes none = record {
  here = get-take_last rows i row here;
  passes = passes;
  none = subst (λ (qs : List Quad). NonePasses test qs row.key) (sym (take-take i (i + 1) rows (omega arith))) none;
}

-- its life is the first of its key that passes
pub found_first : (test : Life → Bool) (rows : List Quad) (place : ℕ) (row : Quad) → IsFirst test rows place row
    → find test (lives_of rows row.key) ≡ Some (life_of row)
found_first test rows place row first =
    ap (λ (qs : List Quad). find test (lives_of qs row.key)) (split_at rows place row first.here)
    ∙ (ap (find test) (lives_of-split (take place rows) row (drop (suc place) rows) row.key refl)
    ∙ (find-behind test (lives_of (take place rows) row.key)
    (life_of row ∷ lives_of (drop (suc place) rows) row.key) first.none
    ∙ at_head first.passes))
  where
    at_head : test (life_of row) ≡ true → find test (life_of row ∷ lives_of (drop (suc place) rows) row.key) ≡ Some
        (life_of row)
    at_head is = rw is refl
