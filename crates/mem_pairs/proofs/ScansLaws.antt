-- The steps of scans.
use Rattle.std.proofs.Common.{◌≡◌, ◌≢◌, ℕ, ◌+◌, ◌<◌, ◌≤◌, Bool, true, false, ◌&&◌, List, take, length, Option, Some}
use Rattle.std.proofs.Common.{None, IfSome}
use Rattle.std.proofs.Common.{refl, sym, ◌∙◌, ap, subst}
use Rattle.std.proofs.lemmas.Cmp.{nat_list_cmp_total, tied_itself}
use Rattle.std.proofs.lemmas.List.{take_all}
use Rattle.std.proofs.lemmas.Option.{slice_get_within}
use Rattle.std.specs.Cmp.Lexicographic.{slice_cmp}
use Rattle.std.specs.declared.cmp.Ordering.{Ordering}
use Rattle.std.specs.declared.cmp.Ordering.TheVariants.{Less, Equal, Greater}
use Rattle.std.specs.List.{slice_get}
use Rattle.std.specs.Ordering.{nat_cmp, is_lt, is_le}
use Rattle.std.specs.Str.{bytes_eq}
use Rattle.pair_types.specs.declared.quad.Quad.{Quad}
use Rattle.pairs.specs.Found.{IsBefore, IsFrom}
use Rattle.pairs.specs.Lives.{Life, life_of}
use Rattle.pairs.proofs.VersionsLaws.{same-is}
use Rattle.mem_pairs.specs.Scans.{NonePasses, IsFirstOf, Least, IsLess, Steps, is_behind, is_from}
use Rattle.mem_pairs.proofs.PlacesLaws.{get-take, none_more, first_more, first_last}

-- ---- tests

and_both : (a b : Bool) → true ≡ (a && b) → (a ≡ true) × (b ≡ true)
and_both true b is = (refl, sym is)
and_both false b is = cc

and_right : (a b : Bool) → a ≡ true → false ≡ (a && b) → b ≡ false
and_right true b a is = sym is
and_right false b a is = cc

lt_less : (o : Ordering) → is_lt o ≡ true → o ≡ Less
lt_less Less is = refl
lt_less Equal is = cc
lt_less Greater is = cc

le_some : (o : Ordering) → o ≢ Greater → is_le o ≡ true
le_some Less isnt = refl
le_some Equal isnt = refl
le_some Greater isnt = absurd (isnt refl)

le_from : (o : Ordering) → is_le o ≡ true → o ≢ Greater
le_from o is greater = absurd (differs (ap is_le greater))
  where
    differs : is_le o ≡ false → ⊥
    differs isnt = cc

pub before_behind : (a b : List ℕ) → is_behind a b ≡ true → IsBefore a b
before_behind a b is = lt_less (slice_cmp nat_cmp a b) is

pub from_is : (a b : List ℕ) → is_from a b ≡ true → IsFrom a b
from_is a b is = le_from (slice_cmp nat_cmp a b) is

pub is_from-is : (a b : List ℕ) → IsFrom a b → is_from a b ≡ true
is_from-is a b from = le_some (slice_cmp nat_cmp a b) from

-- a key is not before itself
apart_before : (k key : List ℕ) → IsBefore k key → bytes_eq key k ≡ true → ⊥
apart_before k key before same =
    let is : key ≡ k = same-is key k same in
    let itself : slice_cmp nat_cmp k k ≡ Equal = tied_itself nat_list_cmp_total k in
    let less : slice_cmp nat_cmp k k ≡ Less = subst (λ (j : List ℕ). slice_cmp nat_cmp k j ≡ Less) is before in
    cc

-- ---- the least so far

module _ (rows : List Quad) (i : ℕ) where
  -- the next record is no such one
  pub skips : (best : Option ℕ) → Steps rows i false best best
  skips None test among row here passes least =
      λ k within. none_more test rows i row k here (least k within) (fails k within)
    where
      fails : (k : List ℕ) → among k ≡ true → bytes_eq row.key k ≡ true → test (life_of row) ≡ false
      fails k within same =
          and_right (among row.key) (test (life_of row))
          (subst (λ (j : List ℕ). among j ≡ true) (sym (same-is row.key k same)) within) passes
  skips (Some j) test among row here passes least = record {
    row = least.row;
    first = first_more test rows i j least.row least.first;
    within = least.within;
    least = λ k within before. none_more test rows i row k here (least.least k within before) (fails k within);
  }
    where
      fails : (k : List ℕ) → among k ≡ true → bytes_eq row.key k ≡ true → test (life_of row) ≡ false
      fails k within same =
          and_right (among row.key) (test (life_of row))
          (subst (λ (j : List ℕ). among j ≡ true) (sym (same-is row.key k same)) within) passes

  -- it is such a one, but its key is no lesser one
  pub keeps : (best : Option ℕ) → IsLess rows i best false → Steps rows i true best best
  keeps None less test among row here passes least = cc
  keeps (Some j) less test among row here passes least = record {
    row = least.row;
    first = first_more test rows i j least.row least.first;
    within = least.within;
    least =
        λ k within before. none_more test rows i row k here (least.least k within before)
        (λ same. absurd (never_same k before same));
  }
    where
      never_same : (k : List ℕ) → IsBefore k least.row.key → bytes_eq row.key k ≡ true → ⊥
      never_same k before same =
          let isnt : false ≡ is_behind row.key least.row.key = less row least.row here
          (get-take rows i j least.row least.first.here) in
          let is : is_lt (slice_cmp nat_cmp row.key least.row.key) ≡ true =
          ap is_lt (subst (λ (q : List ℕ). slice_cmp nat_cmp q least.row.key ≡ Less)
          (sym (same-is row.key k same)) before) in
          cc

  -- it is such a one, and its key is the least
  pub takes : (best : Option ℕ) → IsLess rows i best true → Steps rows i true best (Some i)
  takes None less test among row here passes least = record {
    row = row;
    first =
        first_last test rows i row here (and_both (among row.key) (test (life_of row)) passes).1
        (least row.key within_row);
    within = within_row;
    least =
        λ k within before. none_more test rows i row k here (least k within)
        (λ same. absurd (apart_before k row.key before same));
  }
    where
      within_row : among row.key ≡ true
      within_row = (and_both (among row.key) (test (life_of row)) passes).0
  takes (Some j) less test among row here passes least = record {
    row = row;
    first =
        first_last test rows i row here (and_both (among row.key) (test (life_of row)) passes).1
        (least.least row.key within_row lesser);
    within = within_row;
    least = λ k within before.
        none_more test rows i row k here (least.least k
        within (nat_list_cmp_total.trans k row.key least.row.key before lesser))
        (λ same. absurd (apart_before k row.key before same));
  }
    where
      within_row : among row.key ≡ true
      within_row = (and_both (among row.key) (test (life_of row)) passes).0

      lesser : IsBefore row.key least.row.key
      lesser =
          before_behind row.key least.row.key (sym (less row least.row here
          (get-take rows i j least.row least.first.here)))

pub takes_so : (rows : List Quad) (i : ℕ) (passes : Bool) (best : Option ℕ) (less : Bool) → passes ≡ true → less ≡ true
    → IsLess rows i best less → Steps rows i passes best (Some i)
takes_so rows i passes best less does is lesser =
    subst (λ (p : Bool). Steps rows i p best (Some i)) (sym does)
    (takes rows i best (subst (IsLess rows i best) is lesser))

pub keeps_so : (rows : List Quad) (i : ℕ) (passes : Bool) (best : Option ℕ) (less : Bool) → passes ≡ true → less ≡ false
    → IsLess rows i best less → Steps rows i passes best best
keeps_so rows i passes best less does isnt lesser =
    subst (λ (p : Bool). Steps rows i p best best) (sym does)
    (keeps rows i best (subst (IsLess rows i best) isnt lesser))

pub skips_so : (rows : List Quad) (i : ℕ) (passes : Bool) (best : Option ℕ) → passes ≡ false
    → Steps rows i passes best best
skips_so rows i passes best doesnt = subst (λ (p : Bool). Steps rows i p best best) (sym doesnt) (skips rows i best)

-- the place so far lies in the list
pub least_within : (test : Life → Bool) (among : List ℕ → Bool) (rows : List Quad) (i : ℕ) (best : Option ℕ)
    → Least test among (take i rows) best → IfSome best (λ j. j < length rows)
least_within test among rows i None least = tt
least_within test among rows i (Some j) least =
    slice_get_within rows j least.row (get-take rows i j least.row least.first.here)

-- of no record there is none
pub least_none : (test : Life → Bool) (among : List ℕ → Bool) (rows : List Quad) → Least test among (take 0 rows) None
least_none test among rows = λ k within. refl

-- of all records
pub least_all : (test : Life → Bool) (among : List ℕ → Bool) (rows : List Quad) (i : ℕ) (best : Option ℕ)
    → length rows ≤ i
    → Least test among (take i rows) best → Least test among rows best
least_all test among rows i best end least =
    subst (λ (qs : List Quad). Least test among qs best) (take_all i rows end) least

-- ---- the first of one key

pub both_true : (a b p q : Bool) → p ≡ a → q ≡ b → p ≡ true → q ≡ true → (a && b) ≡ true
both_true a b p q is also true_p true_q = rw (sym is ∙ true_p, sym also ∙ true_q) refl

pub left_false : (a b p : Bool) → p ≡ a → p ≡ false → (a && b) ≡ false
left_false a b p is false_p = rw (sym is ∙ false_p) refl

pub right_false : (a b p q : Bool) → p ≡ a → q ≡ b → p ≡ true → q ≡ false → (a && b) ≡ false
right_false a b p q is also true_p false_q = rw (sym is ∙ true_p, sym also ∙ false_q) refl

pub seek_more : (test : Life → Bool) (rows : List Quad) (i : ℕ) (row : Quad) (key : List ℕ)
    → slice_get rows i ≡ Some row
    → NonePasses test (take i rows) key → (bytes_eq row.key key && test (life_of row)) ≡ false
    → NonePasses test (take (i + 1) rows) key
seek_more test rows i row key here none isnt =
    none_more test rows i row key here none (λ same. and_right (bytes_eq row.key key) (test (life_of row)) same
    (sym isnt))

pub seek_found : (test : Life → Bool) (rows : List Quad) (i : ℕ) (row : Quad) (key : List ℕ)
    → slice_get rows i ≡ Some row
    → NonePasses test (take i rows) key → (bytes_eq row.key key && test (life_of row)) ≡ true
    → IsFirstOf test key rows i
seek_found test rows i row key here none is =
    let both : (bytes_eq row.key key ≡ true) × (test (life_of row) ≡ true) = and_both (bytes_eq row.key key)
    (test (life_of row)) (sym is) in
    let same : row.key ≡ key = same-is row.key key both.0 in
    record {
      row = row;
      first =
          record {
            here = here;
            passes = both.1;
            none = subst (λ (k : List ℕ). NonePasses test (take i rows) k)
                (sym same) none;
          };
      same = same;
    }

pub seek_all : (test : Life → Bool) (rows : List Quad) (i : ℕ) (key : List ℕ) → length rows ≤ i
    → NonePasses test (take i rows) key → NonePasses test rows key
seek_all test rows i key end none = subst (λ (qs : List Quad). NonePasses test qs key) (take_all i rows end) none
