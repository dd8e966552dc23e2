-- Where a record stands in a leaf, and what a leaf holds without it.
use Rattle.std.proofs.Common.{◌≡◌, ◌≢◌, ⊎_elim, ℕ, zero, suc, ◌<◌, ◌≤◌, true, false, List, [], ◌∷◌, length, get_or, Some, refl}
use Rattle.std.proofs.Common.{ap, ◌∙◌, arith}
use Rattle.std.specs.Prelude.{All, slice_get}
use Rattle.std.proofs.lemmas.Bool.{cases_lt}
use Rattle.std.proofs.lemmas.Cmp.{tied_itself}
use Rattle.std.proofs.lemmas.Map.Lookups.{exact_pairs, exact_unsigned, exact_bytes}
use Rattle.std.specs.Ordering.{nat_cmp}
use Rattle.std.specs.Cmp.Lexicographic.{slice_cmp}
use Rattle.std.specs.declared.cmp.Ordering.{Ordering}
use Rattle.std.specs.declared.cmp.Ordering.TheVariants.{Less, Equal, Greater}
use Rattle.btree_page.specs.Content.{Bound, bound_cmp, Entry, bound_of}
use Rattle.btree_search.specs.declared.aim.Aim.{Aim}
use Rattle.btree_search.specs.declared.aim.Aim.TheVariants.{AtOrAfter, After}
use Rattle.btree_search.specs.Aim.{is_sought}
use Rattle.btree_search.specs.Find.{seeks, BeginsAt}
use Rattle.btree_search.proofs.Order.{bound_total}
use Rattle.btree_edit.proofs.Lists.{there}

-- places that compare as equal are equal
pub bound_exact : (a b : Bound) → bound_cmp a b ≡ Equal → a ≡ b
bound_exact a b e =
    let pairs : (a.key, a.birth) ≡ (b.key, b.birth) = exact_pairs (slice_cmp nat_cmp) nat_cmp exact_bytes exact_unsigned
    (a.key, a.birth) (b.key, b.birth) e in
    ap (λ (p : List ℕ × ℕ). let made : Bound = record { key = p.0; birth = p.1 } in made) pairs

equal_so : (o : Ordering) → is_sought AtOrAfter o ≡ true → is_sought After o ≡ false → o ≡ Equal
equal_so Less h k = absurd cc
equal_so Equal h k = refl
equal_so Greater h k = absurd cc

pub at_itself : (aim : Aim) (pair : Bound) (e : Entry) → bound_of e ≡ pair → seeks aim pair e ≡ is_sought aim Equal
at_itself aim pair e is =
    ap (λ (o : Ordering). is_sought aim o) (ap (λ (b : Bound). bound_cmp b pair) is ∙ tied_itself bound_total pair)

-- no cell lies between those at or after the pair and those after it
pub none_at : (pair : Bound) (cells : List Entry) (at past : ℕ) → BeginsAt AtOrAfter pair cells at
    → BeginsAt After pair cells past → at ≡ past
    → All (λ e. bound_of e ≢ pair) cells
none_at pair cells at past h k is = λ i d lt same. ⊎_elim (λ low. before i d lt same low) (λ high. behind i d lt same high)
    (cases_lt i at)
  where
    before : (i : ℕ) (d : Entry) → i < length cells → bound_of (get_or cells i d) ≡ pair → i < at → ⊥
    before i d lt same low =
        let test = h.before i low (get_or cells i d) (there cells i d lt) in
        let other = at_itself AtOrAfter pair (get_or cells i d) same in cc

    behind : (i : ℕ) (d : Entry) → i < length cells → bound_of (get_or cells i d) ≡ pair → at ≤ i → ⊥
    behind i d lt same high =
        let test = k.after i (omega arith) (get_or cells i d) (there cells i d lt) in
        let other = at_itself After pair (get_or cells i d) same in cc

-- the one between them stands at the pair
pub found_at : (pair : Bound) (cells : List Entry) (at past : ℕ) → BeginsAt AtOrAfter pair cells at
    → BeginsAt After pair cells past → at ≢ past
    → (at < length cells) × ((e : Entry) → slice_get cells at ≡ Some e → bound_of e ≡ pair)
found_at pair cells at past h k isnt =
    let lt : at < past = ⊎_elim (λ low. low) (λ high. absurd (crossed high)) (cases_lt at past) in
    let within : at < length cells = omega (arith, k.within) in
    (within, λ e here. bound_exact (bound_of e) pair (equal_so _ (h.after at (omega arith) e here) (k.before at lt e here)))
  where
    crossed : past ≤ at → ⊥
    crossed high = ⊎_elim (λ low. wrong low) (λ same. isnt (omega arith)) (cases_lt past at)
      where
        wrong : past < at → ⊥
        wrong low =
            let lt : past < length cells = omega (arith, h.within) in
            both past low lt (some past lt)
          where
            some : (i : ℕ) → i < length cells → (e : Entry) × (slice_get cells i ≡ Some e)
            some i lt = some_of cells i lt
              where
                some_of : (xs : List Entry) (i : ℕ) → i < length xs → (e : Entry) × (slice_get xs i ≡ Some e)
                some_of [] i lt = absurd (omega arith)
                some_of (x ∷ xs) zero lt = (x, refl)
                some_of (x ∷ xs) (suc i) lt = some_of xs i (omega arith)

            both : (i : ℕ) → i < at → past < length cells → (e : Entry) × (slice_get cells past ≡ Some e) → ⊥
            both i low lt x =
                let down = h.before past (omega arith) x.0 x.1 in
                let up = k.after past (omega arith) x.0 x.1 in contrary _ down up
              where
                contrary : (o : Ordering) → is_sought AtOrAfter o ≡ false → is_sought After o ≡ true → ⊥
                contrary Less a b = cc
                contrary Equal a b = cc
                contrary Greater a b = cc
