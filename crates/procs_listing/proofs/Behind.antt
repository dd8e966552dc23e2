-- What a directory lists behind a cookie, by the first of its names whose cookie is greater.
use Rattle.std.proofs.Common.{◌≡◌, ◌≢◌, ℕ, ◌+◌, ◌<◌, ◌≤◌, ◌==◌, Bool, true, false, if◌then◌else◌, List, [], ◌∷◌, map, Option}
use Rattle.std.proofs.Common.{Some, None}
use Rattle.std.proofs.Common.{refl, sym, ◌∙◌, ap, subst, arith}
use Rattle.std.specs.Prelude.{nat_lt, find, option_map}
use Rattle.std.proofs.lemmas.Bool.{lt-ltb, ltb-true, ltb-false, eqb-true, eqb-false}
use Rattle.fs_rules.specs.declared.name_entry.NameEntry.{NameEntry}
use Rattle.fs_rules.specs.declared.place.Place.{Place}
use Rattle.fs_rules.specs.Listing.{Listed, behind, listed}
use Rattle.fs_rules.specs.Places.{names_at}
use Rattle.fs_rules.specs.Sound.{Rise}
use Rattle.fs_rules.specs.Tree.{Tree}
use Rattle.dir_ops.specs.Listing.{next_entry}
use Rattle.procs_listing.specs.Entries.{dots, entry_by, lists, listed_as, IsNextOf}

kept : (b : Bool) (x : Listed) (rest all : List Listed) → b ≡ true → rest ≡ all → (if b then x ∷ rest else rest) ≡ x ∷ all
kept true x rest all is same = ap (λ (l : List Listed). x ∷ l) same
kept false x rest all is same = absurd (cc)

passed : (b : Bool) (x : Listed) (rest all : List Listed) → b ≡ false → rest ≡ all → (if b then x ∷ rest else rest) ≡ all
passed true x rest all is same = absurd (cc)
passed false x rest all is same = same

not-less : (a b : ℕ) → b ≤ a → nat_lt a b ≡ false
not-less a b low = by_test (nat_lt a b) refl
  where
    by_test : (u : Bool) → nat_lt a b ≡ u → nat_lt a b ≡ false
    by_test true is = let more : a < b = ltb-true a b is in absurd (omega (arith, low, more))
    by_test false is = is

module _ (directory : Place) where
  abbrev named_as : NameEntry → Listed
  named_as e = listed directory e

  -- all names are behind a cookie below the least
  all-behind : (cookie least next : ℕ) (names : List NameEntry) → cookie < least → Rise least next names
      → behind cookie (map (listed directory) names) ≡ map (listed directory) names
  unfolding Rise
  all-behind cookie least next [] low rise = refl
  all-behind cookie least next (e ∷ names) low rise =
      kept (nat_lt cookie e.cookie) (named_as e) (behind cookie (map (listed directory) names))
      (map (listed directory) names) (lt-ltb cookie e.cookie (omega (arith, low, rise.0)))
      (all-behind cookie (e.cookie + 1) next names (omega (arith, low, rise.0)) rise.1)

  abbrev Names : ℕ → List NameEntry → Option NameEntry → Type 0
  Names cookie names None = behind cookie (map (listed directory) names) ≡ []
  Names cookie names (Some e) =
      (cookie < e.cookie) × (behind cookie (map (listed directory) names)
      ≡ named_as e ∷ behind e.cookie (map (listed directory) names))

  -- the first name behind a cookie, and those behind it
  names-behind : (cookie least next : ℕ) (names : List NameEntry) → Rise least next names
      → Names cookie names (next_entry cookie names)
  unfolding Rise
  names-behind cookie least next [] rise = refl
  names-behind cookie least next (x ∷ names) rise =
      by_test (nat_lt cookie x.cookie) refl (names-behind cookie (x.cookie + 1) next names rise.1)
    where
      above : nat_lt cookie x.cookie ≡ true → cookie < x.cookie
      above is = ltb-true cookie x.cookie is

      more : (e : NameEntry) → nat_lt cookie x.cookie ≡ false → cookie < e.cookie → nat_lt e.cookie x.cookie ≡ false
      more e is up =
          let low : x.cookie ≤ cookie = ltb-false cookie x.cookie is in
          not-less e.cookie x.cookie (omega (arith, low, up))

      by_found : (o : Option NameEntry) → nat_lt cookie x.cookie ≡ false → Names cookie names o → Names cookie (x ∷ names) o
      by_found None is rest =
          passed (nat_lt cookie x.cookie) (named_as x) (behind cookie (map (listed directory) names)) [] is rest
      by_found (Some e) is rest = (
        rest.0,
        passed (nat_lt cookie x.cookie) (named_as x) (behind cookie (map (listed directory) names))
            (named_as e ∷ behind e.cookie (map (listed directory) names)) is rest.1
            ∙ ap (λ (l : List Listed). named_as e ∷ l)
            (sym (passed (nat_lt e.cookie x.cookie) (named_as x) (behind e.cookie (map (listed directory) names))
            (behind e.cookie (map (listed directory) names)) (more e is rest.0) refl)),
      )

      by_test : (u : Bool) → nat_lt cookie x.cookie ≡ u → Names cookie names (find (λ e. nat_lt cookie e.cookie) names)
          → Names cookie (x ∷ names) (if u then Some x else find (λ e. nat_lt cookie e.cookie) names)
      by_test true is rest = (
        above is,
        kept (nat_lt cookie x.cookie) (named_as x) (behind cookie (map (listed directory) names))
            (map (listed directory) names) is
            (all-behind cookie (x.cookie + 1) next names (let up = above is in omega (arith, up)) rise.1)
            ∙ ap (λ (l : List Listed). named_as x ∷ l)
            (sym (passed (nat_lt x.cookie x.cookie) (named_as x) (behind x.cookie (map (listed directory) names))
            (map (listed directory) names) (not-less x.cookie x.cookie (omega arith))
            (all-behind x.cookie (x.cookie + 1) next names (omega arith) rise.1))),
      )
      by_test false is rest = by_found (find (λ e. nat_lt cookie e.cookie) names) is rest

module _ (t : Tree) (directory above : Place) (next : ℕ) (rises : Rise 3 next (names_at t directory)) where
  abbrev names : List NameEntry
  names = names_at t directory

  abbrev itself : Listed
  itself = listed_as (dots directory above 0)

  abbrev upper : Listed
  upper = listed_as (dots directory above 1)

  -- behind the cookies of itself and of the one above there are names alone
  names-alone : (cookie : ℕ) → 2 ≤ cookie
      → behind cookie (lists t directory above) ≡ behind cookie (map (listed directory) names)
  names-alone cookie up =
      passed (nat_lt cookie 1) itself (behind cookie (upper ∷ map (listed directory) names))
      (behind cookie (map (listed directory) names)) (not-less cookie 1 (omega (arith, up)))
      (passed (nat_lt cookie 2) upper (behind cookie (map (listed directory) names))
      (behind cookie (map (listed directory) names)) (not-less cookie 2 up) refl)

  all-names : (cookie : ℕ) → cookie < 3
      → behind cookie (map (listed directory) names) ≡ map (listed directory) names
  all-names cookie low = all-behind directory cookie 3 next names low rises

  pub dots-next : (cookie : ℕ) → cookie < 2 → IsNextOf (lists t directory above) cookie (Some (dots directory above cookie))
  dots-next cookie low = by_first (cookie == 0) refl
    where
      first : cookie ≡ 0 → IsNextOf (lists t directory above) 0 (Some (dots directory above 0))
      first zero_is =
          ap (λ (l : List Listed). itself ∷ (upper ∷ l)) (all-names 0 (omega arith) ∙ sym (all-names 1 (omega arith)))

      second : IsNextOf (lists t directory above) 1 (Some (dots directory above 1))
      second =
          ap (λ (l : List Listed). upper ∷ l) (all-names 1 (omega arith) ∙ sym (all-names 2 (omega arith)))

      by_first : (u : Bool) → (cookie == 0) ≡ u → IsNextOf (lists t directory above) cookie (Some (dots directory above cookie))
      by_first true at =
          subst (λ (k : ℕ). IsNextOf (lists t directory above) k (Some (dots directory above k))) (sym (eqb-true cookie 0 at))
          (first (eqb-true cookie 0 at))
      by_first false at =
          subst (λ (k : ℕ). IsNextOf (lists t directory above) k (Some (dots directory above k)))
          (sym (one (eqb-false cookie 0 at))) second
        where
          one : (cookie ≡ 0 → ⊥) → cookie ≡ 1
          one other = let ne : cookie ≢ 0 = other in omega (arith, low, ne)

  pub names-next : (cookie : ℕ) (found : Option NameEntry) → 2 ≤ cookie → next_entry cookie names ≡ found
      → IsNextOf (lists t directory above) cookie (option_map (entry_by directory) found)
  names-next cookie found up same =
      by_found found (subst (Names directory cookie names) same (names-behind directory cookie 3 next names rises))
    where
      by_found : (found : Option NameEntry) → Names directory cookie names found
          → IsNextOf (lists t directory above) cookie (option_map (entry_by directory) found)
      by_found None rest = names-alone cookie up ∙ rest
      by_found (Some e) rest =
          names-alone cookie up ∙ rest.1
          ∙ ap (λ (l : List Listed). named_as directory e ∷ l)
          (sym (names-alone e.cookie (let more = rest.0 in omega (arith, up, more))))
