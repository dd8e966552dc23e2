-- The numbers of the snapshots, one after another.
use Rattle.std.proofs.Common.{◌≡◌, ◌⊎◌, inl, inr, ℕ, zero, suc, ◌^◌, ◌<◌, ◌≤◌, ◌==◌, Bool, true, false, if◌then◌else◌, List, []}
use Rattle.std.proofs.Common.{◌∷◌, ◌++◌, length, Option, Some, None, refl, sym, ◌∙◌, subst, arith}
use Rattle.std.proofs.lemmas.Bool.{eq-eqb, eqb-true, leb-true, leb-false}
use Rattle.std.proofs.lemmas.List.{length-append, length-map}
use Rattle.std.proofs.lemmas.List.Elements.{Contains-append_left, Contains-push, Contains-push_cases}
use Rattle.std.specs.List.{Contains}
use Rattle.std.specs.Prelude.{⊤, IsSome, IfSome, find, map, nat_le, option_map, slice_index_or}
use Rattle.pair_types.specs.declared.fault.PairFault.{PairFault}
use Rattle.pair_types.specs.declared.fault.PairFault.TheVariants.{Odd, HeightFull, Page}
use Rattle.pairs.specs.Told.{PairsTold, Goes, Tells, GivesUp}
use Rattle.pairs.specs.Versions.{Versions, HasLives}
use Rattle.fs_rules.specs.Limits.{most_snapshots}
use Rattle.fs_rules.specs.Places.{has_number, snapshot_entry, snapshot_numbered}
use Rattle.fs_rules.specs.Sound.{IsSound}
use Rattle.fs_rules.specs.Tree.{Tree, Snapshot}
use Rattle.fs_shows.specs.Shows.{Shows}
use Rattle.fs_shows.specs.Steps.{Reads, GivesUpOn}
use Rattle.fs_shows.proofs.Doing.{goes-none, goes-then}
use Rattle.sweeper.specs.Knowing.{AreKept}
use Rattle.sweeper.specs.Rows.{snapshot_front, numbered, behind, value_in, HasNumbers, IsAfter, IsSooner, NextIn}
use Rattle.sweeper.proofs.Nexts.{snapshot-numbers}
use Rattle.sweeper.proofs.Ordered.{all-after, before-or, order-of, sooner-less}

-- ---- how many there are

-- how many snapshots have no greater number
abbrev pub up_to : ℕ → List Snapshot → ℕ
up_to m [] = 0
up_to m (s ∷ xs) = if nat_le s.number m then suc (up_to m xs) else up_to m xs

abbrev pub count_to : Option ℕ → List Snapshot → ℕ
count_to None xs = 0
count_to (Some m) xs = up_to m xs

up-most : (m : ℕ) (xs : List Snapshot) → up_to m xs ≤ length xs
up-most m [] = omega arith
up-most m (s ∷ xs) = by_test (nat_le s.number m) (up-most m xs)
  where
    by_test : (b : Bool) → up_to m xs ≤ length xs → (if b then suc (up_to m xs) else up_to m xs) ≤ suc (length xs)
    by_test true more = omega (arith, more)
    by_test false more = omega (arith, more)

up-less : (m n : ℕ) (xs : List Snapshot) → m < n → up_to m xs ≤ up_to n xs
up-less m n [] less = omega arith
up-less m n (s ∷ xs) less = by_tests (nat_le s.number m) refl (nat_le s.number n) refl (up-less m n xs less)
  where
    by_tests : (a : Bool) → nat_le s.number m ≡ a → (b : Bool) → nat_le s.number n ≡ b → up_to m xs ≤ up_to n xs
        → (if a then suc (up_to m xs) else up_to m xs) ≤ (if b then suc (up_to n xs) else up_to n xs)
    by_tests true low true low' more = omega (arith, more)
    by_tests true low false high more =
        absurd (omega (arith, leb-true s.number m low, leb-false s.number n high, less))
    by_tests false high true low more = omega (arith, more)
    by_tests false high false high' more = more

-- a greater number that one has counts one more
up-more : (m n : ℕ) (xs : List Snapshot) → m < n → IsSome (find (has_number n) xs) → suc (up_to m xs) ≤ up_to n xs
up-more m n [] less some = absurd (cc)
up-more m n (s ∷ xs) less some =
    by_tests (s.number == n) refl (nat_le s.number m) refl (nat_le s.number n) refl some (up-less m n xs less)
    (λ h. up-more m n xs less h)
  where
    by_tests : (e : Bool) → (s.number == n) ≡ e → (a : Bool) → nat_le s.number m ≡ a → (b : Bool) → nat_le s.number n ≡ b
        → IsSome (if e then Some s else find (has_number n) xs) → up_to m xs ≤ up_to n xs
        → (IsSome (find (has_number n) xs) → suc (up_to m xs) ≤ up_to n xs)
        → suc (if a then suc (up_to m xs) else up_to m xs) ≤ (if b then suc (up_to n xs) else up_to n xs)
    by_tests true same true low b at some up more =
        absurd (omega (arith, eqb-true s.number n same, leb-true s.number m low, less))
    by_tests true same false high true low some up more = omega (arith, up)
    by_tests true same false high false high' some up more =
        absurd (omega (arith, eqb-true s.number n same, leb-false s.number n high'))
    by_tests false other true low true low' some up more = let h = more some in omega (arith, h)
    by_tests false other true low false high some up more =
        absurd (omega (arith, leb-true s.number m low, leb-false s.number n high, less))
    by_tests false other false high true low some up more = let h = more some in omega (arith, h)
    by_tests false other false high false high' some up more = more some

up-one : (n : ℕ) (xs : List Snapshot) → IsSome (find (has_number n) xs) → 1 ≤ up_to n xs
up-one n [] some = absurd (cc)
up-one n (s ∷ xs) some = by_tests (s.number == n) refl (nat_le s.number n) refl some (λ h. up-one n xs h)
  where
    by_tests : (e : Bool) → (s.number == n) ≡ e → (b : Bool) → nat_le s.number n ≡ b
        → IsSome (if e then Some s else find (has_number n) xs) → (IsSome (find (has_number n) xs) → 1 ≤ up_to n xs)
        → 1 ≤ (if b then suc (up_to n xs) else up_to n xs)
    by_tests e at true low some more = omega arith
    by_tests true same false high some more = absurd (omega (arith, eqb-true s.number n same, leb-false s.number n high))
    by_tests false other false high some more = more some

-- a number is greater than the last one
abbrev pub AllBelow : Option ℕ → ℕ → Type 0
AllBelow None n = ⊤
AllBelow (Some m) n = m < n

count-most : (after : Option ℕ) (xs : List Snapshot) → count_to after xs ≤ length xs
count-most None xs = omega arith
count-most (Some m) xs = up-most m xs

count-more : (after : Option ℕ) (n : ℕ) (xs : List Snapshot) → AllBelow after n → IsSome (find (has_number n) xs)
    → suc (count_to after xs) ≤ up_to n xs
count-more None n xs below some = up-one n xs some
count-more (Some m) n xs below some = up-more m n xs below some

-- ---- the numbers that were found

-- these are the numbers of snapshots up to a place
pub record AreKeptTo (kept : List ℕ) (after : Option ℕ) (t : Tree) : Type 0 where
  pub all : (number : ℕ) → number < 2 ^ 64 → (IsAfter snapshot_front after number → ⊥) → IsSome (snapshot_numbered t number)
      → Contains kept number
  pub only : (number : ℕ) → Contains kept number → IsSome (snapshot_numbered t number)
  pub few : length kept ≤ count_to after t.snapshots
  pub last : IfSome after (λ m. m < 2 ^ 64)

nothing-kept : (n : ℕ) → Contains [] n → ⊥
nothing-kept n (k, low, at) = absurd (omega (arith, low))

kept-begin : (t : Tree) → AreKeptTo [] None t
kept-begin t = record {
  all = λ number fits early some. absurd (early (all-after snapshot_front number));
  only = λ number here. absurd (nothing-kept number here);
  few = omega arith;
  last = tt;
}

-- ---- rows of snapshots

none-named : (o : Option Snapshot) → option_map (λ (s : Snapshot). s.name) o ≡ None → IsSome o → ⊥
none-named None is some = cc
none-named (Some s) is some = cc

some-named : (o : Option Snapshot) (value : List ℕ) → option_map (λ (s : Snapshot). s.name) o ≡ Some value → IsSome o
some-named None value is = absurd (cc)
some-named (Some s) value is = refl

module _ (v : Versions) (t : Tree) (shows : Shows v t) where
  unseen : (number : ℕ) → number < 2 ^ 64 → value_in snapshot_front number v ≡ None → IsSome (snapshot_numbered t number) → ⊥
  unseen number fits none some =
      none-named (snapshot_numbered t number) (sym (shows.rows.snapshots number fits) ∙ none) some

  seen-there : (number : ℕ) (value : List ℕ) → number < 2 ^ 64 → value_in snapshot_front number v ≡ Some value
      → IsSome (snapshot_numbered t number)
  seen-there number value fits is =
      some-named (snapshot_numbered t number) value (sym (shows.rows.snapshots number fits) ∙ is)

  -- one more
  kept-more : (kept : List ℕ) (after : Option ℕ) (n : ℕ) (value : List ℕ) → AreKeptTo kept after t
      → NextIn snapshot_front after (Some (n, value)) v → AreKeptTo (kept ++ n ∷ []) (Some n) t
  unfolding snapshot_numbered
  kept-more kept after n value are next = record {
    all = λ number fits early some. by_order number fits early some (order-of snapshot_front number n fits next.fits);
    only = λ number here. by_cases number (Contains-push_cases kept n number here);
    few =
        let more = count-more after n t.snapshots (below after are.last next.later) (seen-there n value next.fits next.has) in
        omega (arith, more, are.few, length-append kept (n ∷ []));
    last = next.fits;
  }
    where
      by_place : (number : ℕ) → number < 2 ^ 64 → IsSooner snapshot_front number n → IsSome (snapshot_numbered t number)
          → IsAfter snapshot_front after number ⊎ (IsAfter snapshot_front after number → ⊥) → Contains kept number
      by_place number fits before some (inl later) = absurd (unseen number fits (next.first number fits later before) some)
      by_place number fits before some (inr early) = are.all number fits early some

      by_order : (number : ℕ) → number < 2 ^ 64 → (IsAfter snapshot_front (Some n) number → ⊥)
          → IsSome (snapshot_numbered t number)
          → (number ≡ n) ⊎ (IsSooner snapshot_front number n ⊎ IsSooner snapshot_front n number)
          → Contains (kept ++ n ∷ []) number
      by_order number fits early some (inl same) =
          subst (λ (k : ℕ). Contains (kept ++ n ∷ []) k) (sym same) (Contains-push kept n)
      by_order number fits early some (inr (inl before)) =
          Contains-append_left kept (n ∷ []) number
          (by_place number fits before some (before-or (behind snapshot_front after) (numbered snapshot_front number)))
      by_order number fits early some (inr (inr more)) = absurd (early more)

      below : (o : Option ℕ) → IfSome o (λ m. m < 2 ^ 64) → IsAfter snapshot_front o n → AllBelow o n
      below None last later = tt
      below (Some m) last later = sooner-less snapshot_front m n last next.fits later

      by_cases : (number : ℕ) → Contains kept number ⊎ (n ≡ number) → IsSome (snapshot_numbered t number)
      by_cases number (inl here) = are.only number here
      by_cases number (inr same) =
          subst (λ (k : ℕ). IsSome (snapshot_numbered t k)) same (seen-there n value next.fits next.has)

  -- all were found
  kept-all : (kept : List ℕ) (after : Option ℕ) → AreKeptTo kept after t → NextIn snapshot_front after None v → AreKept kept t
  unfolding snapshot_numbered
  kept-all kept after are next = record {
    all = λ k d less.
        let s = slice_index_or t.snapshots k d in
        let low : s.number < t.epoch = shows.earlier k d less in
        let fits : s.number < 2 ^ 64 = omega (arith, low, shows.epoch_is, shows.lives.early) in
        by_place s.number fits (found-is t.snapshots k d less)
        (before-or (behind snapshot_front after) (numbered snapshot_front s.number));
    only = are.only;
  }
    where
      found-is : (xs : List Snapshot) (k : ℕ) (d : Snapshot) → k < length xs
          → IsSome (find (has_number (slice_index_or xs k d).number) xs)
      found-is [] k d less = absurd (omega (arith, less))
      found-is (x ∷ xs) zero d less = rw (eq-eqb x.number x.number refl) refl
      found-is (x ∷ xs) (suc k) d less =
          by_test (slice_index_or xs k d).number (x.number == (slice_index_or xs k d).number)
          (found-is xs k d (omega (arith, less)))
        where
          by_test : (n : ℕ) (b : Bool) → IsSome (find (has_number n) xs)
              → IsSome (if b then Some x else find (has_number n) xs)
          by_test n true more = refl
          by_test n false more = more

      by_place : (number : ℕ) → number < 2 ^ 64 → IsSome (snapshot_numbered t number)
          → IsAfter snapshot_front after number ⊎ (IsAfter snapshot_front after number → ⊥) → Contains kept number
      by_place number fits some (inl later) = absurd (unseen number fits (next number fits later) some)
      by_place number fits some (inr early) = are.all number fits early some

-- ---- of the trees that may lie below

module _ {S W : Type 0} (told : PairsTold S W) where
  -- so far these were found
  pub record HasFound (old now : S) (kept : List ℕ) (after : Option ℕ) : Type 0 where
    pub goes : Goes told old now 0
    pub reads : Reads told old now (λ t. ⊤) (AreKeptTo kept after)

  pub found-none : (s : S) → HasFound s s [] None
  found-none s = record {
    goes = goes-none told s;
    reads = record { stays = λ w t agrees lies is. lies; learns = λ w t agrees lies is. kept-begin t };
  }

  module _ (old mid new : S) (kept : List ℕ) (after : Option ℕ) (has : HasFound old mid kept after)
      (goes : Goes told mid new 0) where
    pub found-goes : Goes told old new 0
    found-goes = goes-then told old mid new 0 0 has.goes goes

    pub found-more : (n : ℕ) (value : List ℕ)
        → Tells told mid new (λ v. HasNumbers snapshot_front v → NextIn snapshot_front after (Some (n, value)) v)
        → HasFound old new (kept ++ n ∷ []) (Some n)
    found-more n value tells = record {
      goes = found-goes;
      reads = record {
        stays = λ w t agrees lies is.
            let at = has.reads.stays w t (goes.agreed w agrees) lies tt in
            record { versions = at.versions; shown = tells.shows w at.versions agrees at.shown; shows = at.shows };
        learns = λ w t agrees lies is.
            let a = goes.agreed w agrees in
            let at = has.reads.stays w t a lies tt in
            kept-more at.versions t at.shows kept after n value (has.reads.learns w t a lies tt)
            (tells.finds w at.versions agrees at.shown at.shows.lives (snapshot-numbers at.versions t at.shows));
      };
    }

    pub found-all : Tells told mid new (λ v. HasNumbers snapshot_front v → NextIn snapshot_front after None v)
        → Reads told old new (λ t. ⊤) (AreKept kept)
    found-all tells = record {
      stays = λ w t agrees lies is.
          let at = has.reads.stays w t (goes.agreed w agrees) lies tt in
          record { versions = at.versions; shown = tells.shows w at.versions agrees at.shown; shows = at.shows };
      learns = λ w t agrees lies is.
          let a = goes.agreed w agrees in
          let at = has.reads.stays w t a lies tt in
          kept-all at.versions t at.shows kept after (has.reads.learns w t a lies tt)
          (tells.finds w at.versions agrees at.shown at.shows.lives (snapshot-numbers at.versions t at.shows));
    }

    pub found-up : (fault : PairFault) → GivesUp told mid new HasLives fault → GivesUpOn told old new IsSound fault
    found-up Odd up = λ w t agrees lies is.
        let at = has.reads.stays w t (goes.agreed w agrees) lies tt in
        up w at.versions agrees at.shown at.shows.lives
    found-up HeightFull up = up
    found-up (Page fault) (inl lacks) = inl lacks
    found-up (Page fault) (inr rose) =
        inr (omega (arith, has.goes.faults fault, rose))

    -- more than the most
    pub found-odd : (n : ℕ) (value : List ℕ)
        → Tells told mid new (λ v. HasNumbers snapshot_front v → NextIn snapshot_front after (Some (n, value)) v)
        → most_snapshots ≤ length kept → GivesUpOn told old new IsSound Odd
    unfolding most_snapshots
    found-odd n value tells many = λ w t agrees lies sound.
        let more = (found-more n value tells).reads.learns w t agrees lies tt in
        let few : length (map snapshot_entry t.snapshots) ≤ most_snapshots = sound.bounds.snapshots.few in
        absurd (omega (
          arith,
          many,
          more.few,
          few,
          length-append kept (n ∷ []),
          count-most (Some n) t.snapshots,
          length-map t.snapshots snapshot_entry,
        ))
