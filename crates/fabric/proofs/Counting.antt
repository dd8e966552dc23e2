-- The weather's count of bad fates rises where a majority of a store's replicas had one.
use Rattle.std.proofs.Common.{arith, ◌≡◌, ℕ, zero, suc, ◌+◌, ◌*◌, ◌^◌, ◌<◌, ◌≤◌, Bool, true, false, List, [], ◌∷◌, length}
use Rattle.std.proofs.Common.{Option, Some, None, slice_get, refl, subst, min, ◌-◌}
use Rattle.std.specs.Prelude.{count_by, nat_lt}
use Rattle.std.proofs.lemmas.Bool.Decides.{nat_tests}
use Rattle.std.proofs.lemmas.Option.{slice_get_within}
use Rattle.nfs3_types.specs.Count.{Rose, sum_below}
use Rattle.nfs3_types.proofs.CountLaws.{sum_below-le, sum_below-one, rose-still}
use Rattle.outside.specs.Weather.{bad_fates}
use Rattle.outside.specs.declared.weather.TheConstants.{MOST_STORES, MOST_REPLICAS}
use Rattle.paxos_core.specs.Majority.{IsMajority}

-- among marks of which some is true, one that is
marked : (marks : List Bool) → 1 ≤ count_by (λ mark. mark) marks → (r : ℕ) × (slice_get marks r ≡ Some true)
marked [] l = absurd (omega (arith, l))
marked (true ∷ marks) l = (0, refl)
marked (false ∷ marks) l = let found : (r : ℕ) × (slice_get marks r ≡ Some true) = marked marks l in (suc found.0, found.1)

-- one of a majority
pub record One (n : ℕ) (Has : ℕ → Type 0) : Type 0 where
  pub number : ℕ
  pub within : number < n
  pub has : Has number

pub one_of : (n : ℕ) (Has : ℕ → Type 0) → IsMajority n Has → One n Has
one_of n Has m =
    let most : length m.marks < 2 * count_by (λ mark. mark) m.marks = grind (arith, nat_tests, m.most) in
    let found : (r : ℕ) × (slice_get m.marks r ≡ Some true) = marked m.marks (omega (arith, most)) in
    record {
      number = found.0;
      within = subst (λ k. found.0 < k) m.count (slice_get_within m.marks found.0 true found.1);
      has = m.each found.0 found.1;
    }

-- the counts of a majority of a store's replicas rose, and no count fell: the count of all rose
pub bad_rise : (old new : ℕ → ℕ → ℕ) (store size : ℕ) → ((s r : ℕ) → old s r ≤ new s r) → store < MOST_STORES →
    size ≤ MOST_REPLICAS → IsMajority size (λ r. Rose (old store r) (new store r)) → Rose (bad_fates old) (bad_fates new)
unfolding bad_fates
bad_rise old new store size h s l m =
    let one = one_of size (λ r. Rose (old store r) (new store r)) m in
    let within : one.number < MOST_REPLICAS = let w = one.within in omega (arith, w, l) in
    rose-still 1 (sum_below MOST_STORES (λ i. sum_below MOST_REPLICAS (old i)))
    (sum_below MOST_STORES (λ i. sum_below MOST_REPLICAS (new i)))
    (sum_below-one MOST_STORES store 1 (λ i. sum_below MOST_REPLICAS (old i)) (λ i. sum_below MOST_REPLICAS (new i)) s
    (λ i k. sum_below-le MOST_REPLICAS (old i) (new i) (λ j b. h i j))
    (sum_below-one MOST_REPLICAS one.number 1 (old store) (new store) within (λ j b. h store j) one.has))

-- a count that rose is not 0
pub rose_some : (a b : ℕ) → Rose a b → 1 ≤ b
rose_some a b r = let e : min (a + 1) (2 ^ 64 - 1) ≤ b = r in omega (arith, e)
