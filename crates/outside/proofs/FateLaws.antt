-- The weather's count of bad fates, the sum of those below the limits.
use Rattle.std.proofs.Common.{◌≡◌, ℕ, ◌-◌, ◌^◌, ◌<◌, ◌≤◌, min, sym, ap, arith, IsTrue}
use Rattle.nfs3_types.specs.Count.{Rose, sum_below}
use Rattle.nfs3_types.proofs.CountLaws.{sum_below-le, sum_below-one, rose-still}
use Rattle.outside.specs.Weather.{Counts, bad_fates, is_bad}
use Rattle.outside.specs.declared.weather.Fate.{Fate}
use Rattle.outside.specs.declared.weather.MessageName.{MessageName}
use Rattle.outside.specs.declared.weather.TheConstants.{MOST_STORES, MOST_REPLICAS}

min-le : (a b limit : ℕ) → a ≤ b → min a limit ≤ min b limit
min-le a b limit h = omega arith

le_of_eq : (a b : ℕ) → a ≡ b → a ≤ b
le_of_eq a b e = omega arith

between : (a b : ℕ) → a ≤ b → b ≤ a → a ≡ b
between a b h k = omega arith

-- the sum over all numbers below n and m
abbrev total : ℕ → ℕ → (ℕ → ℕ → ℕ) → ℕ
total n m f = sum_below n (λ i. sum_below m (f i))

-- no count falls, so the sum does not fall
total-le : (n m : ℕ) (f g : ℕ → ℕ → ℕ) → ((i j : ℕ) → i < n → j < m → f i j ≤ g i j) → total n m f ≤ total n m g
total-le n m f g le = sum_below-le n (λ i. sum_below m (f i)) (λ i. sum_below m (g i))
    (λ i h. sum_below-le m (f i) (g i) (λ j. le i j h))

-- a count rose, and so did the sum
total-rose : (n m : ℕ) (f g : ℕ → ℕ → ℕ) (i j : ℕ) → i < n → j < m → ((i j : ℕ) → i < n → j < m → f i j ≤ g i j)
    → Rose (f i j) (g i j) → Rose (total n m f) (total n m g)
total-rose n m f g i j h k le rose =
    sum_below-one n i 1 (λ i. sum_below m (f i)) (λ i. sum_below m (g i)) h (λ i h. sum_below-le m (f i) (g i) (λ j. le i j h))
    (sum_below-one m j 1 (f i) (g i) k (λ j. le i j h) rose)

pub bad_fates-le : (before now : ℕ → ℕ → ℕ) → ((store replica : ℕ) → before store replica ≤ now store replica)
    → bad_fates before ≤ bad_fates now
unfolding bad_fates
bad_fates-le before now le =
    let sums = total-le MOST_STORES MOST_REPLICAS before now (λ i j _ _. le i j) in
    min-le _ _ (2 ^ 64 - 1) sums

pub bad_fates-same : (before now : ℕ → ℕ → ℕ) → ((store replica : ℕ) → store < MOST_STORES → replica < MOST_REPLICAS → now store
    replica ≡ before store replica) → bad_fates now ≡ bad_fates before
unfolding bad_fates
bad_fates-same before now same =
    let up = total-le MOST_STORES MOST_REPLICAS before now (λ i j h k. le_of_eq _ _ (sym (same i j h k))) in
    let down = total-le MOST_STORES MOST_REPLICAS now before (λ i j h k. le_of_eq _ _ (same i j h k)) in
    ap (λ sum. min sum (2 ^ 64 - 1)) (between _ _ down up)

pub bad_fates-rose : (before now : ℕ → ℕ → ℕ) (message : MessageName) (fate : Fate) → Counts before now message fate
    → IsTrue (is_bad fate) → message.store < MOST_STORES → message.replica < MOST_REPLICAS
    → Rose (bad_fates before) (bad_fates now)
unfolding bad_fates
bad_fates-rose before now message fate counts bad h k =
    rose-still 1 (total MOST_STORES MOST_REPLICAS before) (total MOST_STORES MOST_REPLICAS now)
    (total-rose MOST_STORES MOST_REPLICAS before now message.store message.replica h k (λ i j _ _. counts.never_falls i j)
    (counts.rose bad))
