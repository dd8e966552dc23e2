-- Sums over all numbers below one.
use Rattle.std.proofs.Common.{◌≡◌, ℕ, zero, suc, ◌+◌, ◌≤◌, ◌<◌, ⊎_elim, refl, ap, arith}
use Rattle.std.proofs.lemmas.Bool.{cases_eq}
use Rattle.fs_rules.specs.Sound.{sum_below}

-- ---- sums that are the same

pub sum_under : (f g : ℕ → ℕ) (n : ℕ) → ((d : ℕ) → d < n → f d ≡ g d) → sum_below f n ≡ sum_below g n
unfolding sum_below
sum_under f g zero h = refl
sum_under f g (suc n) h = omega (arith, h n (omega arith), sum_under f g n (λ d lt. h d (omega arith)))

pub sum_same : (f g : ℕ → ℕ) (n : ℕ) → ((d : ℕ) → f d ≡ g d) → sum_below f n ≡ sum_below g n
sum_same f g n h = sum_under f g n (λ d lt. h d)

-- the terms are the same but at one number
pub sum_but : (f g : ℕ → ℕ) (d n : ℕ) → d < n → ((x : ℕ) → (x ≡ d → ⊥) → f x ≡ g x) → sum_below f n + g d ≡ sum_below g n + f d
unfolding sum_below
sum_but f g d zero lt h = absurd (omega arith)
sum_but f g d (suc n) lt h =
    ⊎_elim
    (λ is. omega (arith, ap f is, ap g is, sum_under f g n (λ x low. h x (λ same. omega arith))))
    (λ apart. omega (arith, h n apart, sum_but f g d n (omega arith) h))
    (cases_eq n d)

pub sum_zero : (f : ℕ → ℕ) (n : ℕ) → ((d : ℕ) → d < n → f d ≡ 0) → sum_below f n ≡ 0
unfolding sum_below
sum_zero f zero h = refl
sum_zero f (suc n) h = omega (arith, h n (omega arith), sum_zero f n (λ d lt. h d (omega arith)))

-- ---- terms of a sum

pub sum_part : (f : ℕ → ℕ) (d n : ℕ) → d < n → f d ≤ sum_below f n
unfolding sum_below
sum_part f d zero lt = absurd (omega arith)
sum_part f d (suc n) lt =
    ⊎_elim
    (λ is. omega (arith, ap f is))
    (λ apart. omega (arith, sum_part f d n (omega arith)))
    (cases_eq n d)

pub sum_none : (f : ℕ → ℕ) (d n : ℕ) → sum_below f n ≡ 0 → d < n → f d ≡ 0
sum_none f d n none lt = omega (arith, sum_part f d n lt)

-- two terms are together no more than the sum
pub sum_two : (f : ℕ → ℕ) (d e n : ℕ) → d < n → e < n → (d ≡ e → ⊥) → f d + f e ≤ sum_below f n
unfolding sum_below
sum_two f d e zero low lower apart = absurd (omega arith)
sum_two f d e (suc n) low lower apart =
    ⊎_elim
    (λ is. omega (arith, ap f is, sum_part f e n (omega arith)))
    (λ other.
    ⊎_elim
    (λ is. omega (arith, ap f is, sum_part f d n (omega arith)))
    (λ another. omega (arith, sum_two f d e n (omega arith) (omega arith) apart))
    (cases_eq n e))
    (cases_eq n d)
