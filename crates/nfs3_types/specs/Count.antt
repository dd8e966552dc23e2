-- Counts of what happened. A count is a number below 2 ^ 64 that never falls, and that stands still once it
-- is at 2 ^ 64 - 1.
use Rattle.std.specs.Prelude.{ℕ, zero, suc, ◌+◌, ◌-◌, ◌^◌, ◌≤◌, min, Result, IsErr}

-- one more, or where it stands still
abbrev pub one_more : ℕ → ℕ
one_more count = min (count + 1) (2 ^ 64 - 1)

-- The count rose by n at least. At its end this is met, and that it did not rise is not.
abbrev pub RoseBy : ℕ → ℕ → ℕ → Type 0
RoseBy n before now = min (before + n) (2 ^ 64 - 1) ≤ now

abbrev pub Rose : ℕ → ℕ → Type 0
Rose before now = RoseBy 1 before now

-- the count rose by n, or stands at its end, and by no more
pub record Counted (n before now : ℕ) : Type 0 where
  pub rose : RoseBy n before now
  pub most : now ≤ before + n

-- the count is no less, and an error comes only where it rose
pub record HasCause {T E : Type 0} (before now : ℕ) (result : Result T E) : Type 0 where
  pub never_falls : before ≤ now
  pub error : IsErr result → Rose before now

-- the sum of f at the numbers below n
abbrev pub sum_below : ℕ → (ℕ → ℕ) → ℕ
sum_below zero f = 0
sum_below (suc n) f = sum_below n f + f n
