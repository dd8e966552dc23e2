-- What a clock tells: the moments that it gave, and those that it will give, which are endless.
use Rattle.std.specs.Prelude.{◌≡◌, ℕ, zero, suc, ◌-◌, ◌^◌, List, [], ◌∷◌, ◌++◌, length, take, Option, Some, None, ⊤}
use Rattle.nfs3_types.specs.declared.moment.Moment.{Moment}

-- these moments, and then the others
abbrev pub followed_by : List Moment → (ℕ → Moment) → ℕ → Moment
followed_by [] others k = others k
followed_by (first ∷ rest) others zero = first
followed_by (first ∷ rest) others (suc k) = followed_by rest others k

-- how long a list of moments grows, as a count stands still at its end
unfoldable pub most_moments : ℕ
most_moments = 2 ^ 64 - 1

-- the moments given grow by these, up to that length
abbrev pub GainsMoments : Option (List Moment) → Option (List Moment) → List Moment → Type 0
GainsMoments None now moments = ⊤
GainsMoments (Some before) None moments = ⊥
GainsMoments (Some before) (Some now) moments = now ≡ before ++ take (most_moments - length before) moments

-- the moments to come began with these
abbrev pub LosesMoments : Option (ℕ → Moment) → Option (ℕ → Moment) → List Moment → Type 0
LosesMoments None now moments = ⊤
LosesMoments (Some before) None moments = ⊥
LosesMoments (Some before) (Some now) moments = before ≡ followed_by moments now

-- What clocks of a kind tell, where they do: the moments given so far, and the k-th moment to come.
pub record ClockTold (C : Type 0) : Type 0 where
  pub given : C → Option (List Moment)
  pub to_come : C → Option (ℕ → Moment)

-- from before to now the clock gave these moments
pub record GaveMoments {C : Type 0} (told : ClockTold C) (before now : C) (moments : List Moment) : Type 0 where
  pub gained : GainsMoments (told.given before) (told.given now) moments
  pub lost : LosesMoments (told.to_come before) (told.to_come now) moments
