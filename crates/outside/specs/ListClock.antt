-- A list of moments as a clock: after the last one it stands still there, and an empty one says (0, 0).
use Rattle.std.specs.Prelude.{ℕ, zero, suc, ◌+◌, ◌-◌, min, List, [], ◌∷◌, ◌++◌, length, slice_index_or, Some}
use Rattle.nfs3_types.specs.declared.moment.Moment.{Moment}
use Rattle.outside.specs.Clock.{ClockTold}

-- its moments, and how many calls it had
pub record MomentList : Type 0 where
  pub moments : List Moment
  pub calls : ℕ

-- the moment of the k-th call of all
abbrev pub moment_at : List Moment → ℕ → Moment
moment_at moments k = slice_index_or moments (min k (length moments - 1)) (record { seconds = 0; nanos = 0 })

-- the first n of endless moments
abbrev pub firsts : (ℕ → Moment) → ℕ → List Moment
firsts moments zero = []
firsts moments (suc n) = firsts moments n ++ moments n ∷ []

-- it tells everything
abbrev pub list_told : ClockTold MomentList
list_told = record {
  given = λ clock. Some (firsts (moment_at clock.moments) clock.calls);
  to_come = λ clock. Some (λ k. moment_at clock.moments (clock.calls + k));
}
