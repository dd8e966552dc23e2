-- Passes between two turns.
use Rattle.std.specs.Prelude.{◌≡◌, ℕ, false}
use Rattle.turnstile.specs.Passes.{PassState, TurnState, IsPassOf}

-- the pass of this turnstile that has the numbers from number up to end, and holds no turn
pub record IsFor (turn : TurnState) (number end : ℕ) (pass : PassState) : Type 0 where
  pub mine : IsPassOf turn pass
  pub rests : pass.holds ≡ false
  pub number_is : pass.number ≡ number
  pub end_is : pass.end ≡ end
