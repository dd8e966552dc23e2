-- What a contract sees of a cursor.
use Rattle.std.specs.Prelude.{ℕ, List}

-- a text, and how many of its bytes lie before the place
pub record Position : Type 0 where
  pub text : List ℕ
  pub place : ℕ
