-- Which calls of an object in memory fail.
use Rattle.std.specs.Prelude.{ℕ, List}

-- whether each call from the next on fails (a byte 1) or not, and how many calls failed
pub record Planned : Type 0 where
  pub plan : List ℕ
  pub faults : ℕ
