-- Majorities of replicas, which are numbered from 0 up to their count.
use Rattle.std.specs.Prelude.{◌≡◌, ℕ, ◌*◌, Bool, true, List, length, nat_lt, slice_get, Some}
use Rattle.std.specs.Prelude.{count_by}

-- whether more than half of the marks are true
abbrev pub is_majority : List Bool → Bool
is_majority marks = nat_lt (length marks) (2 * count_by (λ mark. mark) marks)

-- of n replicas a majority has the fact: n marks, of which more than half are true, and each true one has it
pub record IsMajority (n : ℕ) (Has : ℕ → Type 0) : Type 0 where
  pub marks : List Bool
  pub count : length marks ≡ n
  pub most : is_majority marks ≡ true
  pub each : (r : ℕ) → slice_get marks r ≡ Some true → Has r
