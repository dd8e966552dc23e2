-- What a writer at the end of a buffer did, by the buffer before and after.
use Rattle.std.specs.Prelude.{◌≡◌, ℕ, ◌+◌, ◌≤◌, List, ◌++◌, Result, OnOk, IsOk, Vec, vec_len, vec_capacity}
use Rattle.xdr_grammar.specs.Grammar.{Grammar}

-- the list begins with this front
pub record Begins (front whole : List ℕ) : Type 0 where
  pub rest : List ℕ
  pub is : whole ≡ front ++ rest

pub record Puts {A Z X E : Type 0} (g : Grammar A) (v : A) (old new : Vec ℕ Z) (result : Result X E) : Type 0 where
  -- the value's spelling stands behind what the buffer held
  pub ok : OnOk result (new.items ≡ old.items ++ g.spelling v)
  pub len : OnOk result (vec_len new ≡ vec_len old + g.size v)
  -- where memory ran out, too, the buffer begins with all that it began with
  pub front : (front : List ℕ) → Begins front old.items → Begins front new.items
  -- it does not run out where the buffer has room for the value
  pub room : vec_len old + g.size v ≤ vec_capacity old → IsOk result
  -- and no room is lost
  pub capacity : vec_capacity old ≤ vec_capacity new
