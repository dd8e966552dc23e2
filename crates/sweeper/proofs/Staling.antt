-- Whether an extent that was looked at counts.
use Rattle.std.proofs.Common.{◌≡◌, ◌∙◌, ℕ, Bool, true, false, not, List, Option, Some, sym, subst}
use Rattle.fs_keys.specs.declared.rows.Extent.{Extent}
use Rattle.fs_keys.specs.Values.{extent_in}
use Rattle.fs_shows.specs.Extents.{Marks}
use Rattle.fs_shows.specs.Shows.{counts_by}
use Rattle.sweeper.specs.Ending.{StaleOr}

pub stale-or : (b : Bool) (m : Option Marks) (index : ℕ) (value : List ℕ) (x : Extent) → extent_in value ≡ Some x
    → b ≡ counts_by m index x → StaleOr (not b) m index value
stale-or true m index value x said is = λ y other.
    let same : x ≡ y = one x y (sym said ∙ other) in
    subst (λ (z : Extent). counts_by m index z ≡ true) same (sym is)
  where
    one : (x y : Extent) → Some x ≡ Some y → x ≡ y
    one x y e = cc
stale-or false m index value x said is = record { extent = x; said = said; out = sym is }
