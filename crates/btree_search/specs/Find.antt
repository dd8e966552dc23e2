-- Where the cells that are sought begin in a page.
use Rattle.std.specs.Prelude.{ℕ, ◌≡◌, ◌<◌, ◌≤◌, Bool, true, false, List, length, Some, slice_get}
use Rattle.btree_page.specs.Content.{Bound, bound_cmp, Entry, bound_of}
use Rattle.btree_search.specs.declared.aim.Aim.{Aim}
use Rattle.btree_search.specs.Aim.{is_sought}

-- whether the place of a cell is sought beside this one
abbrev pub seeks : Aim → Bound → Entry → Bool
seeks aim pair e = is_sought aim (bound_cmp (bound_of e) pair)

-- so many cells come before the first one that is sought: the cells before it are not sought, and
-- all from it on are
pub record BeginsAt (aim : Aim) (pair : Bound) (cells : List Entry) (n : ℕ) : Type 0 where
  pub within : n ≤ length cells
  pub before : (k : ℕ) → k < n → (e : Entry) → slice_get cells k ≡ Some e → seeks aim pair e ≡ false
  pub after : (k : ℕ) → n ≤ k → (e : Entry) → slice_get cells k ≡ Some e → seeks aim pair e ≡ true
