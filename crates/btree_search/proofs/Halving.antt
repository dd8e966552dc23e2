-- The halving of a page: the first sought cell lies between two indexes that draw together.
use Rattle.std.proofs.Common.{◌≡◌, ℕ, ◌<◌, ◌≤◌, ◌+◌, ⊎_elim, Bool, true, false, List, [], ◌∷◌, length, zero, suc, Some, None}
use Rattle.std.proofs.Common.{refl, subst, arith}
use Rattle.std.specs.Prelude.{slice_get}
use Rattle.std.proofs.lemmas.Bool.{cases_lt}
use Rattle.btree_page.specs.Content.{Bound, Entry, bound_of, AreCells}
use Rattle.btree_search.specs.declared.aim.Aim.{Aim}
use Rattle.btree_search.specs.Find.{seeks, BeginsAt}
use Rattle.btree_search.proofs.Order.{cells_rise, sought_above, unsought_below}

pub record Between (aim : Aim) (pair : Bound) (cells : List Entry) (low high : ℕ) : Type 0 where
  pub ordered : low ≤ high
  pub within : high ≤ length cells
  pub before : (k : ℕ) → k < low → (e : Entry) → slice_get cells k ≡ Some e → seeks aim pair e ≡ false
  pub after : (k : ℕ) → high ≤ k → (e : Entry) → slice_get cells k ≡ Some e → seeks aim pair e ≡ true

no_index : (n : ℕ) → n < 0 → ⊥
no_index n h = omega arith

none_there : (cells : List Entry) (k : ℕ) (e : Entry) → length cells ≤ k → slice_get cells k ≡ Some e → ⊥
none_there [] k e long at = cc
none_there (c ∷ cells) zero e long at = absurd (omega arith)
none_there (c ∷ cells) (suc k) e long at = none_there cells k e (omega arith) at

pub between_all : (aim : Aim) (pair : Bound) (cells : List Entry) (n : ℕ) → n ≡ length cells → Between aim pair cells 0 n
between_all aim pair cells n is = record {
  ordered = omega arith;
  within = omega arith;
  before = λ k lt. absurd (no_index k lt);
  after = λ k le e at. absurd (none_there cells k e (omega arith) at);
}

the_same : (x y : Entry) (cells : List Entry) (k : ℕ) → slice_get cells k ≡ Some x → slice_get cells k ≡ Some y → x ≡ y
the_same x y cells k p q = cc

pub between_low : (is_leaf : Bool) (aim : Aim) (pair : Bound) (cells : List Entry) (low high middle : ℕ) (x : Entry)
    → AreCells is_leaf None cells
    → Between aim pair cells low high → low ≤ middle → middle < high → slice_get cells middle ≡ Some x → seeks aim pair x ≡ true
    → Between aim pair cells low middle
between_low is_leaf aim pair cells low high middle x rules h from to at sought = record {
  ordered = from;
  within = omega (arith, h.within);
  before = h.before;
  after = λ k le e there. ⊎_elim
      (λ lt. sought_above aim (bound_of x) (bound_of e) pair (cells_rise is_leaf _ cells middle k x e rules lt at there) sought)
      (λ ge.
      let is : k ≡ middle = omega arith in
      let same = the_same x e cells middle at (subst (λ (n : ℕ). slice_get cells n ≡ Some e) is there) in
      subst (λ (y : Entry). seeks aim pair y ≡ true) same sought)
      (cases_lt middle k);
}

pub between_high : (is_leaf : Bool) (aim : Aim) (pair : Bound) (cells : List Entry) (low high middle : ℕ) (x : Entry)
    → AreCells is_leaf None cells
    → Between aim pair cells low high → low ≤ middle → middle < high → slice_get cells middle ≡ Some x → seeks aim pair x ≡ false
    → Between aim pair cells (middle + 1) high
between_high is_leaf aim pair cells low high middle x rules h from to at unsought = record {
  ordered = omega arith;
  within = h.within;
  before = λ k lt e there. ⊎_elim
      (λ below. unsought_below aim (bound_of e) (bound_of x) pair (cells_rise is_leaf _ cells k middle e x rules below there at)
      unsought)
      (λ ge.
      let is : k ≡ middle = omega arith in
      let same = the_same x e cells middle at (subst (λ (n : ℕ). slice_get cells n ≡ Some e) is there) in
      subst (λ (y : Entry). seeks aim pair y ≡ false) same unsought)
      (cases_lt k middle);
  after = h.after;
}

pub some_there : (cells : List Entry) (k : ℕ) → k < length cells → (e : Entry) × (slice_get cells k ≡ Some e)
some_there [] k lt = absurd (omega arith)
some_there (c ∷ cells) zero lt = (c, refl)
some_there (c ∷ cells) (suc k) lt = some_there cells k (omega arith)

-- where the two indexes meet, the sought cells begin
pub begins : (aim : Aim) (pair : Bound) (cells : List Entry) (low high : ℕ) → Between aim pair cells low high → high ≤ low
    → BeginsAt aim pair cells low
begins aim pair cells low high h met = record {
  within = omega (arith, h.within, h.ordered);
  before = h.before;
  after = λ k le e at. h.after k (omega arith) e at;
}
