-- The order of places, and what it says of the places that are sought.
use Rattle.std.proofs.Common.{◌≡◌, ℕ, zero, suc, ◌<◌, Bool, true, false, List, [], ◌∷◌, Option, Some, refl, sym, ap, ◌∙◌, arith}
use Rattle.std.specs.Prelude.{slice_get}
use Rattle.std.specs.Cmp.{IsTotalOrder}
use Rattle.std.specs.Ordering.{ordering_reverse}
use Rattle.std.specs.declared.cmp.Ordering.{Ordering}
use Rattle.std.specs.declared.cmp.Ordering.TheVariants.{Less, Equal, Greater}
use Rattle.std.proofs.lemmas.Cmp.{then_total, on_total, nat_cmp_total, nat_list_cmp_total, alike_right}
use Rattle.btree_page.specs.Content.{Bound, bound_cmp, IsBelow, Entry, bound_of, Follows, AreCells}
use Rattle.btree_search.specs.declared.aim.Aim.{Aim}
use Rattle.btree_search.specs.declared.aim.Aim.TheVariants.{AtOrAfter, After}
use Rattle.btree_search.specs.Aim.{is_sought}

pub bound_total : IsTotalOrder bound_cmp
bound_total = then_total (on_total (λ (b : Bound). b.key) nat_list_cmp_total) (on_total (λ (b : Bound). b.birth) nat_cmp_total)

pub turned : (a b : Bound) (o : Ordering) → bound_cmp a b ≡ o → bound_cmp b a ≡ ordering_reverse o
turned a b o e = bound_total.antisymm b a ∙ ap ordering_reverse e

-- a place above one that is sought is sought whatever is sought
pub above_sought : (aim : Aim) (a b pair : Bound) → IsBelow a b → is_sought aim (bound_cmp a pair) ≡ true
    → bound_cmp b pair ≡ Greater
above_sought aim a b pair below sought = at_order aim (bound_cmp a pair) refl sought
  where
    at_order : (aim : Aim) (o : Ordering) → bound_cmp a pair ≡ o → is_sought aim o ≡ true → bound_cmp b pair ≡ Greater
    at_order AtOrAfter Less is s = absurd cc
    at_order After Less is s = absurd cc
    at_order After Equal is s = absurd cc
    at_order AtOrAfter Equal is s = sym (alike_right bound_total a pair b is) ∙ turned a b Less below
    at_order AtOrAfter Greater is s = turned pair b Less (bound_total.trans pair a b (turned a pair Greater is) below)
    at_order After Greater is s = turned pair b Less (bound_total.trans pair a b (turned a pair Greater is) below)

pub greater_sought : (aim : Aim) (o : Ordering) → o ≡ Greater → is_sought aim o ≡ true
greater_sought AtOrAfter o e = rw e refl
greater_sought After o e = rw e refl

-- sought places stay sought upwards, and places that are not sought downwards
pub sought_above : (aim : Aim) (a b pair : Bound) → IsBelow a b → is_sought aim (bound_cmp a pair) ≡ true
    → is_sought aim (bound_cmp b pair) ≡ true
sought_above aim a b pair below sought = greater_sought aim _ (above_sought aim a b pair below sought)

pub unsought_below : (aim : Aim) (a b pair : Bound) → IsBelow a b → is_sought aim (bound_cmp b pair) ≡ false
    → is_sought aim (bound_cmp a pair) ≡ false
unsought_below aim a b pair below unsought = at_test _ refl
  where
    at_test : (t : Bool) → is_sought aim (bound_cmp a pair) ≡ t → is_sought aim (bound_cmp a pair) ≡ false
    at_test false e = e
    at_test true e =
        let up = sought_above aim a b pair below e in absurd cc

-- ---- cells rise

follows_below : (is_leaf : Bool) (b : Bound) (e : Entry) → Follows is_leaf (Some b) e → IsBelow b (bound_of e)
follows_below true b e h = h
follows_below false b e h = h

pub cells_above : (is_leaf : Bool) (cells : List Entry) (b : Bound) (j : ℕ) (e : Entry) → AreCells is_leaf (Some b) cells
    → slice_get cells j ≡ Some e → IsBelow b (bound_of e)
cells_above is_leaf [] b j e h at = absurd cc
cells_above is_leaf (c ∷ cells) b zero e h at =
    let same : c ≡ e = cc in
    let first = follows_below is_leaf b c h.1.0 in rw (← same) first
cells_above is_leaf (c ∷ cells) b (suc j) e h at =
    bound_total.trans b (bound_of c) (bound_of e) (follows_below is_leaf b c h.1.0)
    (cells_above is_leaf cells (bound_of c) j e h.1.1 at)

pub cells_rise : (is_leaf : Bool) (before : Option Bound) (cells : List Entry) (i j : ℕ) (a b : Entry)
    → AreCells is_leaf before cells → i < j
    → slice_get cells i ≡ Some a → slice_get cells j ≡ Some b → IsBelow (bound_of a) (bound_of b)
cells_rise is_leaf before [] i j a b h lt at_i at_j = absurd cc
cells_rise is_leaf before (c ∷ cells) i zero a b h lt at_i at_j = absurd (omega arith)
cells_rise is_leaf before (c ∷ cells) zero (suc j) a b h lt at_i at_j =
    let same : c ≡ a = cc in
    let above = cells_above is_leaf cells (bound_of c) j b h.1.1 at_j in rw (← same) above
cells_rise is_leaf before (c ∷ cells) (suc i) (suc j) a b h lt at_i at_j =
    cells_rise is_leaf (Some (bound_of c)) cells i j a b h.1.1 (omega arith) at_i at_j
