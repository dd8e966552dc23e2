-- The records of a formed tree rise.
use Rattle.std.proofs.Common.{◌≡◌, ℕ, zero, suc, true, false, List, [], ◌∷◌, ◌++◌, map, Option, Some, None, refl, sym}
use Rattle.std.proofs.Common.{subst}
use Rattle.std.specs.Prelude.{All}
use Rattle.std.proofs.lemmas.List.Elements.{All-nil, All-cons, All-append, All-weaker}
use Rattle.pair_types.specs.declared.slot.Slot.{Slot}
use Rattle.pair_types.specs.declared.quad.Quad.{Quad}
use Rattle.pair_types.specs.PageMaps.{PageMap}
use Rattle.btree_page.specs.Content.{Bound, IsBelow, AreCells, inner_entry}
use Rattle.btree_page.specs.Tree.{IsIn, AllIn, quad_bound, quad_cell, Child, child_cell, Kids, Subtree, root, least}
use Rattle.btree_page.specs.Tree.{IsFormed}
use Rattle.btree_search.proofs.Order.{bound_total}
use Rattle.btree_search.proofs.Ranges.{raised, children_rise, subtree_in, kids_within, under_all}

-- each record lies below those behind it
abbrev pub Rises : List Quad → Type 0
Rises [] = Unit {0}
Rises (q ∷ qs) = All (λ r. IsBelow (quad_bound q) (quad_bound r)) qs × Rises qs

-- two lists side by side, on both sides of a place
rises_joined : (low next : Bound) (high : Option Bound) (a b : List Quad) → Rises a → Rises b
    → AllIn low (Some next) (map quad_bound a)
    → AllIn next high (map quad_bound b) → Rises (a ++ b)
rises_joined low next high [] b ra rb below from = rb
rises_joined low next high (q ∷ a) b ra rb below from = (
  All-append (λ r. IsBelow (quad_bound q) (quad_bound r)) a b ra.0
      (under_all (quad_bound q) next high b (below.0.to next refl) from),
  rises_joined low next high a b ra.1 rb below.1 from,
)

-- ---- leaves

above_all : (b : Bound) (quads : List Quad) → AreCells true (Some b) (map quad_cell quads)
    → All (λ r. IsBelow b (quad_bound r)) quads
above_all b [] h = All-nil (λ r. IsBelow b (quad_bound r))
above_all b (q ∷ qs) h =
    All-cons (λ r. IsBelow b (quad_bound r)) q qs h.1.0
    (All-weaker (λ r. IsBelow (quad_bound q) (quad_bound r)) (λ r. IsBelow b (quad_bound r))
    (λ r below. bound_total.trans b (quad_bound q) (quad_bound r) h.1.0 below) qs (above_all (quad_bound q) qs h.1.1))

leaf_rises : (before : Option Bound) (quads : List Quad) → AreCells true before (map quad_cell quads) → Rises quads
leaf_rises before [] h = tt
leaf_rises before (q ∷ qs) h = (above_all (quad_bound q) qs h.1.1, leaf_rises (Some (quad_bound q)) qs h.1.1)

-- ---- trees

kids_rise : (p : PageMap) (level : ℕ) (rise : (slot : Slot) (low : Bound) (high : Option Bound) (quads : List Quad)
    (slots : List Slot)
    → Subtree p level slot low high quads slots → Rises quads)
    (rest : List Child) (first : Slot) (low : Bound) (high : Option Bound) (quads : List Quad) (slots : List Slot)
    (b : Bound)
    → Kids (Subtree p level) first low rest high quads slots → AreCells false (Some b) (map child_cell rest)
    → AllIn low high (map (λ c. c.bound) rest) → Rises quads
kids_rise p level rise [] first low high quads slots b h rules within = rise first low high quads slots h
kids_rise p level rise (next ∷ rest) first low high quads slots b h rules within =
    let within_right = raised low next.bound high rest rules.1.1 within.1 in
    let left = rise first low (Some next.bound) h.quads_left h.slots_left h.left in
    let right = kids_rise p level rise rest next.slot next.bound high h.quads_right h.slots_right next.bound h.right
    rules.1.1 within_right in
    subst Rises (sym h.all_quads)
    (rises_joined low next.bound high h.quads_left h.quads_right left right
    (subtree_in p level first low (Some next.bound) h.quads_left h.slots_left h.left)
    (kids_within p level rest next.slot next.bound high h.quads_right h.slots_right next.bound h.right rules.1.1
    within_right))

subtree_rises : (p : PageMap) (level : ℕ) (slot : Slot) (low : Bound) (high : Option Bound) (quads : List Quad)
    (slots : List Slot)
    → Subtree p level slot low high quads slots → Rises quads
subtree_rises p zero slot low high quads slots h = leaf_rises None quads h.page.spelled.rules.cells
subtree_rises p (suc level) slot low high quads slots h =
    kids_rise p level (subtree_rises p level) h.rest h.first low high quads h.below _ h.kids
    (children_rise level None (inner_entry [] 0 h.first) (map child_cell h.rest) h.page.spelled.rules.cells) h.within

pub formed_rises : (stores : ℕ) (p : PageMap) (quads : List Quad) (slots : List Slot) → IsFormed stores p quads slots
    → Rises quads
formed_rises stores p quads slots formed = subtree_rises p formed.level root least None quads slots formed.tree
