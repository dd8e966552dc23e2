-- In which range the records of a part of a tree lie, and that they rise from child to child.
use Rattle.std.proofs.Common.{◌≡◌, ◌≢◌, ℕ, zero, suc, Bool, true, false, List, [], ◌∷◌, ◌++◌, map, Option, Some, None, refl, sym}
use Rattle.std.proofs.Common.{subst, ◌∙◌, arith}
use Rattle.std.specs.Prelude.{All, ◌==◌}
use Rattle.std.proofs.lemmas.Bool.{eqb-true}
use Rattle.std.specs.declared.cmp.Ordering.{Ordering}
use Rattle.std.specs.declared.cmp.Ordering.TheVariants.{Less, Equal, Greater}
use Rattle.std.proofs.lemmas.Cmp.{alike_right}
use Rattle.std.proofs.lemmas.List.Elements.{All-nil, All-cons}
use Rattle.pair_types.specs.declared.slot.Slot.{Slot}
use Rattle.pair_types.specs.declared.quad.Quad.{Quad}
use Rattle.pair_types.specs.PageMaps.{PageMap}
use Rattle.btree_page.specs.Content.{Bound, bound_cmp, IsBelow, Entry, bound_of, AreCells, inner_entry}
use Rattle.btree_page.specs.Tree.{Holds, IsIn, AllIn, quad_bound, Child, child_cell, Kids, Subtree}
use Rattle.btree_search.proofs.Order.{bound_total}

-- ---- the order

less_not_greater : (o : Ordering) → o ≡ Less → o ≢ Greater
less_not_greater o e = λ f. cc

pub below_from : (a b c : Bound) → IsBelow a b → bound_cmp b c ≢ Greater → IsBelow a c
below_from a b c below from = at_order (bound_cmp b c) refl from
  where
    at_order : (o : Ordering) → bound_cmp b c ≡ o → o ≢ Greater → IsBelow a c
    at_order Less is up = bound_total.trans a b c below is
    at_order Equal is up = sym (alike_right bound_total b c a is) ∙ below
    at_order Greater is up = absurd (up refl)

pub upto : (a b c : Bound) → bound_cmp a b ≢ Greater → bound_cmp b c ≢ Greater → bound_cmp a c ≢ Greater
upto a b c first second = at_order (bound_cmp a b) refl first
  where
    at_order : (o : Ordering) → bound_cmp a b ≡ o → o ≢ Greater → bound_cmp a c ≢ Greater
    at_order Less is up = less_not_greater _ (below_from a b c is second)
    at_order Equal is up = λ greater. second (sym (bound_total.congr a b c is) ∙ greater)
    at_order Greater is up = absurd (up refl)

-- ---- ranges

below_end : (low next : Bound) (high : Option Bound) (b : Bound) → IsIn low (Some next) b → IsIn low high next → IsIn low high b
below_end low next high b h n = record {
  from = h.from;
  to = λ end is. bound_total.trans b next end (h.to next refl)
      (n.to end is);
}

above_start : (low next : Bound) (high : Option Bound) (b : Bound) → IsIn next high b → IsIn low high next → IsIn low high b
above_start low next high b h n = record { from = upto low next b n.from h.from; to = h.to }

all_below_end : (low next : Bound) (high : Option Bound) (quads : List Quad) → AllIn low (Some next) (map quad_bound quads)
    → IsIn low high next
    → AllIn low high (map quad_bound quads)
all_below_end low next high [] h n = tt
all_below_end low next high (q ∷ qs) h n = (below_end low next high (quad_bound q) h.0 n, all_below_end low next high qs h.1 n)

all_above_start : (low next : Bound) (high : Option Bound) (quads : List Quad) → AllIn next high (map quad_bound quads)
    → IsIn low high next
    → AllIn low high (map quad_bound quads)
all_above_start low next high [] h n = tt
all_above_start low next high (q ∷ qs) h n =
    (above_start low next high (quad_bound q) h.0 n, all_above_start low next high qs h.1 n)

all_joined : (low : Bound) (high : Option Bound) (xs ys : List Quad) → AllIn low high (map quad_bound xs)
    → AllIn low high (map quad_bound ys)
    → AllIn low high (map quad_bound (xs ++ ys))
all_joined low high [] ys h k = k
all_joined low high (x ∷ xs) ys h k = (h.0, all_joined low high xs ys h.1 k)

-- children whose bounds rise from one on lie above it
lowered : (a b : Bound) (rest : List Child) → IsBelow a b → AreCells false (Some b) (map child_cell rest)
    → AreCells false (Some a) (map child_cell rest)
lowered a b [] below h = tt
lowered a b (c ∷ cs) below h = (h.0, (bound_total.trans a b c.bound below h.1.0, h.1.1))

pub raised : (low b : Bound) (high : Option Bound) (rest : List Child) → AreCells false (Some b) (map child_cell rest)
    → AllIn low high (map (λ c. c.bound) rest) → AllIn b high (map (λ c. c.bound) rest)
raised low b high [] rules h = tt
raised low b high (c ∷ cs) rules h = (
  record { from = less_not_greater _ rules.1.0; to = h.0.to },
  raised low b high cs (lowered b c.bound cs rules.1.0 rules.1.1)
      h.1,
)

-- ---- trees

-- the part of a tree holds a page of its level
pub root_page : (p : PageMap) (level : ℕ) (slot : Slot) (low : Bound) (high : Option Bound) (quads : List Quad)
    (slots : List Slot)
    → Subtree p level slot low high quads slots → (cells : List Entry) × Holds p slot (record { level = level; cells = cells })
root_page p zero slot low high quads slots h = (_, h.page)
root_page p (suc level) slot low high quads slots h = (_, h.page)

kids_in : (p : PageMap) (level : ℕ) (in_range : (slot : Slot) (low : Bound) (high : Option Bound) (quads : List Quad)
    (slots : List Slot)
    → Subtree p level slot low high quads slots → AllIn low high (map quad_bound quads))
    (rest : List Child) (first : Slot) (low : Bound) (high : Option Bound) (quads : List Quad) (slots : List Slot) (b : Bound)
    → Kids (Subtree p level) first low rest high quads slots → AreCells false (Some b) (map child_cell rest)
    → AllIn low high (map (λ c. c.bound) rest) → AllIn low high (map quad_bound quads)
kids_in p level in_range [] first low high quads slots b h rules within = in_range first low high quads slots h
kids_in p level in_range (next ∷ rest) first low high quads slots b h rules within =
    let left = in_range first low (Some next.bound) h.quads_left h.slots_left h.left in
    let right = kids_in p level in_range rest next.slot next.bound high h.quads_right h.slots_right next.bound h.right rules.1.1
    (raised low next.bound high rest rules.1.1 within.1) in
    subst (λ (qs : List Quad). AllIn low high (map quad_bound qs)) (sym h.all_quads)
    (all_joined low high h.quads_left h.quads_right (all_below_end low next.bound high h.quads_left left within.0)
    (all_above_start low next.bound high h.quads_right right within.0))

-- a page above a leaf is an inner page
pub is_inner : (level : ℕ) → (suc level == 0) ≡ false
is_inner level = at_test _ refl
  where
    at_test : (t : Bool) → (suc level == 0) ≡ t → (suc level == 0) ≡ false
    at_test false e = e
    at_test true e =
        let wrong : suc level ≡ 0 = eqb-true (suc level) 0 e in absurd (omega arith)

-- the children of an inner page rise
pub children_rise : (level : ℕ) (before : Option Bound) (e : Entry) (es : List Entry) → AreCells (suc level == 0) before (e ∷ es)
    → AreCells false (Some (bound_of e)) es
children_rise level before e es h = subst (λ (t : Bool). AreCells t (Some (bound_of e)) es) (is_inner level) h.1.1

pub subtree_in : (p : PageMap) (level : ℕ) (slot : Slot) (low : Bound) (high : Option Bound) (quads : List Quad)
    (slots : List Slot)
    → Subtree p level slot low high quads slots → AllIn low high (map quad_bound quads)
subtree_in p zero slot low high quads slots h = h.within
subtree_in p (suc level) slot low high quads slots h =
    kids_in p level (subtree_in p level) h.rest h.first low high quads h.below _ h.kids
    (children_rise level None (inner_entry [] 0 h.first) (map child_cell h.rest) h.page.spelled.rules.cells) h.within

pub kids_within : (p : PageMap) (level : ℕ) (rest : List Child) (first : Slot) (low : Bound) (high : Option Bound)
    (quads : List Quad) (slots : List Slot) (b : Bound)
    → Kids (Subtree p level) first low rest high quads slots → AreCells false (Some b) (map child_cell rest)
    → AllIn low high (map (λ c. c.bound) rest) → AllIn low high (map quad_bound quads)
kids_within p level = kids_in p level (subtree_in p level)

-- records below a bound
pub all_under : (low next : Bound) (quads : List Quad) → AllIn low (Some next) (map quad_bound quads)
    → All (λ q. IsBelow (quad_bound q) next) quads
all_under low next [] h = All-nil (λ q. IsBelow (quad_bound q) next)
all_under low next (q ∷ qs) h = All-cons (λ r. IsBelow (quad_bound r) next) q qs (h.0.to next refl) (all_under low next qs h.1)

-- a record below a bound is below all records from the bound on
pub under_all : (a next : Bound) (high : Option Bound) (quads : List Quad) → IsBelow a next
    → AllIn next high (map quad_bound quads)
    → All (λ q. IsBelow a (quad_bound q)) quads
under_all a next high [] below h = All-nil (λ q. IsBelow a (quad_bound q))
under_all a next high (q ∷ qs) below h = All-cons (λ r. IsBelow a (quad_bound r)) q qs
    (below_from a next (quad_bound q) below h.0.from) (under_all a next high qs below h.1)
