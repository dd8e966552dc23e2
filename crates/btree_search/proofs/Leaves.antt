-- The first sought cell of a leaf is the least sought record.
use Rattle.std.proofs.Common.{◌≡◌, ℕ, zero, suc, ◌<◌, ◌≤◌, ⊎_elim, Bool, true, false, List, [], ◌∷◌, map, length, Option, Some}
use Rattle.std.proofs.Common.{None, Result, Ok, Err, refl, sym, ap, subst, ◌∙◌, arith}
use Rattle.std.specs.Prelude.{All, Contains, slice_get, ◌==◌, IfOk, IfErr}
use Rattle.std.proofs.lemmas.Bool.{cases_lt}
use Rattle.std.proofs.lemmas.List.Elements.{All-nil, All-cons, Contains-append_left, Contains-append_right, Contains-push}
use Rattle.pair_types.specs.declared.slot.Slot.{Slot}
use Rattle.pair_types.specs.declared.quad.Quad.{Quad}
use Rattle.pair_types.specs.declared.fault.PairFault.{PairFault}
use Rattle.pair_types.specs.declared.fault.PairFault.TheVariants.{Odd, HeightFull, Page}
use Rattle.pair_types.specs.PageMaps.{PageMap, over}
use Rattle.pair_types.specs.PageState.{PageState}
use Rattle.btree_page.specs.Content.{Bound, Carries, Leads, Body, Entry, Content, bound_of, Fits, AreCells, IsPage, IsBelow}
use Rattle.btree_page.specs.Content.{leaf_entry}
use Rattle.btree_page.specs.Tree.{quad_bound, quad_cell, Subtree}
use Rattle.btree_page.proofs.Built.{value_short}
use Rattle.btree_search.specs.declared.aim.Aim.{Aim}
use Rattle.btree_search.specs.Found.{takes, IsFound}
use Rattle.btree_search.specs.Walk.{IsPart, IsFirst, IsLeafFault, Walks}
use Rattle.btree_search.proofs.Order.{cells_rise}
use Rattle.btree_search.proofs.Parts.{Unsought, NotBelow, not_both}
use Rattle.btree_search.proofs.Walks.{only_same, same_content}

-- what holds of each record by its cell holds of all
pub all_cells : (P : Quad → Type 0) (quads : List Quad)
    → ((k : ℕ) (r : Quad) → slice_get (map quad_cell quads) k ≡ Some (quad_cell r) → P r) → All P quads
all_cells P [] h = All-nil P
all_cells P (q ∷ qs) h = All-cons P q qs (h 0 q refl) (all_cells P qs (λ k r at. h (suc k) r at))

quad_of : Entry → Quad
quad_of e = record { key = e.key; birth = e.birth; death = death_of e.body; value = value_of e.body }
  where
    death_of : Body → ℕ
    death_of (Carries death value) = death
    death_of (Leads child) = 0

    value_of : Body → List ℕ
    value_of (Carries death value) = value
    value_of (Leads child) = []

pub same_quad : (q r : Quad) → quad_cell q ≡ quad_cell r → q ≡ r
unfolding quad_of
same_quad q r e = ap (λ (x : Entry). quad_of x) e

pub among_cells : (quads : List Quad) (n : ℕ) (q : Quad) → slice_get (map quad_cell quads) n ≡ Some (quad_cell q)
    → Contains quads q
among_cells [] n q at = absurd cc
among_cells (r ∷ rs) zero q at =
    let cell : quad_cell r ≡ quad_cell q = cc in
    subst (λ (x : Quad). Contains (r ∷ rs) x) (same_quad r q cell) (Contains-append_left (r ∷ []) rs r (Contains-push [] r))
among_cells (r ∷ rs) (suc n) q at = Contains-append_right (r ∷ []) rs q (among_cells rs n q at)

true_false : (t : Bool) → t ≡ false → t ≡ true → ⊥
true_false t e f = cc

pub within_list : (cells : List Entry) (k : ℕ) (e : Entry) → slice_get cells k ≡ Some e → k < length cells
within_list [] k e at = absurd cc
within_list (c ∷ cells) zero e at = omega arith
within_list (c ∷ cells) (suc k) e at = omega (arith, within_list cells k e at)

pub first_found : (aim : Aim) (pair : Bound) (quads : List Quad) (found : Option Quad) → AreCells true None (map quad_cell quads)
    → IsFirst aim pair (map quad_cell quads) found → IsFound aim pair quads found
first_found aim pair quads None rules h =
    all_cells (Unsought aim pair) quads
    (λ k r at. h.1.before k (omega (arith, h.2, within_list (map quad_cell quads) k (quad_cell r) at)) (quad_cell r) at)
first_found aim pair quads (Some q) rules h = record {
  among = among_cells quads h.0 q h.2;
  sought = sought;
  least = all_cells (NotBelow aim pair q) quads (λ k r at. ⊎_elim
      (λ lt. λ r_sought below. true_false _ (h.1.before k lt (quad_cell r) at) r_sought)
      (λ le. ⊎_elim
      (λ gt. λ r_sought below. not_both (quad_bound q) (quad_bound r) (cells_rise true None (map quad_cell quads) h.0 k
      (quad_cell q) (quad_cell r) rules gt h.2 at) below)
      (λ ge. λ r_sought below. itself k r (omega arith) at below)
      (cases_lt h.0 k))
      (cases_lt k h.0));
}
  where
    sought : takes aim pair q ≡ true
    sought = h.1.after h.0 (omega arith) (quad_cell q) h.2

    itself : (k : ℕ) (r : Quad) → k ≡ h.0 → slice_get (map quad_cell quads) k ≡ Some (quad_cell r)
        → IsBelow (quad_bound r) (quad_bound q) → ⊥
    itself k r is at below =
        let at_q : slice_get (map quad_cell quads) k ≡ Some (quad_cell q) =
        subst (λ (n : ℕ). slice_get (map quad_cell quads) n ≡ Some (quad_cell q)) (sym is) h.2 in
        let cell : quad_cell r ≡ quad_cell q = cc in
        let same : r ≡ q = same_quad r q cell in
        let below_itself : IsBelow (quad_bound q) (quad_bound q) = subst (λ (x : Quad). IsBelow (quad_bound x) (quad_bound q))
        same below in
        not_both (quad_bound q) (quad_bound q) below_itself below_itself

-- ---- the walk at a leaf

pub leaf_cells : (state : PageState) (content : Content) (under : PageMap) (quads : List Quad) → content.level ≡ 0
    → IsPart state content under quads
    → (content.cells ≡ map quad_cell quads) × AreCells true None (map quad_cell quads)
leaf_cells state content under quads is part =
    let p = over state.writes under in
    let tree : Subtree p 0 part.slot part.low part.high quads part.slots =
    subst (λ (n : ℕ). Subtree p n part.slot part.low part.high quads part.slots) is part.tree in
    (ap (λ (c : Content). c.cells) (same_content p part.slot content _ part.held tree.page), tree.page.spelled.rules.cells)

pub at_leaf : (aim : Aim) (pair : Bound) (state : PageState) (content : Content) (found : Option Quad) → content.level ≡ 0
    → IsFirst aim pair content.cells found → Walks (IsFound aim pair) state state content (Ok found)
at_leaf aim pair state content found is first = record {
  only = only_same state;
  answer = λ under quads part.
      let cells = leaf_cells state content under quads is part in
      first_found aim pair quads found cells.1 (subst (λ (es : List Entry). IsFirst aim pair es found) cells.0 first);
}

pub at_leaf_fault : (aim : Aim) (pair : Bound) (state : PageState) (content : Content) (fault : PairFault) → content.level ≡ 0
    → IsLeafFault content.cells fault → Walks (IsFound aim pair) state state content (Err fault)
at_leaf_fault aim pair state content Odd is h = record {
  only = only_same state;
  answer = λ under quads part. h quads (leaf_cells state content under quads is part).0;
}
at_leaf_fault aim pair state content HeightFull is h = absurd h
at_leaf_fault aim pair state content (Page fault) is h = record { only = only_same state; answer = λ isnt. absurd (isnt h) }

pub at_leaf_any : (aim : Aim) (pair : Bound) (state : PageState) (content : Content) (result : Result (Option Quad) PairFault)
    → content.level ≡ 0
    → IfOk result (λ found. IsFirst aim pair content.cells found) → IfErr result (λ fault. IsLeafFault content.cells fault)
    → Walks (IsFound aim pair) state state content result
at_leaf_any aim pair state content (Ok found) is h k = at_leaf aim pair state content found is h
at_leaf_any aim pair state content (Err fault) is h k = at_leaf_fault aim pair state content fault is k

-- an inner cell is none of a leaf
pub no_leaf_cell : (cells : List Entry) (i : ℕ) (e : Entry) (quads : List Quad) (slot : Slot) → slice_get cells i ≡ Some e
    → e.body ≡ Leads slot → cells ≡ map quad_cell quads → ⊥
no_leaf_cell cells i e quads slot at leads is = leads_not quads i (subst (λ (es : List Entry). slice_get es i ≡ Some e) is at)
  where
    leads_not : (quads : List Quad) (i : ℕ) → slice_get (map quad_cell quads) i ≡ Some e → ⊥
    leads_not [] i there = cc
    leads_not (q ∷ qs) zero there =
        let cell : quad_cell q ≡ e = cc in
        let body = ap (λ (x : Entry). x.body) cell ∙ leads in cc
    leads_not (q ∷ qs) (suc i) there = leads_not qs i there

-- ---- the limits of a record

fits_at : (is_leaf : Bool) (before : Option Bound) (cells : List Entry) (i : ℕ) (e : Entry) → AreCells is_leaf before cells
    → slice_get cells i ≡ Some e → Fits is_leaf e
fits_at is_leaf before [] i e h at = absurd cc
fits_at is_leaf before (c ∷ cells) zero e h at =
    let same : c ≡ e = cc in subst (λ (x : Entry). Fits is_leaf x) same h.0
fits_at is_leaf before (c ∷ cells) (suc i) e h at = fits_at is_leaf (Some (bound_of c)) cells i e h.1.1 at

pub record_limits : (content : Content) (i : ℕ) (e : Entry) (key : List ℕ) (birth death : ℕ) (value : List ℕ) → IsPage content
    → slice_get content.cells i ≡ Some e
    → e ≡ leaf_entry key birth death value → (length key ≤ 264) × (length value ≤ 1200)
record_limits content i e key birth death value rules at is =
    let fits : Fits (content.level == 0) (leaf_entry key birth death value) = subst (λ (x : Entry). Fits (content.level == 0) x)
    is (fits_at _ None content.cells i e rules.cells at) in
    (fits.key, value_short (content.level == 0) death value fits.body)
