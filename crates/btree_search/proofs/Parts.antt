-- An inner page's children one after the other, and how a search goes along them.
use Rattle.std.proofs.Common.{◌≡◌, ◌≢◌, ℕ, zero, suc, ◌<◌, Bool, true, false, List, [], ◌∷◌, ◌++◌, map, length, drop, Option}
use Rattle.std.proofs.Common.{Some, refl, sym, ap, subst, ◌∙◌, arith, append_assoc}
use Rattle.std.specs.Prelude.{All, Contains, slice_get}
use Rattle.std.proofs.lemmas.List.{append-nil}
use Rattle.std.proofs.lemmas.List.Elements.{All-nil, All-cons, All-append, All-weaker, All-contains, Contains-append_left}
use Rattle.std.proofs.lemmas.List.Elements.{Contains-append_right}
use Rattle.std.specs.declared.cmp.Ordering.TheVariants.{Greater}
use Rattle.pair_types.specs.declared.slot.Slot.{Slot}
use Rattle.pair_types.specs.declared.quad.Quad.{Quad}
use Rattle.pair_types.specs.PageMaps.{PageMap}
use Rattle.btree_page.specs.Content.{Bound, bound_cmp, IsBelow, Entry, Leads, bound_of, AreCells, inner_entry}
use Rattle.btree_page.specs.Tree.{AllIn, quad_bound, Child, child_cell, Kids, Subtree}
use Rattle.btree_search.specs.declared.aim.Aim.{Aim}
use Rattle.btree_search.specs.declared.aim.Aim.TheVariants.{After}
use Rattle.btree_search.specs.Aim.{is_sought}
use Rattle.btree_search.specs.Find.{seeks}
use Rattle.btree_search.specs.Found.{takes, IsLeast}
use Rattle.btree_search.specs.Walk.{LeadsAt}
use Rattle.btree_search.proofs.Order.{bound_total, above_sought, greater_sought}
use Rattle.btree_search.proofs.Ranges.{raised, subtree_in, kids_within, all_under, under_all}

-- the records below the next cell, if there is one
abbrev pub UnderNext : List Entry → List Quad → Type 0
UnderNext [] quads = Unit {0}
UnderNext (e ∷ es) quads = All (λ q. IsBelow (quad_bound q) (bound_of e)) quads

-- the records from the next cell on, if there is one
abbrev pub OverNext : List Entry → List Quad → Type 0
OverNext [] quads = Unit {0}
OverNext (e ∷ es) quads = All (λ q. bound_cmp (bound_of e) (quad_bound q) ≢ Greater) quads

-- the child to which a cell leads, with its records, and those of the cells behind it
pub record Next (p : PageMap) (level : ℕ) (e : Entry) (es : List Entry) (Others : List Quad → Type 0)
    (quads : List Quad) : Type 0 where
  pub here : List Quad
  pub after : List Quad
  pub all : quads ≡ here ++ after
  pub child : Slot
  pub low : Bound
  pub high : Option Bound
  pub slots : List Slot
  pub leads : e.body ≡ Leads child
  pub tree : Subtree p level child low high here slots
  pub under : UnderNext es here
  pub over : OverNext es after
  pub rise : (a : Quad) → Contains here a → All (λ b. IsBelow (quad_bound a) (quad_bound b)) after
  pub others : Others after

-- the cells lead to children with these records
abbrev pub Along : PageMap → ℕ → List Entry → List Quad → Type 0
Along p level [] quads = quads ≡ []
Along p level (e ∷ es) quads = Next p level e es (Along p level es) quads

from_next : (low : Bound) (high : Option Bound) (quads : List Quad) → AllIn low high (map quad_bound quads)
    → All (λ q. bound_cmp low (quad_bound q) ≢ Greater) quads
from_next low high [] h = All-nil (λ q. bound_cmp low (quad_bound q) ≢ Greater)
from_next low high (q ∷ qs) h = All-cons (λ r. bound_cmp low (quad_bound r) ≢ Greater) q qs h.0.from (from_next low high qs h.1)

pub along_kids : (p : PageMap) (level : ℕ) (rest : List Child) (first : Slot) (low : Bound) (high : Option Bound)
    (quads : List Quad) (slots : List Slot) (b : Bound)
    (key : List ℕ) (birth : ℕ)
    → Kids (Subtree p level) first low rest high quads slots → AreCells false (Some b) (map child_cell rest)
    → AllIn low high (map (λ c. c.bound) rest)
    → Along p level (inner_entry key birth first ∷ map child_cell rest) quads
along_kids p level [] first low high quads slots b key birth h rules within = record {
  here = quads;
  after = [];
  all = sym (append-nil quads);
  child = first;
  low = low;
  high = high;
  slots = slots;
  leads = refl;
  tree = h;
  under = tt;
  over = tt;
  rise = λ a there. All-nil (λ b. IsBelow (quad_bound a) (quad_bound b));
  others = refl;
}
along_kids p level (next ∷ rest) first low high quads slots b key birth h rules within =
    let left = all_under low next.bound h.quads_left (subtree_in p level first low (Some next.bound) h.quads_left h.slots_left
    h.left) in
    let above = raised low next.bound high rest rules.1.1 within.1 in
    let right = kids_within p level rest next.slot next.bound high h.quads_right h.slots_right next.bound h.right rules.1.1 above
    in
    record {
      here = h.quads_left;
      after = h.quads_right;
      all = h.all_quads;
      child = first;
      low = low;
      high = Some next.bound;
      slots = h.slots_left;
      leads = refl;
      tree = h.left;
      under = left;
      over = from_next next.bound high h.quads_right right;
      rise = λ a there. under_all (quad_bound a) next.bound high h.quads_right
          (All-contains (λ q. IsBelow (quad_bound q) next.bound) h.quads_left a left there) right;
      others = along_kids p level rest next.slot next.bound high h.quads_right h.slots_right next.bound next.bound.key
          next.bound.birth h.right rules.1.1 above;
    }

-- ---- a search along the cells

-- a record is not sought
abbrev pub Unsought : Aim → Bound → Quad → Type 0
Unsought aim pair r = takes aim pair r ≡ false

-- a record is not sought or not below this one
abbrev pub NotBelow : Aim → Bound → Quad → Quad → Type 0
NotBelow aim pair q r = takes aim pair r ≡ true → IsBelow (quad_bound r) (quad_bound q) → ⊥

-- no record before these cells is sought
pub record Passed (p : PageMap) (level : ℕ) (aim : Aim) (pair : Bound) (cells : List Entry) (quads : List Quad) : Type 0 where
  pub before : List Quad
  pub ahead : List Quad
  pub all : quads ≡ before ++ ahead
  pub none : All (λ q. takes aim pair q ≡ false) before
  pub along : Along p level cells ahead

-- below a cell at or below the pair, nothing is sought
below_unsought : (aim : Aim) (pair b : Bound) (q : Quad) → is_sought After (bound_cmp b pair) ≡ false → IsBelow (quad_bound q) b
    → takes aim pair q ≡ false
below_unsought aim pair b q at_or_below below = at_test _ refl
  where
    at_test : (t : Bool) → takes aim pair q ≡ t → takes aim pair q ≡ false
    at_test false e = e
    at_test true e =
        let up = greater_sought After _ (above_sought aim (quad_bound q) b pair below e) in absurd cc

-- the first n cells are passed where the next n ones are at or below the pair
pub skip : (p : PageMap) (level : ℕ) (aim : Aim) (pair : Bound) (n : ℕ) (cells : List Entry) (quads : List Quad)
    → Along p level cells quads
    → n < length cells
    → ((k : ℕ) → k < n → (e : Entry) → slice_get cells (suc k) ≡ Some e → seeks After pair e ≡ false)
    → Passed p level aim pair (drop n cells) quads
skip p level aim pair zero cells quads h lt low = record {
  before = [];
  ahead = quads;
  all = refl;
  none =
      All-nil (Unsought aim pair);
  along = h;
}
skip p level aim pair (suc n) [] quads h lt low = absurd (omega arith)
skip p level aim pair (suc n) (e ∷ []) quads h lt low = absurd (omega arith)
skip p level aim pair (suc n) (e ∷ (f ∷ cells)) quads h lt low =
    let more = skip p level aim pair n (f ∷ cells) h.after h.others (omega arith) (λ k k_lt x at. low (suc k) (omega arith) x at)
    in
    let at_f : is_sought After (bound_cmp (bound_of f) pair) ≡ false = low 0 (omega arith) f refl in
    record {
      before = h.here ++ more.before;
      ahead = more.ahead;
      all = h.all ∙ (ap (λ (qs : List Quad). h.here ++ qs) more.all ∙ sym (append_assoc h.here more.before more.ahead));
      none = All-append (Unsought aim pair) h.here more.before (All-weaker (λ r. IsBelow (quad_bound r) (bound_of f))
          (Unsought aim pair) (λ q below. below_unsought aim pair (bound_of f) q at_f below) h.here h.under) more.none;
      along = more.along;
    }

-- the child at the next cell, between what was passed and what follows
pub record Opened (p : PageMap) (level : ℕ) (aim : Aim) (pair : Bound) (cells : List Entry) (i : ℕ)
    (quads : List Quad) : Type 0 where
  pub before : List Quad
  pub here : List Quad
  pub after : List Quad
  pub all : quads ≡ before ++ (here ++ after)
  pub none : All (λ q. takes aim pair q ≡ false) before
  pub child : Slot
  pub low : Bound
  pub high : Option Bound
  pub slots : List Slot
  pub leads : LeadsAt cells i child
  pub tree : Subtree p level child low high here slots
  pub rise : (a : Quad) → Contains here a → All (λ b. IsBelow (quad_bound a) (quad_bound b)) after
  pub others : Along p level (drop (suc i) cells) after

-- the next cell, and those behind it
next_cell : (cells : List Entry) (i : ℕ) → i < length cells → (e : Entry) × (slice_get cells i ≡ Some e)
    × (drop i cells ≡ e ∷ drop (suc i) cells)
next_cell [] i lt = absurd (omega arith)
next_cell (c ∷ cells) zero lt = (c, refl, refl)
next_cell (c ∷ cells) (suc i) lt = next_cell cells i (omega arith)

pub opens : (p : PageMap) (level : ℕ) (aim : Aim) (pair : Bound) (cells : List Entry) (i : ℕ) (quads : List Quad)
    → i < length cells
    → Passed p level aim pair (drop i cells) quads → Opened p level aim pair cells i quads
opens p level aim pair cells i quads lt h =
    let x = next_cell cells i lt in
    let next : Next p level x.0 (drop (suc i) cells) (Along p level (drop (suc i) cells)) h.ahead =
    subst (λ (es : List Entry). Along p level es h.ahead) x.2 h.along in
    record {
      before = h.before;
      here = next.here;
      after = next.after;
      all = h.all ∙ ap (λ (qs : List Quad). h.before ++ qs) next.all;
      none = h.none;
      child = next.child;
      low = next.low;
      high = next.high;
      slots = next.slots;
      leads = record { cell = x.0; there = x.1; leads = next.leads };
      tree = next.tree;
      rise = next.rise;
      others = next.others;
    }

-- a child in which nothing is sought is passed
pub passes : (p : PageMap) (level : ℕ) (aim : Aim) (pair : Bound) (cells : List Entry) (i : ℕ) (quads : List Quad)
    (h : Opened p level aim pair cells i quads) → All (λ q. takes aim pair q ≡ false) h.here
    → Passed p level aim pair (drop (suc i) cells) quads
passes p level aim pair cells i quads h none = record {
  before = h.before ++ h.here;
  ahead = h.after;
  all = h.all ∙ sym (append_assoc h.before h.here h.after);
  none = All-append (Unsought aim pair) h.before h.here h.none none;
  along = h.others;
}

pub not_both : (a b : Bound) → IsBelow a b → IsBelow b a → ⊥
not_both a b up down = let around = bound_total.antisymm a b in cc

-- the least of a child is the least of the whole, where nothing before the child is sought
pub hits : (p : PageMap) (level : ℕ) (aim : Aim) (pair : Bound) (cells : List Entry) (i : ℕ) (quads : List Quad) (q : Quad)
    (h : Opened p level aim pair cells i quads) → IsLeast aim pair h.here q → IsLeast aim pair quads q
hits p level aim pair cells i quads q h found =
    subst (λ (qs : List Quad). IsLeast aim pair qs q) (sym h.all) (record {
      among = Contains-append_right h.before (h.here ++ h.after) q (Contains-append_left h.here h.after q found.among);
      sought = found.sought;
      least = All-append (NotBelow aim pair q) h.before (h.here ++ h.after)
          (All-weaker (Unsought aim pair) (NotBelow aim pair q) (λ r unsought. λ sought. absurd (false_true _ unsought sought))
          h.before h.none)
          (All-append (NotBelow aim pair q) h.here h.after found.least
          (All-weaker (λ r. IsBelow (quad_bound q) (quad_bound r)) (NotBelow aim pair q)
          (λ r above. λ sought below. not_both (quad_bound q) (quad_bound r) above below) h.after (h.rise q found.among)));
    })
  where
    false_true : (t : Bool) → t ≡ false → t ≡ true → ⊥
    false_true t e f = cc

-- where no cell is left, nothing is sought
pub ends : (p : PageMap) (level : ℕ) (aim : Aim) (pair : Bound) (quads : List Quad) → Passed p level aim pair [] quads
    → All (λ q. takes aim pair q ≡ false) quads
ends p level aim pair quads h =
    let all : quads ≡ h.before = h.all ∙ (ap (λ (qs : List Quad). h.before ++ qs) h.along ∙ append-nil h.before) in
    subst (λ (qs : List Quad). All (λ q. takes aim pair q ≡ false) qs) (sym all) h.none
