-- An inner page's children from the last one back to the first, and the last cell of a leaf that is not above a place.
use Rattle.std.proofs.Common.{◌≡◌, ◌≢◌, ℕ, zero, suc, ◌<◌, ◌≤◌, ⊎_elim, Bool, true, false, List, [], ◌∷◌, ◌++◌, map, length, take}
use Rattle.std.proofs.Common.{Option, Some, None, Result, Ok, Err, refl, sym, ap, subst, ◌∙◌, arith, append_assoc}
use Rattle.std.specs.Prelude.{All, Contains, slice_get, ◌==◌, IfOk, IfErr}
use Rattle.std.specs.Ordering.{nat_cmp}
use Rattle.std.specs.declared.cmp.Ordering.{Ordering}
use Rattle.std.specs.declared.cmp.Ordering.TheVariants.{Less, Equal, Greater}
use Rattle.std.proofs.lemmas.Bool.{cases_lt}
use Rattle.std.proofs.lemmas.Cmp.{ranked, by_ranked}
use Rattle.std.proofs.lemmas.List.{append-nil}
use Rattle.std.proofs.lemmas.List.Elements.{All-nil, All-cons, All-append, All-weaker, All-contains, Contains-append_left}
use Rattle.std.proofs.lemmas.List.Elements.{Contains-append_right, Contains-push}
use Rattle.pair_types.specs.declared.slot.Slot.{Slot}
use Rattle.pair_types.specs.declared.quad.Quad.{Quad}
use Rattle.pair_types.specs.declared.fault.PairFault.{PairFault}
use Rattle.pair_types.specs.declared.fault.PairFault.TheVariants.{Odd, HeightFull, Page}
use Rattle.pair_types.specs.PageMaps.{PageMap, over}
use Rattle.pair_types.specs.PageState.{PageState}
use Rattle.btree_page.specs.Content.{Bound, bound_cmp, IsBelow, Entry, Content, bound_of, Follows, AreCells, IsPage}
use Rattle.btree_page.specs.Tree.{quad_bound, quad_cell, Subtree}
use Rattle.btree_search.specs.declared.aim.Aim.TheVariants.{After}
use Rattle.btree_search.specs.Aim.{is_sought}
use Rattle.btree_search.specs.Find.{BeginsAt, seeks}
use Rattle.btree_search.specs.Found.{takes, IsGreatest, IsFloor}
use Rattle.btree_search.specs.Walk.{IsFinal, IsLeafFault, LeadsAt, Walks}
use Rattle.btree_search.proofs.Order.{cells_rise, turned, greater_sought}
use Rattle.btree_search.proofs.Ranges.{below_from, is_inner}
use Rattle.btree_search.proofs.Parts.{Along, UnderNext, OverNext, not_both}
use Rattle.btree_search.proofs.Leaves.{all_cells, among_cells, same_quad, leaf_cells}
use Rattle.btree_search.proofs.Walks.{Sees, Passing, along_part, only_same}

-- ---- lists

pub all_left : (P : Quad → Type 0) (xs ys : List Quad) → All P (xs ++ ys) → All P xs
all_left P [] ys h = All-nil P
all_left P (x ∷ xs) ys h = All-cons P x xs (h 0 x (omega arith)) (all_left P xs ys (λ k d lt. h (suc k) d (omega arith)))

-- what lies above all of a list, seen from above
all_lower : (a : Quad) (xs ys : List Quad) → ((x : Quad) → Contains xs x → All (λ y. IsBelow (quad_bound x) (quad_bound y)) ys)
    → Contains ys a
    → All (λ x. IsBelow (quad_bound x) (quad_bound a)) xs
all_lower a [] ys rise there = All-nil (λ x. IsBelow (quad_bound x) (quad_bound a))
all_lower a (x ∷ xs) ys rise there =
    All-cons (λ z. IsBelow (quad_bound z) (quad_bound a)) x xs
    (All-contains (λ y. IsBelow (quad_bound x) (quad_bound y)) ys a
    (rise x (Contains-append_left (x ∷ []) xs x (Contains-push [] x))) there)
    (all_lower a xs ys (λ z among. rise z (Contains-append_right (x ∷ []) xs z among)) there)

under_take : (es : List Entry) (n : ℕ) (quads : List Quad) → UnderNext es quads → UnderNext (take n es) quads
under_take [] zero quads h = tt
under_take [] (suc n) quads h = tt
under_take (e ∷ es) zero quads h = tt
under_take (e ∷ es) (suc n) quads h = h

over_take : (es : List Entry) (n : ℕ) (xs ys : List Quad) → OverNext es (xs ++ ys) → OverNext (take n es) xs
over_take [] zero xs ys h = tt
over_take [] (suc n) xs ys h = tt
over_take (e ∷ es) zero xs ys h = tt
over_take (e ∷ es) (suc n) xs ys h = all_left (λ q. bound_cmp (bound_of e) (quad_bound q) ≢ Greater) xs ys h

-- ---- what is behind

-- a record is above a place
abbrev pub Above : Bound → Quad → Type 0
Above pair r = takes After pair r ≡ true

-- a record is above a place, or not above this one
abbrev pub NotAbove : Bound → Quad → Quad → Type 0
NotAbove pair q r = takes After pair r ≡ false → IsBelow (quad_bound q) (quad_bound r) → ⊥

-- all records but those of the first n cells are above the place
pub record Behind (pair : Bound) (cells : List Entry) (n : ℕ) (p : PageMap) (level : ℕ) (quads : List Quad) : Type 0 where
  pub ahead : List Quad
  pub behind : List Quad
  pub all : quads ≡ ahead ++ behind
  pub above : All (Above pair) behind
  pub along : Along p level (take n cells) ahead

above_so : (o : Ordering) → is_sought After o ≡ true → o ≡ Greater
above_so Less h = absurd cc
above_so Equal h = absurd cc
above_so Greater h = refl

-- from a cell above the place on, all is above it
from_above : (pair b c : Bound) → is_sought After (bound_cmp b pair) ≡ true → bound_cmp b c ≢ Greater
    → is_sought After (bound_cmp c pair) ≡ true
from_above pair b c above from =
    greater_sought After _ (turned pair c Less (below_from pair b c (turned b pair Greater (above_so _ above)) from))

pub behind_cells : (p : PageMap) (level : ℕ) (pair : Bound) (cells : List Entry) (n : ℕ) (quads : List Quad)
    → Along p level cells quads → 0 < n → n ≤ length cells
    → ((k : ℕ) → n ≤ k → (e : Entry) → slice_get cells k ≡ Some e → seeks After pair e ≡ true) → Behind pair cells n p level quads
behind_cells p level pair cells zero quads h some le up = absurd (omega arith)
behind_cells p level pair [] (suc n) quads h some le up = absurd (omega arith)
behind_cells p level pair (e ∷ []) (suc zero) quads h some le up = record {
  ahead = h.here;
  behind = h.after;
  all = h.all;
  above = subst (λ (qs : List Quad). All (Above pair) qs) (sym h.others) (All-nil (Above pair));
  along = record {
    here = h.here;
    after = [];
    all = sym (append-nil h.here);
    child = h.child;
    low = h.low;
    high = h.high;
    slots = h.slots;
    leads = h.leads;
    tree = h.tree;
    under = tt;
    over = tt;
    rise = λ a there. All-nil (λ b. IsBelow (quad_bound a) (quad_bound b));
    others = refl;
  };
}
behind_cells p level pair (e ∷ (f ∷ es)) (suc zero) quads h some le up = record {
  ahead = h.here;
  behind = h.after;
  all = h.all;
  above = All-weaker (λ q. bound_cmp (bound_of f) (quad_bound q) ≢ Greater) (Above pair) (λ q from. from_above pair (bound_of f)
      (quad_bound q) (up 1 (omega arith) f refl) from) h.after h.over;
  along = record {
    here = h.here;
    after = [];
    all = sym (append-nil h.here);
    child = h.child;
    low = h.low;
    high = h.high;
    slots = h.slots;
    leads = h.leads;
    tree = h.tree;
    under = tt;
    over = tt;
    rise = λ a there. All-nil (λ b. IsBelow (quad_bound a) (quad_bound b));
    others = refl;
  };
}
behind_cells p level pair (e ∷ []) (suc (suc n)) quads h some le up = absurd (omega arith)
behind_cells p level pair (e ∷ (f ∷ es)) (suc (suc n)) quads h some le up =
    let more = behind_cells p level pair (f ∷ es) (suc n) h.after h.others (omega arith) (omega arith)
    (λ k from x at. up (suc k) (omega arith) x at) in
    record {
      ahead = h.here ++ more.ahead;
      behind = more.behind;
      all = h.all ∙ (ap (λ (qs : List Quad). h.here ++ qs) more.all ∙ sym (append_assoc h.here more.ahead more.behind));
      above = more.above;
      along = record {
        here = h.here;
        after = more.ahead;
        all = refl;
        child = h.child;
        low = h.low;
        high = h.high;
        slots = h.slots;
        leads = h.leads;
        tree = h.tree;
        under = h.under;
        over = over_take (f ∷ es) (suc n) more.ahead more.behind (subst (λ (qs : List Quad). OverNext (f ∷ es) qs) more.all
            h.over);
        rise = λ a there. all_left (λ b. IsBelow (quad_bound a) (quad_bound b)) more.ahead more.behind
            (subst (λ (qs : List Quad). All (λ b. IsBelow (quad_bound a) (quad_bound b)) qs) more.all (h.rise a there));
        others = more.along;
      };
    }

-- the child of the last of some cells, and those before it
pub record Final (p : PageMap) (level : ℕ) (cells : List Entry) (i : ℕ) (quads : List Quad) : Type 0 where
  pub before : List Quad
  pub here : List Quad
  pub all : quads ≡ before ++ here
  pub child : Slot
  pub low : Bound
  pub high : Option Bound
  pub slots : List Slot
  pub leads : LeadsAt cells i child
  pub tree : Subtree p level child low high here slots
  pub rise : (a : Quad) → Contains here a → All (λ b. IsBelow (quad_bound b) (quad_bound a)) before
  pub along : Along p level (take i cells) before

pub final_cell : (p : PageMap) (level : ℕ) (cells : List Entry) (i : ℕ) (quads : List Quad) → i < length cells
    → Along p level (take (suc i) cells) quads
    → Final p level cells i quads
final_cell p level [] i quads lt h = absurd (omega arith)
final_cell p level (e ∷ es) zero quads lt h = record {
  before = [];
  here = h.here;
  all = h.all ∙ (ap (λ (qs : List Quad). h.here ++ qs) h.others ∙ append-nil h.here);
  child = h.child;
  low = h.low;
  high = h.high;
  slots = h.slots;
  leads = record { cell = e; there = refl; leads = h.leads };
  tree = h.tree;
  rise = λ a there. All-nil (λ b. IsBelow (quad_bound b) (quad_bound a));
  along = refl;
}
final_cell p level (e ∷ []) (suc i) quads lt h = absurd (omega arith)
final_cell p level (e ∷ (f ∷ es)) (suc i) quads lt h =
    let more = final_cell p level (f ∷ es) i h.after (omega arith) h.others in
    record {
      before = h.here ++ more.before;
      here = more.here;
      all = h.all ∙ (ap (λ (qs : List Quad). h.here ++ qs) more.all ∙ sym (append_assoc h.here more.before more.here));
      child = more.child;
      low = more.low;
      high = more.high;
      slots = more.slots;
      leads = record { cell = more.leads.cell; there = more.leads.there; leads = more.leads.leads };
      tree = more.tree;
      rise = λ a there. All-append (λ b. IsBelow (quad_bound b) (quad_bound a)) h.here more.before
          (all_lower a h.here h.after h.rise (subst (λ (qs : List Quad). Contains qs a) (sym more.all)
          (Contains-append_right more.before more.here a there)))
          (more.rise a there);
      along = record {
        here = h.here;
        after = more.before;
        all = refl;
        child = h.child;
        low = h.low;
        high = h.high;
        slots = h.slots;
        leads = h.leads;
        tree = h.tree;
        under = under_take (f ∷ es) i h.here h.under;
        over = over_take (f ∷ es) i more.before more.here (subst (λ (qs : List Quad). OverNext (f ∷ es) qs) more.all h.over);
        rise = λ a there. all_left (λ b. IsBelow (quad_bound a) (quad_bound b)) more.before more.here
            (subst (λ (qs : List Quad). All (λ b. IsBelow (quad_bound a) (quad_bound b)) qs) more.all (h.rise a there));
        others = more.along;
      };
    }

last_of : (pair : Bound) (cells : List Entry) (i n : ℕ) → i < length cells → n ≡ suc i
    → (p : PageMap) (level : ℕ) (quads : List Quad)
    (h : Behind pair cells n p level quads) → Final p level cells i h.ahead
last_of pair cells i n lt is p level quads h = final_cell p level cells i h.ahead lt
    (subst (λ (m : ℕ). Along p level (take m cells) h.ahead) is h.along)

pub sees_back : (pair : Bound) (cells : List Entry) (i n : ℕ) → i < length cells → n ≡ suc i → Sees (Behind pair cells n) cells i
sees_back pair cells i n lt is p level quads h =
    let o = last_of pair cells i n lt is p level quads h in
    record { here = o.here; child = o.child; low = o.low; high = o.high; slots = o.slots; leads = o.leads; tree = o.tree }

false_true : (t : Bool) → t ≡ false → t ≡ true → ⊥
false_true t e f = cc

above_not : (pair : Bound) (q r : Quad) → Above pair r → NotAbove pair q r
above_not pair q r above = λ at_or_below up. false_true _ at_or_below above

pub hits_back : (pair : Bound) (cells : List Entry) (i n : ℕ) (lt : i < length cells) (is : n ≡ suc i) (p : PageMap) (level : ℕ)
    (quads : List Quad)
    (h : Behind pair cells n p level quads) (q : Quad) → IsFloor pair (sees_back pair cells i n lt is p level quads h).here
    (Some q) → IsFloor pair quads (Some q)
unfolding last_of sees_back
hits_back pair cells i n lt is p level quads h q found =
    let o = last_of pair cells i n lt is p level quads h in
    let whole : quads ≡ (o.before ++ o.here) ++ h.behind = h.all ∙ ap (λ (qs : List Quad). qs ++ h.behind) o.all in
    subst (λ (qs : List Quad). IsGreatest pair qs q) (sym whole) (record {
      among = Contains-append_left (o.before ++ o.here) h.behind q (Contains-append_right o.before o.here q found.among);
      at_or_below = found.at_or_below;
      greatest = All-append (NotAbove pair q) (o.before ++ o.here) h.behind
          (All-append (NotAbove pair q) o.before o.here
          (All-weaker (λ r. IsBelow (quad_bound r) (quad_bound q)) (NotAbove pair q) (λ r below. λ at_or_below up. not_both
          (quad_bound q) (quad_bound r) up below) o.before (o.rise q found.among))
          found.greatest)
          (All-weaker (Above pair) (NotAbove pair q) (λ r above. above_not pair q r above) h.behind h.above);
    })

pub passes_back : (pair : Bound) (cells : List Entry) (i n : ℕ) (lt : i < length cells) (is : n ≡ suc i) (m : ℕ) → m ≡ i
    → (p : PageMap) (level : ℕ) (quads : List Quad)
    (h : Behind pair cells n p level quads) → IsFloor pair (sees_back pair cells i n lt is p level quads h).here None
    → Behind pair cells m p level quads
unfolding last_of sees_back
passes_back pair cells i n lt is m at p level quads h none =
    let o = last_of pair cells i n lt is p level quads h in
    record {
      ahead = o.before;
      behind = o.here ++ h.behind;
      all = h.all ∙ (ap (λ (qs : List Quad). qs ++ h.behind) o.all ∙ append_assoc o.before o.here h.behind);
      above = All-append (Above pair) o.here h.behind none h.above;
      along = subst (λ (k : ℕ). Along p level (take k cells) o.before) (sym at) o.along;
    }

take_none : (cells : List Entry) → take 0 cells ≡ []
take_none [] = refl
take_none (c ∷ cells) = refl

pub ends_back : (pair : Bound) (cells : List Entry) (n : ℕ) → n ≡ 0 → (p : PageMap) (level : ℕ) (quads : List Quad)
    → Behind pair cells n p level quads → IsFloor pair quads None
ends_back pair cells n is p level quads h =
    let along : Along p level (take 0 cells) h.ahead = subst (λ (m : ℕ). Along p level (take m cells) h.ahead) is h.along in
    let none : h.ahead ≡ [] = subst (λ (es : List Entry). Along p level es h.ahead) (take_none cells) along in
    subst (λ (qs : List Quad). All (Above pair) qs) (sym (h.all ∙ ap (λ (qs : List Quad). qs ++ h.behind) none)) h.above

pub starts_back : (pair : Bound) (state : PageState) (content : Content) (past n : ℕ) → 0 < past
    → BeginsAt After pair content.cells past → n ≡ past
    → Passing (Behind pair content.cells n) state state content
starts_back pair state content past n some begins is = record {
  only = only_same state;
  passed = λ level above under quads part.
      subst (λ (m : ℕ). Behind pair content.cells m (over state.writes under) level quads) (sym is)
      (behind_cells (over state.writes under) level pair content.cells past quads
      (along_part state content under quads level above part) some begins.within begins.after);
}

-- the first cell of an inner page lies at or below every place
not_above : (o : Ordering) → o ≢ Greater → is_sought After o ≡ false
not_above Less h = refl
not_above Equal h = refl
not_above Greater h = absurd (h refl)

least_first : (pair : Bound) → is_sought After (bound_cmp (record { key = []; birth = 0 }) pair) ≡ false
least_first pair = not_above _ (by_key pair.key)
  where
    by_birth : (birth : ℕ) → nat_cmp 0 birth ≢ Greater
    by_birth birth = by_ranked (0 < birth) (0 ≡ birth) (birth < 0) (nat_cmp 0 birth) (ranked 0 birth (nat_cmp 0 birth) refl)
        (λ is _. λ f. cc)
        (λ is _. λ f. cc)
        (λ is lt. absurd (omega arith))

    by_key : (key : List ℕ) → bound_cmp (record { key = []; birth = 0 }) (record { key = key; birth = pair.birth }) ≢ Greater
    by_key [] = by_birth pair.birth
    by_key (k ∷ ks) = λ f. cc

same_bound : (key : List ℕ) (birth : ℕ) → key ≡ [] → birth ≡ 0 → (let made : Bound = record { key = key; birth = birth } in
    made) ≡ record { key = []; birth = 0 }
same_bound key birth k b = ap (λ (x : List ℕ). let made : Bound = record { key = x; birth = birth } in made) k
    ∙ ap (λ (n : ℕ). let made : Bound = record { key = []; birth = n } in made) b

pub some_before : (pair : Bound) (content : Content) (past : ℕ) → content.level ≢ 0 → IsPage content
    → BeginsAt After pair content.cells past → 0 < past
some_before pair content past inner rules begins = at_cells content.level content.cells past inner rules.cells
    (rules.least (omega (arith, inner))) begins
  where
    at_cells : (level : ℕ) (cells : List Entry) (past : ℕ) → level ≢ 0 → AreCells (level == 0) None cells → 2 ≤ length cells
        → BeginsAt After pair cells past → 0 < past
    at_cells zero cells past isnt h le b = absurd (isnt refl)
    at_cells (suc level) [] past isnt h le b = absurd (omega arith)
    at_cells (suc level) (c ∷ cells) (suc past) isnt h le b = omega arith
    at_cells (suc level) (c ∷ cells) zero isnt h le b =
        let first : Follows false None c = subst (λ (t : Bool). Follows t None c) (is_inner level) h.1.0 in
        let bound : bound_of c ≡ record { key = []; birth = 0 } = same_bound c.key c.birth first.0 first.1 in
        let above = b.after 0 (omega arith) c refl in
        absurd (false_true _ (least_first pair) (subst (λ (x : Bound). is_sought After (bound_cmp x pair) ≡ true) bound above))

-- ---- a leaf

pub final_found : (pair : Bound) (quads : List Quad) (found : Option Quad) → AreCells true None (map quad_cell quads)
    → IsFinal pair (map quad_cell quads) found → IsFloor pair quads found
final_found pair quads None rules h = all_cells (Above pair) quads (λ k r at. h.after k (omega arith) (quad_cell r) at)
final_found pair quads (Some q) rules h = record {
  among = among_cells quads h.0 q h.2;
  at_or_below = h.1.before h.0 (omega arith) (quad_cell q) h.2;
  greatest = all_cells (NotAbove pair q) quads (λ k r at. ⊎_elim
      (λ lt. λ at_or_below up. not_both (quad_bound q) (quad_bound r) up (cells_rise true None (map quad_cell quads) k h.0
      (quad_cell r) (quad_cell q) rules lt at h.2))
      (λ le. ⊎_elim
      (λ gt. λ at_or_below up. false_true _ at_or_below (h.1.after k (omega arith) (quad_cell r) at))
      (λ ge. λ at_or_below up. itself k r (omega arith) at up)
      (cases_lt h.0 k))
      (cases_lt k h.0));
}
  where
    itself : (k : ℕ) (r : Quad) → k ≡ h.0 → slice_get (map quad_cell quads) k ≡ Some (quad_cell r)
        → IsBelow (quad_bound q) (quad_bound r) → ⊥
    itself k r is at up =
        let at_q : slice_get (map quad_cell quads) k ≡ Some (quad_cell q) =
        subst (λ (n : ℕ). slice_get (map quad_cell quads) n ≡ Some (quad_cell q)) (sym is) h.2 in
        let cell : quad_cell r ≡ quad_cell q = cc in
        let same : r ≡ q = same_quad r q cell in
        let below_itself : IsBelow (quad_bound q) (quad_bound q) = subst (λ (x : Quad). IsBelow (quad_bound q) (quad_bound x))
        same up in
        not_both (quad_bound q) (quad_bound q) below_itself below_itself

pub at_leaf_back : (pair : Bound) (state : PageState) (content : Content) (result : Result (Option Quad) PairFault)
    → content.level ≡ 0
    → IfOk result (λ found. IsFinal pair content.cells found) → IfErr result (λ fault. IsLeafFault content.cells fault)
    → Walks (IsFloor pair) state state content result
at_leaf_back pair state content (Ok found) is h k = record {
  only = only_same state;
  answer = λ under quads part.
      let cells = leaf_cells state content under quads is part in
      final_found pair quads found cells.1 (subst (λ (es : List Entry). IsFinal pair es found) cells.0 h);
}
at_leaf_back pair state content (Err Odd) is h k = record {
  only = only_same state;
  answer = λ under quads part. k quads (leaf_cells state content under quads is part).0;
}
at_leaf_back pair state content (Err HeightFull) is h k = absurd k
at_leaf_back pair state content (Err (Page fault)) is h k = record { only = only_same state; answer = λ isnt. absurd (isnt k) }
