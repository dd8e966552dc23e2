-- A page with edited records that is divided into two.
use Rattle.std.proofs.Common.{◌≡◌, ◌≢◌, ⊎_elim, ℕ, zero, suc, ◌+◌, ◌-◌, ◌<◌, ◌≤◌, Bool, true, false, List, [], ◌∷◌, ◌++◌, map}
use Rattle.std.proofs.Common.{length, take, drop, Option, Some, None, refl, sym, ap, subst, ◌∙◌, arith, append_assoc}
use Rattle.std.specs.Prelude.{◌==◌, slice_get}
use Rattle.std.proofs.lemmas.Bool.{cases_lt}
use Rattle.std.proofs.lemmas.List.{take-append-drop, length-map, length-take-le}
use Rattle.std.proofs.lemmas.Cmp.{tied_itself}
use Rattle.std.specs.declared.cmp.Ordering.TheVariants.{Equal, Greater}
use Rattle.pair_types.specs.declared.slot.Slot.{Slot}
use Rattle.pair_types.specs.declared.quad.Quad.{Quad}
use Rattle.pair_types.specs.PageMaps.{PageMap, over}
use Rattle.pair_types.specs.PageState.{PageState}
use Rattle.btree_page.specs.Content.{Bound, bound_cmp, IsBelow, Entry, Content, bound_of, AreCells, inner_entry}
use Rattle.btree_page.specs.Tree.{IsIn, AllIn, Among, quad_bound, quad_cell, Child, child_cell, Kids, Subtree, least}
use Rattle.btree_page.proofs.Trees.{among_left, among_right, among_either}
use Rattle.btree_search.proofs.Order.{bound_total, cells_rise}
use Rattle.btree_search.proofs.Ranges.{is_inner}
use Rattle.btree_edit.specs.declared.change.Change.{Change}
use Rattle.btree_edit.specs.Edited.{Room, room_in, Frame}
use Rattle.btree_edit.specs.Made.{size, behind, IsNearly, IsSplit}
use Rattle.btree_edit.specs.Changes.{pair_of, edit_of, given_of, open_of}
use Rattle.btree_edit.specs.Below.{BearsRecords, BearsKids, Changed, ChangesTo, Parted, Grows, Divides}
use Rattle.btree_edit.proofs.Least.{up_to, less_not_greater}
use Rattle.btree_edit.proofs.Lists.{at_place}
use Rattle.btree_edit.proofs.Parting.{small_cells, map_take, map_drop, above_least, drop_there}

-- ---- children of two pages

pub record TwoKids (q : PageMap) (level : ℕ) (front : List Child) (s : Child) (rest : List Child) (first : Slot) (low : Bound)
    (high : Option Bound) (quads : List Quad) (slots : List Slot) : Type 0 where
  pub quads_left : List Quad
  pub quads_right : List Quad
  pub slots_left : List Slot
  pub slots_right : List Slot
  pub left : Kids (Subtree q level) first low front (Some s.bound) quads_left slots_left
  pub right : Kids (Subtree q level) s.slot s.bound rest high quads_right slots_right
  pub all_quads : quads ≡ quads_left ++ quads_right
  pub all_slots : slots ≡ slots_left ++ slots_right
  pub apart : (t : Slot) → Among t slots_left → Among t slots_right → ⊥

pub split_kids : (q : PageMap) (level : ℕ) (front : List Child) (s : Child) (rest : List Child) (first : Slot) (low : Bound)
    (high : Option Bound) (quads : List Quad) (slots : List Slot)
    → Kids (Subtree q level) first low (front ++ (s ∷ rest)) high quads slots → TwoKids q level front s rest first low high quads
    slots
split_kids q level [] s rest first low high quads slots h = record {
  quads_left = h.quads_left;
  quads_right = h.quads_right;
  slots_left = h.slots_left;
  slots_right = h.slots_right;
  left = h.left;
  right = h.right;
  all_quads = h.all_quads;
  all_slots = h.all_slots;
  apart = h.apart.none;
}
split_kids q level (f ∷ front) s rest first low high quads slots h =
    let r = split_kids q level front s rest f.slot f.bound high h.quads_right h.slots_right h.right in
    let in_left : (t : Slot) → Among t r.slots_left → Among t h.slots_right = λ t there. subst (λ (ss : List Slot). Among t ss)
    (sym r.all_slots) (among_left t r.slots_left r.slots_right there) in
    let in_right : (t : Slot) → Among t r.slots_right → Among t h.slots_right = λ t there. subst (λ (ss : List Slot). Among t ss)
    (sym r.all_slots) (among_right t r.slots_left r.slots_right there) in
    record {
      quads_left = h.quads_left ++ r.quads_left;
      quads_right = r.quads_right;
      slots_left = h.slots_left ++ r.slots_left;
      slots_right = r.slots_right;
      left = record {
        quads_left = h.quads_left;
        quads_right = r.quads_left;
        slots_left = h.slots_left;
        slots_right = r.slots_left;
        left = h.left;
        right = r.left;
        all_quads = refl;
        all_slots = refl;
        apart = record { none = λ t l there. h.apart.none t l (in_left t there) };
      };
      right = r.right;
      all_quads = h.all_quads ∙ (ap (λ (qs : List Quad). h.quads_left ++ qs) r.all_quads
          ∙ sym (append_assoc h.quads_left r.quads_left r.quads_right));
      all_slots = h.all_slots ∙ (ap (λ (ss : List Slot). h.slots_left ++ ss) r.all_slots
          ∙ sym (append_assoc h.slots_left r.slots_left r.slots_right));
      apart = λ t there right. ⊎_elim (λ l. h.apart.none t l (in_right t right)) (λ l. r.apart t l right)
          (among_either t h.slots_left r.slots_left there);
    }

-- ---- ranges of two pages

allin_front : (low : Bound) (high : Option Bound) (bound : Bound) (bs : List Bound) (at : ℕ) → AllIn low high bs
    → ((k : ℕ) (b : Bound) → k < at → slice_get bs k ≡ Some b → IsBelow b bound) → AllIn low (Some bound) (take at bs)
allin_front low high bound bs zero h below = tt
allin_front low high bound [] (suc at) h below = tt
allin_front low high bound (b ∷ bs) (suc at) h below = (
  record { from = h.0.from; to = λ end is. ended end is },
  allin_front low high bound bs at h.1
      (λ k c lt there. below (suc k) c (omega arith) there),
)
  where
    ended : (end : Bound) → Some bound ≡ Some end → IsBelow b end
    ended end is =
        let same : bound ≡ end = cc in subst (λ (x : Bound). IsBelow b x) same (below 0 b (omega arith) refl)

allin_back : (low : Bound) (high : Option Bound) (bound : Bound) (bs : List Bound) (at : ℕ) → AllIn low high bs
    → ((k : ℕ) (b : Bound) → at ≤ k → slice_get bs k ≡ Some b → bound_cmp bound b ≢ Greater) → AllIn bound high (drop at bs)
allin_back low high bound [] zero h above = tt
allin_back low high bound [] (suc at) h above = tt
allin_back low high bound (b ∷ bs) zero h above = (
  record { from = above 0 b (omega arith) refl; to = h.0.to },
  allin_back low high bound bs zero h.1
      (λ k c le there. above (suc k) c (omega arith) there),
)
allin_back low high bound (b ∷ bs) (suc at) h above =
    allin_back low high bound bs at h.1 (λ k c le there. above (suc k) c (omega arith) there)

pub allin_at : (low : Bound) (high : Option Bound) (bs : List Bound) (k : ℕ) (b : Bound) → AllIn low high bs
    → slice_get bs k ≡ Some b → IsIn low high b
allin_at low high [] k b h there = absurd cc
allin_at low high (c ∷ bs) zero b h there =
    let same : c ≡ b = cc in subst (λ (x : Bound). IsIn low high x) same h.0
allin_at low high (c ∷ bs) (suc k) b h there = allin_at low high bs k b h.1 there

cell_there : (cells : List Entry) (k : ℕ) (b : Bound) → slice_get (map bound_of cells) k ≡ Some b → (e : Entry)
    × (slice_get cells k ≡ Some e) × (bound_of e ≡ b)
cell_there [] k b h = absurd cc
cell_there (c ∷ cells) zero b h =
    let same : bound_of c ≡ b = cc in (c, refl, same)
cell_there (c ∷ cells) (suc k) b h = cell_there cells k b h

bound_there : (cells : List Entry) (k : ℕ) (e : Entry) → slice_get cells k ≡ Some e → slice_get (map bound_of cells) k ≡ Some
    (bound_of e)
bound_there [] k e h = absurd cc
bound_there (c ∷ cells) zero e h =
    let same : c ≡ e = cc in ap (λ (x : Entry). Some (bound_of x)) same
bound_there (c ∷ cells) (suc k) e h = bound_there cells k e h

-- the bounds of cells before and from a place on
below_edge : (is_leaf : Bool) (cells : List Entry) (at : ℕ) (edge : Entry) → AreCells is_leaf None cells
    → slice_get cells at ≡ Some edge
    → (k : ℕ) (b : Bound) → k < at → slice_get (map bound_of cells) k ≡ Some b → IsBelow b (bound_of edge)
below_edge is_leaf cells at edge rules there k b lt h =
    let x = cell_there cells k b h in
    subst (λ (y : Bound). IsBelow y (bound_of edge)) x.2 (cells_rise is_leaf None cells k at x.0 edge rules lt x.1 there)

from_edge : (is_leaf : Bool) (cells : List Entry) (at : ℕ) (edge : Entry) → AreCells is_leaf None cells
    → slice_get cells at ≡ Some edge
    → (k : ℕ) (b : Bound) → at ≤ k → slice_get (map bound_of cells) k ≡ Some b → bound_cmp (bound_of edge) b ≢ Greater
from_edge is_leaf cells at edge rules there k b le h =
    let x = cell_there cells k b h in
    subst (λ (y : Bound). bound_cmp (bound_of edge) y ≢ Greater) x.2 (⊎_elim
    (λ lt. less_not_greater _ (cells_rise is_leaf None cells at k edge x.0 rules lt there x.1))
    (λ ge. itself x.0 x.1 (omega arith))
    (cases_lt at k))
  where
    itself : (e : Entry) → slice_get cells k ≡ Some e → k ≡ at → bound_cmp (bound_of edge) (bound_of e) ≢ Greater
    itself e here is =
        let same_place : slice_get cells at ≡ Some e = subst (λ (n : ℕ). slice_get cells n ≡ Some e) is here in
        let same : edge ≡ e = cc in
        let tied : bound_cmp (bound_of edge) (bound_of edge) ≡ Equal = tied_itself bound_total (bound_of edge) in
        subst (λ (y : Entry). bound_cmp (bound_of edge) (bound_of y) ≢ Greater) same (λ f. cc)

bounds_of_quads : (quads : List Quad) → map bound_of (map quad_cell quads) ≡ map quad_bound quads
bounds_of_quads [] = refl
bounds_of_quads (q ∷ qs) = ap (λ (bs : List Bound). quad_bound q ∷ bs) (bounds_of_quads qs)

bounds_of_children : (rest : List Child) → map bound_of (map child_cell rest) ≡ map (λ c. c.bound) rest
bounds_of_children [] = refl
bounds_of_children (c ∷ cs) = ap (λ (bs : List Bound). c.bound ∷ bs) (bounds_of_children cs)

behind_quads : (quads : List Quad) → behind (map quad_cell quads) ≡ map quad_cell quads
behind_quads [] = refl
behind_quads (q ∷ qs) = refl

within_list : {A : Type 0} (xs : List A) (k : ℕ) (x : A) → slice_get xs k ≡ Some x → k < length xs
within_list [] k x h = absurd cc
within_list (y ∷ xs) zero x h = omega arith
within_list (y ∷ xs) (suc k) x h = omega (arith, within_list xs k x h)

one_there : {A : Type 0} (xs : List A) (k : ℕ) (x y : A) → slice_get xs k ≡ Some x → slice_get xs k ≡ Some y → x ≡ y
one_there xs k x y h g = cc

child_there : (rest : List Child) (k : ℕ) (c : Child) → slice_get rest k ≡ Some c → slice_get (map child_cell rest) k ≡ Some
    (child_cell c)
child_there [] k c h = absurd cc
child_there (d ∷ rest) zero c h =
    let same : d ≡ c = cc in ap (λ (x : Child). Some (child_cell x)) same
child_there (d ∷ rest) (suc k) c h = child_there rest k c h

child_bound : (rest : List Child) (k : ℕ) (c : Child) → slice_get rest k ≡ Some c
    → slice_get (map (λ c. c.bound) rest) k ≡ Some c.bound
child_bound [] k c h = absurd cc
child_bound (d ∷ rest) zero c h =
    let same : d ≡ c = cc in ap (λ (x : Child). Some x.bound) same
child_bound (d ∷ rest) (suc k) c h = child_bound rest k c h

some_first : {A : Type 0} (xs : List A) → 0 < length xs → (x : A) × (slice_get xs 0 ≡ Some x)
some_first [] lt = absurd (omega arith)
some_first (x ∷ xs) lt = (x, refl)

-- ---- the two pages

pub parted : (Edit : List Quad → List Quad → Type 0) (store : Option Room) (stores : ℕ) (p q : PageMap) (level : ℕ)
    (cells : List Entry) (low : Bound) (high : Option Bound) (quads : List Quad) (below : List Slot)
    (at : ℕ) (edge : Entry) → Changed Edit store stores p q level cells low high quads below → AreCells (level == 0) None cells
    → 0 < at → (0 < level → 2 ≤ at) → slice_get cells at ≡ Some edge
    → Parted Edit store stores p q level (take at cells) (bound_of edge) (behind (drop at cells)) low high quads below
parted Edit store stores p q zero cells low high quads below at edge c rules some more there =
    let b = c.bears in
    let bounds : map bound_of cells ≡ map quad_bound c.after = ap (λ (es : List Entry). map bound_of es) b.records
    ∙ bounds_of_quads c.after in
    let within : AllIn low high (map bound_of cells) = subst (λ (bs : List Bound). AllIn low high bs) (sym bounds) b.within in
    let first = some_first cells (omega (arith, within_list cells at edge there)) in
    let front : AllIn low (Some (bound_of edge)) (take at (map bound_of cells)) =
    allin_front low high (bound_of edge) (map bound_of cells) at within (below_edge true cells at edge rules there) in
    let back : AllIn (bound_of edge) high (drop at (map bound_of cells)) =
    allin_back low high (bound_of edge) (map bound_of cells) at within (from_edge true cells at edge rules there) in
    let left : BearsRecords (take at cells) low (Some (bound_of edge)) (take at c.after) [] = record {
      records = ap (λ (es : List Entry). take at es) b.records ∙ sym (map_take quad_cell at c.after);
      within = subst (λ (bs : List Bound). AllIn low (Some (bound_of edge)) bs) (ap (λ (bs : List Bound). take at bs) bounds
          ∙ sym (map_take quad_bound at c.after)) front;
      nothing = refl;
    } in
    let dropped : drop at cells ≡ map quad_cell (drop at c.after) = ap (λ (es : List Entry). drop at es) b.records
    ∙ sym (map_drop quad_cell at c.after) in
    let right : BearsRecords (behind (drop at cells)) (bound_of edge) high (drop at c.after) [] = record {
      records = ap behind dropped ∙ behind_quads (drop at c.after);
      within = subst (λ (bs : List Bound). AllIn (bound_of edge) high bs) (ap (λ (bs : List Bound). drop at bs) bounds
          ∙ sym (map_drop quad_bound at c.after)) back;
      nothing = refl;
    } in
    record {
      after_left = take at c.after;
      after_right = drop at c.after;
      reached_left = [];
      reached_right = [];
      edit = subst (λ (qs : List Quad). Edit quads qs) (sym (take-append-drop at c.after)) c.edit;
      in_stores = c.in_stores;
      above = up_to low (bound_of first.0) (bound_of edge) (allin_at low high (map bound_of cells) 0 (bound_of first.0) within
          (bound_there cells 0 first.0 first.1)).from (cells_rise true None cells 0 at first.0 edge rules some first.1 there);
      inside = allin_at low high (map bound_of cells) at (bound_of edge) within (bound_there cells at edge there);
      left = left;
      right = right;
      apart = λ s l r. l;
      frame = subst (λ (ss : List Slot). Frame store p q below ss) b.nothing c.frame;
    }
parted Edit store stores p q (suc level) cells low high quads below zero edge c rules some more there = absurd (omega arith)
parted Edit store stores p q (suc level) cells low high quads below (suc i) edge c rules some more there =
    let b = c.bears in
    let inner : (suc level == 0) ≡ false = is_inner level in
    let are : AreCells false None cells = subst (λ (t : Bool). AreCells t None cells) inner rules in
    let there' : slice_get (map child_cell b.rest) i ≡ Some edge = subst (λ (es : List Entry). slice_get es (suc i) ≡ Some edge)
    b.children there in
    let lt : i < length b.rest = omega (arith, within_list (map child_cell b.rest) i edge there', length-map b.rest child_cell) in
    let x = at_place b.rest i lt in
    let is_edge : child_cell x.0 ≡ edge = one_there (map child_cell b.rest) i (child_cell x.0) edge (child_there b.rest i x.0 x.1)
    there' in
    let bound : x.0.bound ≡ bound_of edge = ap (λ (e : Entry). bound_of e) is_edge in
    let kids = split_kids q level (take i b.rest) x.0 (drop (suc i) b.rest) b.first low high c.after c.reached
    (subst (λ (cs : List Child). Kids (Subtree q level) b.first low cs high c.after c.reached) x.2 b.kids) in
    let bounds : map bound_of cells ≡ record { key = []; birth = 0 } ∷ map (λ c. c.bound) b.rest =
    ap (λ (es : List Entry). map bound_of es) b.children ∙ ap (λ (bs : List Bound). let made : Bound =
    record { key = []; birth = 0 } in made ∷ bs) (bounds_of_children b.rest) in
    let low_side : (k : ℕ) (y : Bound) → k < i → slice_get (map (λ c. c.bound) b.rest) k ≡ Some y → IsBelow y (bound_of edge) =
    λ k y k_lt h. below_edge false cells (suc i) edge are there (suc k) y (omega arith)
    (subst (λ (bs : List Bound). slice_get bs (suc k) ≡ Some y) (sym bounds) h) in
    let high_side : (k : ℕ) (y : Bound) → suc i ≤ k → slice_get (map (λ c. c.bound) b.rest) k ≡ Some y
    → bound_cmp (bound_of edge) y ≢ Greater =
    λ k y le h. from_edge false cells (suc i) edge are there (suc k) y (omega arith)
    (subst (λ (bs : List Bound). slice_get bs (suc k) ≡ Some y) (sym bounds) h) in
    let first = some_first b.rest (omega arith) in
    let at_first : slice_get (map (λ c. c.bound) b.rest) 0 ≡ Some first.0.bound = child_bound b.rest 0 first.0 first.1 in
    let front : AllIn low (Some (bound_of edge)) (take i (map (λ c. c.bound) b.rest)) =
    allin_front low high (bound_of edge) (map (λ c. c.bound) b.rest) i b.within low_side in
    let back : AllIn (bound_of edge) high (drop (suc i) (map (λ c. c.bound) b.rest)) =
    allin_back low high (bound_of edge) (map (λ c. c.bound) b.rest) (suc i) b.within high_side in
    let left : BearsKids (Subtree q level) (take (suc i) cells) low (Some (bound_of edge)) kids.quads_left kids.slots_left =
    record {
      first = b.first;
      rest = take i b.rest;
      children = ap (λ (es : List Entry). take (suc i) es) b.children ∙ ap (λ (es : List Entry). inner_entry [] 0 b.first ∷ es)
          (sym (map_take child_cell i b.rest));
      within = subst (λ (bs : List Bound). AllIn low (Some (bound_of edge)) bs) (sym (map_take (λ c. c.bound) i b.rest)) front;
      kids = subst (λ (y : Bound). Kids (Subtree q level) b.first low (take i b.rest) (Some y) kids.quads_left kids.slots_left)
          bound kids.left;
    } in
    let dropped : drop (suc i) cells ≡ child_cell x.0 ∷ map child_cell (drop (suc i) b.rest) =
    ap (λ (es : List Entry). drop (suc i) es) b.children
    ∙ (sym (map_drop child_cell i b.rest) ∙ ap (λ (cs : List Child). map child_cell cs) (drop_there b.rest i x.0 x.1)) in
    let right : BearsKids (Subtree q level) (behind (drop (suc i) cells)) (bound_of edge) high kids.quads_right kids.slots_right =
    record {
      first = x.0.slot;
      rest = drop (suc i) b.rest;
      children = ap behind dropped;
      within = subst (λ (bs : List Bound). AllIn (bound_of edge) high bs) (sym (map_drop (λ c. c.bound) (suc i) b.rest)) back;
      kids = subst (λ (y : Bound). Kids (Subtree q level) x.0.slot y (drop (suc i) b.rest) high kids.quads_right kids.slots_right)
          bound kids.right;
    } in
    record {
      after_left = kids.quads_left;
      after_right = kids.quads_right;
      reached_left = kids.slots_left;
      reached_right = kids.slots_right;
      edit = subst (λ (qs : List Quad). Edit quads qs) kids.all_quads c.edit;
      in_stores = c.in_stores;
      above = up_to low first.0.bound (bound_of edge) (allin_at low high (map (λ c. c.bound) b.rest) 0 first.0.bound b.within
          at_first).from (low_side 0 first.0.bound (omega (arith, more (omega arith))) at_first);
      inside = subst (λ (y : Bound). IsIn low high y) bound (allin_at low high (map (λ c. c.bound) b.rest) i x.0.bound b.within
          (child_bound b.rest i x.0 x.1));
      left = left;
      right = right;
      apart = kids.apart;
      frame = subst (λ (ss : List Slot). Frame store p q below ss) kids.all_slots c.frame;
    }

-- ---- a page that has no room

inner_few : (level : ℕ) (cells : List Entry) → 0 < level → AreCells (level == 0) None cells → 8188 < size cells
    → 29 ≤ length cells
inner_few level cells up rules full =
    omega (arith, small_cells None cells (subst (λ (t : Bool). AreCells t None cells) (not_leaf level up) rules))
  where
    not_leaf : (n : ℕ) → 0 < n → (n == 0) ≡ false
    not_leaf n lt =
        let is : n ≡ suc (n - 1) = omega arith in ap (λ (m : ℕ). m == 0) is ∙ is_inner (n - 1)

edge_key : (is_leaf : Bool) (before : Option Bound) (cells : List Entry) (at : ℕ) (e : Entry) → AreCells is_leaf before cells
    → slice_get cells at ≡ Some e → length e.key ≤ 264
edge_key is_leaf before [] at e h there = absurd cc
edge_key is_leaf before (c ∷ cells) zero e h there =
    let same : c ≡ e = cc in subst (λ (x : Entry). length x.key ≤ 264) same h.0.key
edge_key is_leaf before (c ∷ cells) (suc at) e h there = edge_key is_leaf (Some (bound_of c)) cells at e h.1.1 there

pub divided : (change : Change) (store : ℕ) (a z : PageState) (content : Content) (cells : List Entry) (left : List ℕ)
    (bound : Bound) (right : List ℕ)
    → ChangesTo (edit_of change) (given_of change) (open_of change store) (pair_of change) a z content cells
    → IsNearly content.level cells → IsSplit content.level cells left bound right
    → Grows change a z content → length cells ≤ length content.cells + 1 → Divides change store a z content left bound right
divided change store a z content cells left bound right changes near split grows few =
    let x = at_place cells split.at split.within in
    let is : bound_of x.0 ≡ bound = split.edge x.0 x.1 in
    record {
      front = take split.at cells;
      back = behind (drop split.at cells);
      left_page = split.left_page;
      right_page = split.right_page;
      key = subst (λ (b : Bound). length b.key ≤ 264) is (edge_key (content.level == 0) None cells split.at x.0 near.rules x.1);
      above = subst (λ (b : Bound). IsBelow least b) is (above_least (content.level == 0) cells split.at x.0 near.rules split.some
          x.1);
      many = λ up. omega (arith, inner_few content.level cells up near.rules split.full);
      grows = grows;
      parts = λ under low high quads below met.
          subst (λ (b : Bound). Parted (edit_of change) (room_in (open_of change store) a) z.stores (over a.writes under)
          (over z.writes under) content.level (take split.at cells) b (behind (drop split.at cells)) low high quads below) is
          (parted (edit_of change) (room_in (open_of change store) a) z.stores (over a.writes under) (over z.writes under)
          content.level cells low high quads below split.at x.0
          (changes under low high quads below met) near.rules split.some
          (λ up. omega (arith, split.left_page.rules.least up, length-take-le split.at cells (omega (arith, split.within)))) x.1);
    }
