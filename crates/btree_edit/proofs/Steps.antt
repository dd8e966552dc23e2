-- What each step of an edit makes of its answer.
use Rattle.std.proofs.Common.{◌≡◌, ◌≢◌, ◌⊎◌, unwrap_or, ⊎_elim, inl, inr, ℕ, zero, suc, ◌-◌, ◌+◌, ◌<◌, ◌≤◌, true, List, [], ◌∷◌}
use Rattle.std.proofs.Common.{◌++◌, map, length, take, drop, set, Option, Some, None, IsSome, Ok, Err, Result, refl, sym, ap}
use Rattle.std.proofs.Common.{subst, ◌∙◌, arith, append_assoc}
use Rattle.std.specs.Prelude.{All, slice_get}
use Rattle.std.specs.List.{remove, insert}
use Rattle.std.proofs.lemmas.Bool.{cases_lt}
use Rattle.std.proofs.lemmas.List.{length-set, map-set, set_split, take-append-drop}
use Rattle.std.proofs.lemmas.List.Elements.{All-nil, All-cons, All-append}
use Rattle.std.proofs.lemmas.List.Edits.{length-remove, length-insert}
use Rattle.pair_types.specs.declared.slot.Slot.{Slot}
use Rattle.pair_types.specs.declared.quad.Quad.{Quad}
use Rattle.pair_types.specs.declared.fault.PageFault.{PageFault}
use Rattle.pair_types.specs.declared.fault.PairFault.{PairFault}
use Rattle.pair_types.specs.declared.fault.PairFault.TheVariants.{Odd, HeightFull, Page as PageGave}
use Rattle.pair_types.specs.PageMaps.{PageMap, laid, over, latest, page_of}
use Rattle.pair_types.specs.PageState.{PageState, Reads, Writes, GivesUp, no_memory}
use Rattle.btree_page.specs.Content.{Bound, IsBelow, Body, Carries, Leads, FitsBody, Entry, Content, Spells, AreCells}
use Rattle.btree_page.specs.Content.{inner_entry, bound_of}
use Rattle.btree_page.specs.Tree.{IsIn, AllIn, Among, quad_bound, quad_cell, child_cell}
use Rattle.btree_page.proofs.Trees.{has_one_content}
use Rattle.btree_page.proofs.Built.{leaf_size}
use Rattle.btree_search.specs.declared.aim.Aim.TheVariants.{After}
use Rattle.btree_search.specs.Find.{BeginsAt}
use Rattle.btree_search.specs.Found.{OnlyReads, HasCause}
use Rattle.btree_search.specs.Walk.{InStores, IsShown, LeadsAt, HasNoChild}
use Rattle.btree_search.specs.Way.{EndsAt, Goes}
use Rattle.btree_search.proofs.Order.{cells_rise}
use Rattle.btree_search.proofs.Ways.{step, shown_within}
use Rattle.btree_search.proofs.Parts.{not_both}
use Rattle.btree_search.proofs.Walks.{odd_cause, cause_later, agrees_before}
use Rattle.btree_edit.specs.declared.change.Change.{Change}
use Rattle.btree_edit.specs.declared.change.Change.TheVariants.{Remove, End, Replace, Insert}
use Rattle.btree_edit.specs.declared.outcome.Edited.{Edited}
use Rattle.btree_edit.specs.declared.outcome.Edited.TheVariants.{Missing, Below, Page, Two}
use Rattle.btree_edit.specs.Edits.{bound_at, Nothing, Lacks, Removes, Ends, Replaces, Inserts}
use Rattle.btree_edit.specs.Edited.{Room, room_in, GoesOn}
use Rattle.btree_edit.specs.Made.{size, IsNearly, IsSplit}
use Rattle.btree_edit.specs.Changes.{ended, pair_of, edit_of, given_of, open_of, Answers, cells_edit, misses_of, refusal_of}
use Rattle.btree_edit.specs.Changes.{EditsLeaf}
use Rattle.btree_edit.specs.Below.{Bears, BearsRecords, IsMet, Changed, ChangesTo, LacksBelow, IsNotMet, StaysFrom, Grows, Finds}
use Rattle.btree_edit.specs.Below.{FindsBelow, IsEdited, EditsBelow}
use Rattle.btree_edit.proofs.Lists.{at_place, map_remove}
use Rattle.btree_edit.proofs.Opened.{slot_cases}
use Rattle.btree_edit.proofs.Placed.{size_swap, fits_there}
use Rattle.btree_edit.proofs.Divided.{divided}
use Rattle.btree_edit.proofs.Rebuilt.{IsLocal, not_open, rebuilt, changed_before}
use Rattle.btree_edit.proofs.States.{goes_same, goes_only, goes_then, goes_write, goes_gives_up, over_put, in_stores_put}
use Rattle.btree_edit.proofs.States.{reads_latest, sought, child_read, MetChild, IsPartial, met_child}

-- ---- a leaf

lacks_cells : (pair : Bound) (quads : List Quad) → All (λ e. bound_of e ≢ pair) (map quad_cell quads) → Lacks pair quads
lacks_cells pair [] h = All-nil (λ r. quad_bound r ≢ pair)
lacks_cells pair (q ∷ qs) h = All-cons (λ r. quad_bound r ≢ pair) q qs (h 0 (quad_cell q) (omega arith))
    (lacks_cells pair qs (λ k d lt. h (suc k) d (omega arith)))

cells_lack : (pair : Bound) (quads : List Quad) → Lacks pair quads → All (λ e. bound_of e ≢ pair) (map quad_cell quads)
cells_lack pair [] h = All-nil (λ e. bound_of e ≢ pair)
cells_lack pair (q ∷ qs) h = All-cons (λ e. bound_of e ≢ pair) (quad_cell q) (map quad_cell qs) (h 0 q (omega arith))
    (cells_lack pair qs (λ k d lt. h (suc k) d (omega arith)))

all_removed : (low : Bound) (high : Option Bound) (quads : List Quad) (at : ℕ) → AllIn low high (map quad_bound quads)
    → AllIn low high (map quad_bound (remove quads at))
all_removed low high [] zero h = h
all_removed low high [] (suc at) h = h
all_removed low high (q ∷ qs) zero h = h.1
all_removed low high (q ∷ qs) (suc at) h = (h.0, all_removed low high qs at h.1)

all_set : (low : Bound) (high : Option Bound) (quads : List Quad) (at : ℕ) (q : Quad) → AllIn low high (map quad_bound quads)
    → IsIn low high (quad_bound q) → AllIn low high (map quad_bound (set quads at q))
all_set low high [] at q h new = h
all_set low high (r ∷ qs) zero q h new = (new, h.1)
all_set low high (r ∷ qs) (suc at) q h new = (h.0, all_set low high qs at q h.1 new)

all_inserted : (low : Bound) (high : Option Bound) (quads : List Quad) (at : ℕ) (q : Quad) → AllIn low high (map quad_bound quads)
    → IsIn low high (quad_bound q) → AllIn low high (map quad_bound (insert quads at q))
all_inserted low high [] zero q h new = (new, tt)
all_inserted low high [] (suc at) q h new = (new, tt)
all_inserted low high (r ∷ qs) zero q h new = (new, h)
all_inserted low high (r ∷ qs) (suc at) q h new = (h.0, all_inserted low high qs at q h.1 new)

mapped_insert : (quads : List Quad) (at : ℕ) (q : Quad) → map quad_cell (insert quads at q) ≡ insert (map quad_cell quads) at
    (quad_cell q)
mapped_insert [] zero q = refl
mapped_insert [] (suc at) q = refl
mapped_insert (r ∷ rs) zero q = refl
mapped_insert (r ∷ rs) (suc at) q = ap (λ (es : List Entry). quad_cell r ∷ es) (mapped_insert rs at q)

mapped_there : (quads : List Quad) (k : ℕ) (q : Quad) → slice_get quads k ≡ Some q → slice_get (map quad_cell quads) k ≡ Some
    (quad_cell q)
mapped_there [] k q h = absurd cc
mapped_there (r ∷ rs) zero q h =
    let same : r ≡ q = cc in ap (λ (x : Quad). Some (quad_cell x)) same
mapped_there (r ∷ rs) (suc k) q h = mapped_there rs k q h

length_quads : (quads : List Quad) → length (map quad_cell quads) ≡ length quads
length_quads [] = refl
length_quads (q ∷ qs) = ap suc (length_quads qs)

-- the records of a leaf that is met
records_of : (Given : List Quad → Type 0) (pair : Bound) (a : PageState) (content : Content) (under : PageMap) (low : Bound)
    (high : Option Bound) (quads : List Quad) (below : List Slot) → content.level ≡ 0
    → IsMet Given pair a a content under low high quads below → BearsRecords content.cells low high quads below
records_of Given pair a content under low high quads below leaf met =
    subst (λ (n : ℕ). Bears (over a.writes under) n content.cells low high quads below) leaf met.bears

-- the leaf with other records
leaf_made : (Edit : List Quad → List Quad → Type 0) (Given : List Quad → Type 0) (store : Option Room) (pair : Bound)
    (a : PageState) (content : Content) (cells : List Entry) (under : PageMap) (low : Bound) (high : Option Bound)
    (quads after : List Quad) (below : List Slot)
    → content.level ≡ 0 → IsMet Given pair a a content under low high quads below → Edit quads after → cells ≡ map quad_cell after
    → AllIn low high (map quad_bound after)
    → Changed Edit store a.stores (over a.writes under) (over a.writes under) content.level cells low high quads below
leaf_made Edit Given store pair a content cells under low high quads after below leaf met edit records within =
    let bears : BearsRecords cells low high after below = record {
      records = records;
      within = within;
      nothing =
          (records_of Given pair a content under low high quads below leaf met).nothing;
    } in
    record {
      after = after;
      reached = below;
      edit = edit;
      in_stores = met.in_stores;
      bears = subst (λ (n : ℕ). Bears (over a.writes under) n cells low high after below) (sym leaf) bears;
      frame = record { within = λ s there. inl there; others = λ s out gone. refl };
    }

place_of : (content : Content) (quads : List Quad) (low : Bound) (high : Option Bound) (below : List Slot) (pair : Bound) (at : ℕ)
    → BearsRecords content.cells low high quads below → at < length content.cells
    → ((e : Entry) → slice_get content.cells at ≡ Some e → bound_of e ≡ pair)
    → (q : Quad) × (slice_get quads at ≡ Some q) × (quads ≡ take at quads ++ (q ∷ drop (suc at) quads)) × (quad_bound q ≡ pair)
place_of content quads low high below pair at r within place =
    let lt : at < length quads = omega (arith, ap (λ (es : List Entry). length es) r.records, length_quads quads) in
    let x = at_place quads at lt in (
      x.0,
      x.1,
      x.2,
      place (quad_cell x.0) (subst (λ (es : List Entry). slice_get es at ≡ Some (quad_cell x.0)) (sym r.records)
          (mapped_there quads at x.0 x.1)),
    )

leaf_changes : (change : Change) (store : ℕ) (a : PageState) (content : Content) (cells : List Entry) → content.level ≡ 0
    → cells_edit change content.cells cells
    → ChangesTo (edit_of change) (given_of change) (open_of change store) (pair_of change) a a content cells
leaf_changes (Remove key birth) store a content cells leaf h = λ under low high quads below met.
    let r = records_of Nothing (bound_at key.now birth) a content under low high quads below leaf met in
    let x = place_of content quads low high below (bound_at key.now birth) h.at r h.within h.place in
    leaf_made (Removes (bound_at key.now birth)) Nothing None (bound_at key.now birth) a content cells under low high quads
    (remove quads h.at) below leaf met
    (record { below = take h.at quads; gone = x.0; above = drop (suc h.at) quads; was = x.2; place = x.3; now = refl })
    (h.now ∙ (ap (λ (es : List Entry). remove es h.at) r.records ∙ sym (map_remove quad_cell quads h.at)))
    (all_removed low high quads h.at r.within)
leaf_changes (End key birth death) store a content cells leaf h = λ under low high quads below met.
    let pair = bound_at key.now birth in
    let r = records_of Nothing pair a content under low high quads below leaf met in
    let x = place_of content quads low high below pair h.at r h.within h.place in
    let lt : h.at < length quads = omega (arith, h.within, ap (λ (es : List Entry). length es) r.records, length_quads quads) in
    let gone : Quad = x.0 in
    let new : Quad = record gone { death = death } in
    let at_gone : slice_get content.cells h.at ≡ Some (quad_cell gone) =
    subst (λ (es : List Entry). slice_get es h.at ≡ Some (quad_cell gone)) (sym r.records) (mapped_there quads h.at gone x.1)
    in
    leaf_made (Ends pair death) Nothing None pair a content cells under low high quads (set quads h.at new) below leaf met
    (record {
      below = take h.at quads;
      gone = gone;
      above = drop (suc h.at) quads;
      was = x.2;
      place = x.3;
      now =
          set_split quads h.at new lt;
    })
    (h.now (quad_cell gone) at_gone ∙ (ap (λ (es : List Entry). set es h.at (quad_cell new)) r.records
    ∙ sym (map-set quad_cell quads h.at new)))
    (all_set low high quads h.at new r.within (subst (λ (b : Bound). IsIn low high b) (sym x.3) met.falls))
leaf_changes (Replace q) store a content cells leaf h = λ under low high quads below met.
    let r = records_of Nothing (quad_bound q.now) a content under low high quads below leaf met in
    let x = place_of content quads low high below (quad_bound q.now) h.at r h.within h.place in
    let lt : h.at < length quads = omega (arith, h.within, ap (λ (es : List Entry). length es) r.records, length_quads quads) in
    leaf_made (Replaces q.now) Nothing (room_in (Some store) a) (quad_bound q.now) a content cells under low high quads
    (set quads h.at q.now) below leaf met
    (record {
      below = take h.at quads;
      gone = x.0;
      above = drop (suc h.at) quads;
      was = x.2;
      place = x.3;
      now =
          set_split quads h.at q.now lt;
    })
    (h.now ∙ (ap (λ (es : List Entry). set es h.at (quad_cell q.now)) r.records ∙ sym (map-set quad_cell quads h.at q.now)))
    (all_set low high quads h.at q.now r.within met.falls)
leaf_changes (Insert q) store a content cells leaf h = λ under low high quads below met.
    let r = records_of (Lacks (quad_bound q.now)) (quad_bound q.now) a content under low high quads below leaf met in
    leaf_made (Inserts q.now) (Lacks (quad_bound q.now)) (room_in (Some store) a) (quad_bound q.now) a content cells under low
    high quads (insert quads h.at q.now) below leaf met
    (record { below = take h.at quads; above = drop h.at quads; was = sym (take-append-drop h.at quads); now = refl })
    (h.now ∙ (ap (λ (es : List Entry). insert es h.at (quad_cell q.now)) r.records ∙ sym (mapped_insert quads h.at q.now)))
    (all_inserted low high quads h.at q.now r.within met.falls)

-- how many cells more
leaf_few : (change : Change) (a : PageState) (content : Content) (cells : List Entry) → cells_edit change content.cells cells
    → (length cells ≤ length content.cells) ⊎ (Grows change a a content × (length cells ≤ length content.cells + 1))
leaf_few (Remove key birth) a content cells h =
    inl (omega (arith, ap (λ (es : List Entry). length es) h.now, length-remove content.cells h.at h.within))
leaf_few (End key birth death) a content cells h =
    let x = at_place content.cells h.at h.within in
    inl (omega (arith, ap (λ (es : List Entry). length es) (h.now x.0 x.1), length-set content.cells h.at (ended death x.0)))
leaf_few (Replace q) a content cells h =
    inl (omega (arith, ap (λ (es : List Entry). length es) h.now, length-set content.cells h.at (quad_cell q.now)))
leaf_few (Insert q) a content cells h =
    inr (
      tt,
      omega (
        arith,
        ap (λ (es : List Entry). length es) h.now,
        length-insert content.cells h.at (quad_cell q.now)
            h.within,
      ),
    )

few_more : (change : Change) (a : PageState) (content : Content) (cells : List Entry) → cells_edit change content.cells cells
    → length cells ≤ length content.cells + 1
few_more change a content cells h = ⊎_elim (λ le. omega arith) (λ more. more.1) (leaf_few change a content cells h)

equal_below : (x y : Bound) → x ≡ y → IsBelow x y → ⊥
equal_below x y e below =
    let itself : IsBelow y y = subst (λ (z : Bound). IsBelow z y) e below in not_both y y itself itself

-- the cells of a leaf stand at one place each
one_place : (cells : List Entry) (i j : ℕ) (a b : Entry) → AreCells true None cells → slice_get cells i ≡ Some a
    → slice_get cells j ≡ Some b → bound_of a ≡ bound_of b → i ≡ j
one_place cells i j a b rules at_i at_j same = ⊎_elim
    (λ less. absurd (equal_below (bound_of a) (bound_of b) same (cells_rise true None cells i j a b rules less at_i at_j)))
    (λ le. ⊎_elim
    (λ more. absurd (equal_below (bound_of b) (bound_of a) (sym same) (cells_rise true None cells j i b a rules more at_j at_i)))
    (λ ge. omega arith)
    (cases_lt j i))
    (cases_lt i j)

-- a cell of a leaf is that of a record
carried : (key : List ℕ) (birth : ℕ) (body : Body) → FitsBody true body → (q : Quad)
    × (quad_cell q ≡ record { key = key; birth = birth; body = body })
carried key birth (Carries death value) fits = (record { key = key; birth = birth; death = death; value = value }, refl)
carried key birth (Leads child) fits = absurd fits

memory_cause : (a : PageState) (P : Type 0) (fault : PairFault) → fault ≡ PageGave no_memory → HasCause a a P fault
memory_cause a P fault is = subst (λ (f : PairFault). HasCause a a P f) (sym is) (λ isnt. absurd (isnt refl))

-- where a leaf has no room for its cells, a record came in or a longer one
leaf_grows : (change : Change) (a : PageState) (content : Content) (cells : List Entry) → content.level ≡ 0
    → cells_edit change content.cells cells → 8188 < size cells → Grows change a a content
leaf_grows (Remove key birth) a content cells leaf h full = absurd (omega (arith, h.small))
leaf_grows (End key birth death) a content cells leaf h full = absurd (omega (arith, h.small))
leaf_grows (Insert q) a content cells leaf h full = tt
leaf_grows (Replace q) a content cells leaf h full = λ under agrees gone goes.
    let e : EndsAt (quad_bound q.now) content.cells gone =
    subst (λ (n : ℕ). Goes (over a.writes under) (quad_bound q.now) n content.cells gone) leaf goes in
    let x = at_place content.cells h.at h.within in
    let at : e.at ≡ h.at = one_place content.cells e.at h.at (quad_cell gone) x.0 h.rules e.there x.1 (e.place
    ∙ sym (h.place x.0 x.1)) in
    let there : slice_get content.cells h.at ≡ Some (quad_cell gone) =
    subst (λ (n : ℕ). slice_get content.cells n ≡ Some (quad_cell gone)) at e.there in
    let same_key : length gone.key ≡ length q.now.key = ap (λ (b : Bound). length b.key) e.place in
    omega (
      arith,
      h.fitted,
      ap size h.now,
      size_swap content.cells h.at (quad_cell gone) (quad_cell q.now) there,
      leaf_size gone.key gone.birth gone.death gone.value,
      leaf_size q.now.key q.now.birth q.now.death q.now.value,
    )

leaf_finds : (change : Change) (a : PageState) (content : Content) (cells : List Entry) → content.level ≡ 0
    → cells_edit change content.cells cells → Finds change a a content
leaf_finds (Remove key birth) a content cells leaf h = tt
leaf_finds (End key birth death) a content cells leaf h = tt
leaf_finds (Insert q) a content cells leaf h = tt
leaf_finds (Replace q) a content cells leaf h =
    let x = at_place content.cells h.at h.within in
    let gone = carried x.0.key x.0.birth x.0.body (fits_there None content.cells h.at x.0 h.rules x.1).body in
    let ends : EndsAt (quad_bound q.now) content.cells gone.0 = record {
      place = ap (λ (e : Entry). bound_of e) gone.1 ∙ h.place x.0 x.1;
      at = h.at;
      there = x.1 ∙ ap (λ (e : Entry). Some e) (sym gone.1);
    } in
    record {
      gone = gone.0;
      goes = λ under agrees. subst (λ (n : ℕ). Goes (over a.writes under) (quad_bound q.now) n content.cells
          gone.0) (sym leaf) ends;
    }

-- ---- the answer at a leaf

leaf_lacks : (Given : List Quad → Type 0) (pair : Bound) (a : PageState) (content : Content) → content.level ≡ 0
    → All (λ e. bound_of e ≢ pair) content.cells → LacksBelow Given pair a a content
leaf_lacks Given pair a content leaf h = λ under low high quads below met.
    lacks_cells pair quads (subst (λ (es : List Entry). All (λ e. bound_of e ≢ pair) es)
    (records_of Given pair a content under low high quads below leaf met).records h)

leaf_missing : (change : Change) (store : ℕ) (a : PageState) (content : Content) → content.level ≡ 0
    → misses_of change content.cells → IsEdited change store a a content (Ok Missing)
leaf_missing (Remove key birth) store a content leaf h = (tt, refl, leaf_lacks Nothing (bound_at key.now birth) a content leaf h)
leaf_missing (End key birth death) store a content leaf h =
    (tt, refl, leaf_lacks Nothing (bound_at key.now birth) a content leaf h)
leaf_missing (Replace q) store a content leaf h = (tt, refl, leaf_lacks Nothing (quad_bound q.now) a content leaf h)
leaf_missing (Insert q) store a content leaf h = absurd h

leaf_ok : (change : Change) (store : ℕ) (a : PageState) (content : Content) (edited : Edited) → content.level ≡ 0
    → Answers (cells_edit change content.cells) (misses_of change content.cells) edited
    → IsEdited change store a a content (Ok edited)
leaf_ok change store a content Missing leaf h = leaf_missing change store a content leaf h
leaf_ok change store a content Below leaf h = absurd h
leaf_ok change store a content (Page page) leaf h = (
  λ s c spelled up. refl,
  record {
    cells = h.cells;
    spelled = subst (λ (n : ℕ). Spells (record { level = n; cells = h.cells }) page) (sym leaf) h.made;
    few = leaf_few change a content h.cells h.edit;
    changes = leaf_changes change store a content h.cells leaf h.edit;
  },
)
leaf_ok change store a content (Two left key birth right) leaf h = (
  λ s c spelled up. refl,
  divided change store a a content h.cells left (bound_at key birth) right (leaf_changes change store a content h.cells leaf
      h.edit)
      (subst (λ (n : ℕ). IsNearly n h.cells) (sym leaf) h.nearly)
      (subst (λ (n : ℕ). IsSplit n h.cells left (bound_at key birth) right) (sym leaf) h.made)
      (leaf_grows change a content h.cells leaf h.edit h.made.full)
      (few_more change a content h.cells h.edit),
)

-- ---- the answer at a leaf, whatever it is

leaf_fault : (change : Change) (store : ℕ) (a : PageState) (content : Content) (fault : PairFault) → content.level ≡ 0
    → refusal_of change content.cells fault
    → HasCause a a (IsNotMet (given_of change) (pair_of change) a a content) fault
leaf_fault (Remove key birth) store a content fault leaf h =
    memory_cause a (IsNotMet Nothing (bound_at key.now birth) a a content) fault h
leaf_fault (End key birth death) store a content fault leaf h =
    memory_cause a (IsNotMet Nothing (bound_at key.now birth) a a content) fault h
leaf_fault (Replace q) store a content fault leaf h = memory_cause a (IsNotMet Nothing (quad_bound q.now) a a content) fault h
leaf_fault (Insert q) store a content Odd leaf h = λ under low high quads below met.
    let r = records_of (Lacks (quad_bound q.now)) (quad_bound q.now) a content under low high quads below leaf met in
    h (subst (λ (es : List Entry). All (λ e. bound_of e ≢ quad_bound q.now) es) (sym r.records)
    (cells_lack (quad_bound q.now) quads met.given))
leaf_fault (Insert q) store a content HeightFull leaf h = absurd h
leaf_fault (Insert q) store a content (PageGave fault) leaf h = λ isnt. absurd (isnt h)

leaf_found : (change : Change) (a : PageState) (content : Content) (edited : Edited) → content.level ≡ 0
    → Answers (cells_edit change content.cells) (misses_of change content.cells) edited
    → FindsBelow change a a content (Ok edited)
leaf_found change a content Missing leaf h = tt
leaf_found change a content Below leaf h = absurd h
leaf_found change a content (Page page) leaf h = leaf_finds change a content h.cells leaf h.edit
leaf_found change a content (Two left key birth right) leaf h = leaf_finds change a content h.cells leaf h.edit

pub leaf_edited : (change : Change) (store : ℕ) (a : PageState) (content : Content) (result : Result Edited PairFault)
    → content.level ≡ 0 → EditsLeaf change content.cells result
    → EditsBelow change store a a content result
leaf_edited change store a content (Ok edited) leaf h = record {
  goes_on = goes_same a;
  answer =
      leaf_ok change store a content edited leaf h;
  finds = leaf_found change a content edited leaf h;
}
leaf_edited change store a content (Err fault) leaf h = record {
  goes_on = goes_same a;
  answer =
      leaf_fault change store a content fault leaf h;
  finds = tt;
}

-- ---- an inner page

pub level_above : (n : ℕ) → n ≢ 0 → n ≡ suc (n - 1)
level_above n isnt = omega (arith, isnt)

-- no child stands where one is sought
pub no_child : (change : Change) (store : ℕ) (a : PageState) (content : Content) (past i : ℕ) (fault : PairFault)
    → content.level ≢ 0 → BeginsAt After (pair_of change) content.cells past → i ≡ past - 1 → fault ≡ Odd
    → HasNoChild content.cells i
    → EditsBelow change store a a content (Err fault)
no_child change store a content past i fault inner begins at is none = record {
  goes_on = goes_same a;
  answer = odd_cause a a (IsNotMet (given_of change) (pair_of change) a a content) fault is (λ under low high quads below met.
      let s = sought (given_of change) (pair_of change) a a content under low high quads below (content.level - 1) past i met
      (level_above _ inner) begins at in
      none s.seat.child s.leads);
  finds = tt;
}

-- the child's page is no page of the level
pub no_page : (change : Change) (store : ℕ) (a b : PageState) (content : Content) (past i : ℕ) (slot : Slot) (page : List ℕ)
    (fault : PairFault)
    → content.level ≢ 0 → BeginsAt After (pair_of change) content.cells past → i ≡ past - 1 → LeadsAt content.cells i slot
    → Reads a b slot page → OnlyReads a b → fault ≡ Odd
    → ((below : Content) → IsShown (content.level - 1) (content.level - 1) page below → ⊥)
    → EditsBelow change store a b content (Err fault)
no_page change store a b content past i slot page fault inner begins at leads reads only is none = record {
  goes_on = goes_only a b only;
  answer = odd_cause a b (IsNotMet (given_of change) (pair_of change) a b content) fault is (λ under low high quads below met.
      let s = sought (given_of change) (pair_of change) a b content under low high quads below (content.level - 1) past i met
      (level_above _ inner) begins at in
      let read = child_read (given_of change) (pair_of change) a b b content under low high quads below (content.level - 1) i slot
      page met s leads reads (goes_same b) in
      none (record { level = content.level - 1; cells = s.inner.cells })
      (record {
        spelled = subst (λ (xs : List ℕ). Spells (record { level = content.level - 1; cells = s.inner.cells }) xs)
            (sym read.1) s.inner.page.spelled;
        from = omega arith;
        to = omega arith;
      }));
  finds = tt;
}

-- what stays from a level of the child on stays from one of its parent on
pub stays_up : (level up : ℕ) (a b c : PageState) → level ≤ up → b.writes ≡ a.writes → StaysFrom level b c → StaysFrom up a c
stays_up level up a b c le same h = λ s content spelled high.
    h s content (subst (λ (w : PageMap). Spells content (latest w c.reads s)) (sym same) spelled) (omega arith)
    ∙ ap (λ (w : PageMap). w s) same

-- where the child was edited, and its page then lies in its slot
parent_changed : (Edit : List Quad → List Quad → Type 0) → IsLocal Edit → (Given : List Quad → Type 0) (store : Option Room)
    (pair : Bound) (a b z : PageState) (content below : Content)
    (under : PageMap) (low : Bound) (high : Option Bound) (quads : List Quad) (slots : List Slot) (level i : ℕ) (slot : Slot)
    (page : List ℕ)
    (m : MetChild Given pair a b z content below under low high quads slots level i slot page) → content.level ≡ suc level
    → b.writes ≡ a.writes
    → (stores : ℕ) (mid q : PageMap) (cells : List Entry) (page' : List ℕ)
    → Changed Edit store stores (over b.writes under) mid below.level cells m.sought.seat.from m.sought.seat.to m.sought.seat.here
    m.sought.inner.below
    → q m.sought.seat.child ≡ Some page' → Spells (record { level = below.level; cells = cells }) page'
    → ((t : Slot) → t ≢ m.sought.seat.child → q t ≡ mid t) → InStores stores q
    → Changed Edit store stores (over a.writes under) q content.level content.cells low high quads slots
parent_changed Edit local Given store pair a b z content below under low high quads slots level i slot page m is same stores mid q
    cells page' changed put spelled others in_stores =
    let s = m.sought in
    let p = over a.writes under in
    let there : Changed Edit store stores p mid level cells s.seat.from s.seat.to s.seat.here s.inner.below =
    subst (λ (n : ℕ). Changed Edit store stores p mid n cells s.seat.from s.seat.to s.seat.here s.inner.below) m.on
    (subst (λ (w : PageMap). Changed Edit store stores (over w under) mid below.level cells s.seat.from s.seat.to s.seat.here
    s.inner.below) same changed) in
    let whole : Changed Edit store stores p q (suc level) (inner_entry [] 0 s.first ∷ map child_cell s.rest) low high quads
    slots =
    rebuilt Edit local store stores p mid q level pair i s.rest s.first low high quads slots s.seat s.inner cells page' there put
    (subst (λ (n : ℕ). Spells (record { level = n; cells = cells }) page') m.on spelled) others in_stores s.within in
    subst (λ (n : ℕ). Changed Edit store stores p q n content.cells low high quads slots) (sym is)
    (subst (λ (es : List Entry). Changed Edit store stores p q (suc level) es low high quads slots) (sym s.children) whole)

pub met_earlier : (Given : List Quad → Type 0) (pair : Bound) (old mid new : PageState) (content : Content) (under : PageMap)
    (low : Bound) (high : Option Bound) (quads : List Quad) (below : List Slot)
    → GoesOn mid new → IsMet Given pair old new content under low high quads below
    → IsMet Given pair old mid content under low high quads below
met_earlier Given pair old mid new content under low high quads below goes met = record {
  rules = met.rules;
  agrees = agrees_before mid.reads new.reads under goes.extends met.agrees;
  in_stores = subst (λ (n : ℕ). InStores n (over old.writes under)) goes.lasts.stores met.in_stores;
  bears = met.bears;
  falls = met.falls;
  given = met.given;
}

-- ---- what holds of each change

pub removes_local : (pair : Bound) → IsLocal (Removes pair)
removes_local pair before here here' after h = record {
  below = before ++ h.below;
  gone = h.gone;
  above = h.above ++ after;
  was = ap (λ (qs : List Quad). before ++ (qs ++ after)) h.was
      ∙ (ap (λ (qs : List Quad). before ++ qs) (append_assoc h.below (h.gone ∷ h.above) after)
      ∙ sym (append_assoc before h.below (h.gone ∷ (h.above ++ after))));
  place = h.place;
  now = ap (λ (qs : List Quad). before ++ (qs ++ after)) h.now
      ∙ (ap (λ (qs : List Quad). before ++ qs) (append_assoc h.below h.above after)
      ∙ sym (append_assoc before h.below (h.above ++ after)));
}

ends_local : (pair : Bound) (death : ℕ) → IsLocal (Ends pair death)
ends_local pair death before here here' after h = record {
  below = before ++ h.below;
  gone = h.gone;
  above = h.above ++ after;
  was = ap (λ (qs : List Quad). before ++ (qs ++ after)) h.was
      ∙ (ap (λ (qs : List Quad). before ++ qs) (append_assoc h.below (h.gone ∷ h.above) after)
      ∙ sym (append_assoc before h.below (h.gone ∷ (h.above ++ after))));
  place = h.place;
  now = ap (λ (qs : List Quad). before ++ (qs ++ after)) h.now
      ∙ (ap (λ (qs : List Quad). before ++ qs) (append_assoc h.below ((record h.gone { death = death }) ∷ h.above) after)
      ∙ sym (append_assoc before h.below ((record h.gone { death = death }) ∷ (h.above ++ after))));
}

replaces_local : (q : Quad) → IsLocal (Replaces q)
replaces_local q before here here' after h = record {
  below = before ++ h.below;
  gone = h.gone;
  above = h.above ++ after;
  was = ap (λ (qs : List Quad). before ++ (qs ++ after)) h.was
      ∙ (ap (λ (qs : List Quad). before ++ qs) (append_assoc h.below (h.gone ∷ h.above) after)
      ∙ sym (append_assoc before h.below (h.gone ∷ (h.above ++ after))));
  place = h.place;
  now = ap (λ (qs : List Quad). before ++ (qs ++ after)) h.now
      ∙ (ap (λ (qs : List Quad). before ++ qs) (append_assoc h.below (q ∷ h.above) after)
      ∙ sym (append_assoc before h.below (q ∷ (h.above ++ after))));
}

inserts_local : (q : Quad) → IsLocal (Inserts q)
inserts_local q before here here' after h = record {
  below = before ++ h.below;
  above = h.above ++ after;
  was = ap (λ (qs : List Quad). before ++ (qs ++ after)) h.was
      ∙ (ap (λ (qs : List Quad). before ++ qs) (append_assoc h.below h.above after)
      ∙ sym (append_assoc before h.below (h.above ++ after)));
  now = ap (λ (qs : List Quad). before ++ (qs ++ after)) h.now
      ∙ (ap (λ (qs : List Quad). before ++ qs) (append_assoc h.below (q ∷ h.above) after)
      ∙ sym (append_assoc before h.below (q ∷ (h.above ++ after))));
}

pub local_of : (change : Change) → IsLocal (edit_of change)
local_of (Remove key birth) = removes_local (bound_at key.now birth)
local_of (End key birth death) = ends_local (bound_at key.now birth) death
local_of (Replace q) = replaces_local q.now
local_of (Insert q) = inserts_local q.now

all_left : (P : Quad → Type 0) (xs ys : List Quad) → All P (xs ++ ys) → All P xs
all_left P [] ys h = All-nil P
all_left P (x ∷ xs) ys h = All-cons P x xs (h 0 x (omega arith)) (all_left P xs ys (λ k d lt. h (suc k) d (omega arith)))

all_right : (P : Quad → Type 0) (xs ys : List Quad) → All P (xs ++ ys) → All P ys
all_right P [] ys h = h
all_right P (x ∷ xs) ys h = all_right P xs ys (λ k d lt. h (suc k) d (omega arith))

lacks_partial : (pair : Bound) → IsPartial (Lacks pair)
lacks_partial pair before here after h =
    all_left (λ r. quad_bound r ≢ pair) here after (all_right (λ r. quad_bound r ≢ pair) before (here ++ after) h)

pub partial_of : (change : Change) → IsPartial (given_of change)
partial_of (Remove key birth) before here after h = tt
partial_of (End key birth death) before here after h = tt
partial_of (Replace q) before here after h = tt
partial_of (Insert q) before here after h = lacks_partial (quad_bound q.now) before here after h

-- the record is not below the child
pub missing_below : (change : Change) (store : ℕ) (a b c : PageState) (content below : Content) (past i : ℕ) (slot : Slot)
    (page : List ℕ)
    → content.level ≢ 0 → BeginsAt After (pair_of change) content.cells past → i ≡ past - 1 → LeadsAt content.cells i slot
    → Reads a b slot page → OnlyReads a b
    → IsShown (content.level - 1) (content.level - 1) page below → EditsBelow change store b c below (Ok Missing)
    → EditsBelow change store a c content (Ok Missing)
missing_below change store a b c content below past i slot page inner begins at leads reads only shown h = record {
  goes_on = goes_then a b c (goes_only a b only) h.goes_on;
  answer = (
    h.answer.0,
    h.answer.1 ∙ reads.writes,
    λ under low high quads slots met.
        let m = met_child (given_of change) (partial_of change) (pair_of change) a b c content below under low high quads slots
        (content.level - 1) past i slot page met (level_above _ inner) begins at leads reads h.goes_on shown in
        let s = m.sought.seat in
        let here : Lacks (pair_of change) s.here = h.answer.2 under s.from s.to s.here m.sought.inner.below m.met in
        subst (λ (qs : List Quad). Lacks (pair_of change) qs) (sym s.all_quads)
        (All-append (λ r. quad_bound r ≢ pair_of change) s.before (s.here ++ s.after) s.lacks_before
        (All-append (λ r. quad_bound r ≢ pair_of change) s.here s.after here s.lacks_after)),
  );
  finds = tt;
}

-- what was found below the child was found below the page
pub finds_up : (change : Change) (a b c d : PageState) (content below : Content) (past i : ℕ) (slot : Slot) (page : List ℕ)
    → content.level ≢ 0 → BeginsAt After (pair_of change) content.cells past → i ≡ past - 1 → LeadsAt content.cells i slot
    → Reads a b slot page → GoesOn b c → GoesOn c d
    → IsShown (content.level - 1) (content.level - 1) page below → Finds change b c below → Finds change a d content
finds_up (Remove key birth) a b c d content below past i slot page inner begins at leads reads goes later shown h = tt
finds_up (End key birth death) a b c d content below past i slot page inner begins at leads reads goes later shown h = tt
finds_up (Insert q) a b c d content below past i slot page inner begins at leads reads goes later shown h = tt
finds_up (Replace q) a b c d content below past i slot page inner begins at leads reads goes later shown h =
    let s = step a b d.reads (quad_bound q.now) content below past i slot page inner begins at leads reads
    (goes_then b c d goes later).extends shown in
    record {
      gone = h.gone;
      goes = λ under agrees. subst (λ (w : PageMap). Goes (over w under) (quad_bound q.now) content.level content.cells h.gone)
          reads.writes
          (s.up under agrees h.gone (h.goes under (agrees_before c.reads d.reads under later.extends agrees)));
    }

pub grows_up : (change : Change) (a b c d : PageState) (content below : Content) (past i : ℕ) (slot : Slot) (page : List ℕ)
    → content.level ≢ 0 → BeginsAt After (pair_of change) content.cells past → i ≡ past - 1 → LeadsAt content.cells i slot
    → Reads a b slot page → GoesOn b c → GoesOn c d
    → IsShown (content.level - 1) (content.level - 1) page below → Grows change b c below → Grows change a d content
grows_up (Remove key birth) a b c d content below past i slot page inner begins at leads reads goes later shown h = h
grows_up (End key birth death) a b c d content below past i slot page inner begins at leads reads goes later shown h = h
grows_up (Insert q) a b c d content below past i slot page inner begins at leads reads goes later shown h = tt
grows_up (Replace q) a b c d content below past i slot page inner begins at leads reads goes later shown h =
    λ under agrees gone way.
    let s = step a b d.reads (quad_bound q.now) content below past i slot page inner begins at leads reads
    (goes_then b c d goes later).extends shown in
    h under (agrees_before c.reads d.reads under later.extends agrees) gone
    (s.down under agrees gone (subst (λ (w : PageMap). Goes (over w under) (quad_bound q.now) content.level content.cells gone)
    (sym reads.writes) way))

-- something below the child changed
pub changed_below : (change : Change) (store : ℕ) (a b c : PageState) (content below : Content) (past i : ℕ) (slot : Slot)
    (page : List ℕ)
    → content.level ≢ 0 → BeginsAt After (pair_of change) content.cells past → i ≡ past - 1 → LeadsAt content.cells i slot
    → Reads a b slot page → OnlyReads a b
    → IsShown (content.level - 1) (content.level - 1) page below → EditsBelow change store b c below (Ok Below)
    → EditsBelow change store a c content (Ok Below)
changed_below change store a b c content below past i slot page inner begins at leads reads only shown h = record {
  goes_on = goes_then a b c (goes_only a b only) h.goes_on;
  answer = (
    stays_up below.level content.level a b c (omega (arith, shown.to)) reads.writes h.answer.0,
    λ under low high quads slots met.
        let m = met_child (given_of change) (partial_of change) (pair_of change) a b c content below under low high quads slots
        (content.level - 1) past i slot page met (level_above _ inner) begins at leads reads h.goes_on shown in
        let s = m.sought in
        let changed = changed_before (edit_of change) (open_of change store) a b c.stores (over b.writes under)
        (over c.writes under) below.level below.cells s.seat.from s.seat.to s.seat.here s.inner.below only.extends
        (h.answer.1 under s.seat.from s.seat.to s.seat.here s.inner.below m.met) in
        let before : over b.writes under s.seat.child ≡ Some page = subst (λ (w : PageMap). over w under s.seat.child ≡ Some page)
        (sym reads.writes) m.is_page in
        let some : IsSome (over b.writes under s.seat.child) = rw before refl in
        let away : Among s.seat.child changed.reached → ⊥ = λ there. ⊎_elim (λ old. s.inner.apart old)
        (λ free. not_open (room_in (open_of change store) a) (over b.writes under) s.seat.child some free)
        (changed.frame.within s.seat.child there) in
        parent_changed (edit_of change) (local_of change) (given_of change) (room_in (open_of change store) a) (pair_of change) a
        b c content below under low high quads slots (content.level - 1) i slot page m (level_above _ inner) reads.writes
        c.stores (over c.writes under) (over c.writes under) below.cells page changed
        (changed.frame.others s.seat.child s.inner.apart away ∙ before) shown.spelled (λ t apart. refl) changed.in_stores,
  );
  finds = finds_up change a b c c content below past i slot page inner begins at leads reads h.goes_on (goes_same c) shown
      h.finds;
}

-- the child's page was edited and written
pub written_below : (change : Change) (store : ℕ) (a b c d : PageState) (content below : Content) (past i : ℕ) (slot : Slot)
    (page page' : List ℕ)
    → content.level ≢ 0 → BeginsAt After (pair_of change) content.cells past → i ≡ past - 1 → LeadsAt content.cells i slot
    → Reads a b slot page → OnlyReads a b
    → IsShown (content.level - 1) (content.level - 1) page below → EditsBelow change store b c below (Ok (Page page'))
    → Writes c d slot page'
    → EditsBelow change store a d content (Ok Below)
written_below change store a b c d content below past i slot page page' inner begins at leads reads only shown h writes =
    let later = goes_then b c d h.goes_on (goes_write c d slot page' writes) in
    let within : slot.store < a.stores = shown_within a b slot page _ _ below reads shown in
    record {
      goes_on = goes_then a b d (goes_only a b only) later;
      answer = (
        λ s content' spelled high. ⊎_elim
            (λ same.
            let there : Spells content' (latest a.writes d.reads slot) =
            subst (λ (t : Slot). Spells content' (latest a.writes d.reads t)) same spelled in
            let one : content' ≡ below = has_one_content page content' below (subst (λ (xs : List ℕ). Spells content' xs)
            (sym (reads_latest a b d slot page reads later.extends within)) there) shown.spelled in
            absurd (omega (arith, ap (λ (x : Content). x.level) one, shown.to, level_above _ inner)))
            (λ other.
            let up = stays_up below.level content.level a b c (omega (arith, shown.to)) reads.writes h.answer.0 in
            writes.puts.others s other
            ∙ up s content' (subst (λ (r : Option (Option (List ℕ))). Spells content'
            (page_of (laid (a.writes s) (unwrap_or r None)))) (writes.learns.others s other) spelled) high)
            (slot_cases s slot),
        λ under low high quads slots met.
            let m = met_child (given_of change) (partial_of change) (pair_of change) a b d content below under low high quads
            slots (content.level - 1) past i slot page met (level_above _ inner) begins at leads reads later shown in
            let s = m.sought in
            let met_before : IsMet (given_of change) (pair_of change) b c below under s.seat.from s.seat.to s.seat.here
            s.inner.below = met_earlier (given_of change) (pair_of change) b c d below under s.seat.from s.seat.to s.seat.here
            s.inner.below (goes_write c d slot page' writes) m.met in
            let changed = changed_before (edit_of change) (open_of change store) a b c.stores (over b.writes under)
            (over c.writes under) below.level h.answer.1.cells s.seat.from s.seat.to s.seat.here s.inner.below only.extends
            (h.answer.1.changes under s.seat.from s.seat.to s.seat.here s.inner.below met_before) in
            let put = over_put c.writes d.writes under slot page' writes.puts in
            let others : (t : Slot) → t ≢ s.seat.child → over d.writes under t ≡ over c.writes under t =
            λ t apart. put.others t (λ is. apart (is ∙ sym m.is_child)) in
            let stored : InStores c.stores (over d.writes under) =
            in_stores_put c.stores (over c.writes under) (over d.writes under) slot page' changed.in_stores
            (omega (arith, within, h.goes_on.lasts.stores, only.lasts.stores)) put.others in
            let result : Changed (edit_of change) (room_in (open_of change store) a) c.stores (over a.writes under)
            (over d.writes under) content.level content.cells low high quads slots =
            parent_changed (edit_of change) (local_of change) (given_of change) (room_in (open_of change store) a)
            (pair_of change) a b d content below under low high quads slots (content.level - 1) i slot page m
            (level_above _ inner) reads.writes
            c.stores (over c.writes under) (over d.writes under) h.answer.1.cells page' changed
            (ap (λ (t : Slot). over d.writes under t) m.is_child ∙ put.put) h.answer.1.spelled others stored in
            subst (λ (n : ℕ). Changed (edit_of change) (room_in (open_of change store) a) n (over a.writes under)
            (over d.writes under) content.level content.cells low high quads slots) (sym writes.lasts.stores) result,
      );
      finds = finds_up change a b c d content below past i slot page inner begins at leads reads h.goes_on
          (goes_write c d slot page' writes) shown h.finds;
    }

-- the child's page could not be written
pub unwritten_below : (change : Change) (store : ℕ) (a b c d : PageState) (content below : Content) (edited : Edited)
    (fault : PageFault)
    → OnlyReads a b → EditsBelow change store b c below (Ok edited) → GivesUp c d fault
    → EditsBelow change store a d content (Err (PageGave fault))
unwritten_below change store a b c d content below edited fault only h gives =
    let first = goes_then a b c (goes_only a b only) h.goes_on in
    record {
      goes_on = goes_then a c d first (goes_gives_up c d fault gives);
      answer = λ isnt. omega (arith, first.lasts.faults fault, gives.counted isnt);
      finds = tt;
    }

-- the edit below the child gave up
pub fault_below : (change : Change) (store : ℕ) (a b c : PageState) (content below : Content) (past i : ℕ) (slot : Slot)
    (page : List ℕ) (fault : PairFault)
    → content.level ≢ 0 → BeginsAt After (pair_of change) content.cells past → i ≡ past - 1 → LeadsAt content.cells i slot
    → Reads a b slot page → OnlyReads a b
    → IsShown (content.level - 1) (content.level - 1) page below → EditsBelow change store b c below (Err fault)
    → EditsBelow change store a c content (Err fault)
fault_below change store a b c content below past i slot page fault inner begins at leads reads only shown h = record {
  goes_on = goes_then a b c (goes_only a b only) h.goes_on;
  answer = cause_later a b c (IsNotMet (given_of change) (pair_of change) b c below)
      (IsNotMet (given_of change) (pair_of change) a c content) fault only
      (λ none under low high quads slots met.
      let m = met_child (given_of change) (partial_of change) (pair_of change) a b c content below under low high quads slots
      (content.level - 1) past i slot page met (level_above _ inner) begins at leads reads h.goes_on shown in
      none under m.sought.seat.from m.sought.seat.to m.sought.seat.here m.sought.inner.below m.met)
      h.answer;
  finds = tt;
}
