-- An edit below a child is an edit below its parent.
use Rattle.std.proofs.Common.{◌≡◌, ◌≢◌, ◌⊎◌, ⊎_elim, inl, inr, ℕ, suc, List, [], ◌∷◌, ◌++◌, map, take, drop, Option, Some, None}
use Rattle.std.proofs.Common.{IsSome, refl, sym, subst, ◌∙◌}
use Rattle.std.proofs.lemmas.List.{take-append-drop}
use Rattle.pair_types.specs.declared.slot.Slot.{Slot}
use Rattle.pair_types.specs.declared.quad.Quad.{Quad}
use Rattle.pair_types.specs.PageMaps.{PageMap, ReadMap, Extends}
use Rattle.pair_types.specs.PageState.{PageState}
use Rattle.btree_page.specs.Content.{Bound, Entry, Content, Spells, inner_entry}
use Rattle.btree_page.specs.Tree.{Holds, AllIn, Among, Child, child_cell, Kids, Subtree}
use Rattle.btree_page.proofs.Trees.{among_left, among_right, among_either}
use Rattle.btree_search.specs.Walk.{InStores}
use Rattle.btree_edit.specs.Edited.{Room, room_in, IsOpen, Frame}
use Rattle.btree_edit.specs.Below.{Changed, Parted}
use Rattle.btree_edit.proofs.Opened.{Seated, closed, bears_keep, some_not_none}
use Rattle.btree_edit.proofs.Seats.{Seat, Beside}

-- an edit of a part of a list is an edit of the list
abbrev pub IsLocal : (List Quad → List Quad → Type 0) → Type 0
IsLocal Edit = (before here here' after : List Quad) → Edit here here'
    → Edit (before ++ (here ++ after)) (before ++ (here' ++ after))

-- an open slot is absent
pub open_absent : (store : Option Room) (p : PageMap) (s : Slot) → IsOpen store p s → p s ≡ None
open_absent None p s h = absurd h
open_absent (Some n) p s h = h.0

-- a slot of a page is open to no edit
pub not_open : (store : Option Room) (p : PageMap) (s : Slot) → IsSome (p s) → IsOpen store p s → ⊥
not_open store p s some h = some_not_none (p s) some (open_absent store p s h)

pub some_held : (p : PageMap) (slot : Slot) (content : Content) → Holds p slot content → IsSome (p slot)
some_held p slot content h = rw h.held refl

-- ---- the child closed again

-- the page of the child is put in its slot, over the pages of the edit below it
pub reclosed : (Edit : List Quad → List Quad → Type 0) (store : Option Room) (stores : ℕ) (p below q : PageMap) (level : ℕ)
    (slot : Slot) (low : Bound) (high : Option Bound)
    (quads : List Quad) (slots : List Slot) (h : Seated p level slot low high quads slots) (cells : List Entry) (page : List ℕ)
    (c : Changed Edit store stores p below level cells low high quads h.below)
    → q slot ≡ Some page → Spells (record { level = level; cells = cells }) page → ((s : Slot) → s ≢ slot → q s ≡ below s)
    → Subtree q level slot low high c.after (slot ∷ c.reached) × Frame store p q slots (slot ∷ c.reached)
reclosed Edit store stores p below q level slot low high quads slots h cells page c put spelled others =
    let present = some_held p slot _ h.page in
    let away : Among slot c.reached → ⊥ = λ there. ⊎_elim (λ old. h.apart old) (λ free. not_open store p slot present free)
    (c.frame.within slot there) in
    let kept : (s : Slot) → Among s c.reached → q s ≡ below s =
    λ s there. others s (λ is. away (subst (λ (t : Slot). Among t c.reached) is there)) in (
      closed q level slot low high c.after (slot ∷ c.reached) (record {
        below = c.reached;
        cells = cells;
        page = record { bytes = page; held = put; spelled = spelled };
        bears = bears_keep below q level cells low high c.after c.reached c.bears kept;
        reached = refl;
        apart = away;
      }),
      record {
        within = λ s there. subst (λ (ss : List Slot). Among s ss ⊎ IsOpen store p s) (sym h.reached) (⊎_elim
            (λ is. inl (inl is))
            (λ more. ⊎_elim (λ old. inl (inr old)) (λ free. inr free) (c.frame.within s more))
            there);
        others = λ s out gone.
            let not_slot : s ≢ slot = λ is. gone (inl is) in
            others s not_slot
            ∙ c.frame.others s (λ old. out (subst (λ (ss : List Slot). Among s ss) (sym h.reached) (inr old)))
            (λ new. gone (inr new));
      },
    )

-- ---- the parent

-- children in place of one child
pub reseated : (Edit : List Quad → List Quad → Type 0) → IsLocal Edit → (store : Option Room) (stores : ℕ) (p q : PageMap)
    (level : ℕ) (pair : Bound) (i : ℕ) (rest : List Child)
    (first : Slot) (low : Bound) (high : Option Bound) (quads : List Quad) (slots : List Slot)
    (s : Seat p level pair i rest first low high quads slots)
    (more : List Child) (here' : List Quad) (slots' : List Slot) → Edit s.here here' → InStores stores q
    → Kids (Subtree q level) s.child s.from more s.to here' slots' → Frame store p q s.slots_here slots'
    → AllIn low high (map (λ c. c.bound) (take i rest ++ (more ++ drop i rest)))
    → Changed Edit store stores p q (suc level) (inner_entry [] 0 first ∷ map child_cell (take i rest ++ (more ++ drop i rest)))
    low high quads slots
reseated Edit local store stores p q level pair i rest first low high quads slots s more here' slots' edit in_stores kids frame
    within =
    let apart : (t : Slot) → Beside t s.slots_before s.slots_after → Among t slots' → ⊥ =
    λ t beside there. ⊎_elim (λ old. s.apart t beside old) (λ free. not_open store p t (s.siblings t beside) free)
    (frame.within t there) in
    let kept : (t : Slot) → Beside t s.slots_before s.slots_after → q t ≡ p t =
    λ t beside. frame.others t (λ old. s.apart t beside old) (λ new. apart t beside new) in
    let whole : (t : Slot) → Among t (s.slots_before ++ (s.slots_here ++ s.slots_after)) → Among t slots =
    λ t there. subst (λ (ss : List Slot). Among t ss) (sym s.all_slots) there in
    record {
      after = s.before ++ (here' ++ s.after);
      reached = s.slots_before ++ (slots' ++ s.slots_after);
      edit = subst (λ (qs : List Quad). Edit qs (s.before ++ (here' ++ s.after))) (sym s.all_quads)
          (local s.before s.here here' s.after edit);
      in_stores = in_stores;
      bears = record {
        first = first;
        rest = take i rest ++ (more ++ drop i rest);
        children = refl;
        within = within;
        kids = s.rebuild q more here' slots' kids kept apart;
      };
      frame = record {
        within = λ t there. ⊎_elim
            (λ l. inl (whole t (among_left t s.slots_before (s.slots_here ++ s.slots_after) l)))
            (λ r. ⊎_elim
            (λ new. ⊎_elim
            (λ old. inl (whole t (among_right t s.slots_before (s.slots_here ++ s.slots_after)
            (among_left t s.slots_here s.slots_after old))))
            (λ free. inr free)
            (frame.within t new))
            (λ far. inl (whole t (among_right t s.slots_before (s.slots_here ++ s.slots_after)
            (among_right t s.slots_here s.slots_after far))))
            (among_either t slots' s.slots_after r))
            (among_either t s.slots_before (slots' ++ s.slots_after) there);
        others = λ t out gone. frame.others t
            (λ old. out (whole t (among_right t s.slots_before (s.slots_here ++ s.slots_after)
            (among_left t s.slots_here s.slots_after old))))
            (λ new. gone (among_right t s.slots_before (slots' ++ s.slots_after) (among_left t slots' s.slots_after new)));
      };
    }

-- the same children, of which one was edited in its slot
pub rebuilt : (Edit : List Quad → List Quad → Type 0) → IsLocal Edit → (store : Option Room) (stores : ℕ) (p below q : PageMap)
    (level : ℕ) (pair : Bound) (i : ℕ) (rest : List Child)
    (first : Slot) (low : Bound) (high : Option Bound) (quads : List Quad) (slots : List Slot)
    (s : Seat p level pair i rest first low high quads slots)
    (h : Seated p level s.child s.from s.to s.here s.slots_here) (cells : List Entry) (page : List ℕ)
    → Changed Edit store stores p below level cells s.from s.to s.here h.below
    → q s.child ≡ Some page → Spells (record { level = level; cells = cells }) page → ((t : Slot) → t ≢ s.child → q t ≡ below t)
    → InStores stores q → AllIn low high (map (λ c. c.bound) rest)
    → Changed Edit store stores p q (suc level) (inner_entry [] 0 first ∷ map child_cell rest) low high quads slots
rebuilt Edit local store stores p below q level pair i rest first low high quads slots s h cells page c put spelled others
    in_stores within =
    let back : take i rest ++ ([] ++ drop i rest) ≡ rest = take-append-drop i rest in
    let child = reclosed Edit store stores p below q level s.child s.from s.to s.here s.slots_here h cells page c put spelled
    others in
    subst (λ (cs : List Child). Changed Edit store stores p q (suc level) (inner_entry [] 0 first ∷ map child_cell cs) low high
    quads slots) back
    (reseated Edit local store stores p q level pair i rest first low high quads slots s [] c.after (s.child ∷ c.reached) c.edit
    in_stores child.0 child.1
    (subst (λ (cs : List Child). AllIn low high (map (λ c. c.bound) cs)) (sym back) within))

-- ---- a room of less that was read

pub unread_before : (old new : ReadMap) (s : Slot) → Extends old new → new s ≡ None → old s ≡ None
unread_before old new s h none = by_case (old s) refl
  where
    differ : (o : Option (Option (List ℕ))) (x : Option (List ℕ)) → o ≡ Some x → o ≡ None → ⊥
    differ o x p q = cc

    by_case : (o : Option (Option (List ℕ))) → old s ≡ o → old s ≡ None
    by_case None is = is
    by_case (Some x) is = absurd (differ (new s) x (h.at s x is) none)

open_before : (store : Option ℕ) (a b : PageState) (p : PageMap) (s : Slot) → Extends a.reads b.reads
    → IsOpen (room_in store b) p s → IsOpen (room_in store a) p s
open_before None a b p s h free = free
open_before (Some n) a b p s h free = (free.0, (free.1.0, unread_before a.reads b.reads s h free.1.1))

frame_before : (store : Option ℕ) (a b : PageState) (p q : PageMap) (before after : List Slot) → Extends a.reads b.reads
    → Frame (room_in store b) p q before after → Frame (room_in store a) p q before after
frame_before store a b p q before after h frame = record {
  within = λ s there. ⊎_elim (λ old. inl old) (λ free. inr (open_before store a b p s h free)) (frame.within s there);
  others = frame.others;
}

pub changed_before : (Edit : List Quad → List Quad → Type 0) (store : Option ℕ) (a b : PageState) (stores : ℕ) (p q : PageMap)
    (level : ℕ) (cells : List Entry)
    (low : Bound) (high : Option Bound) (quads : List Quad) (below : List Slot) → Extends a.reads b.reads
    → Changed Edit (room_in store b) stores p q level cells low high quads below
    → Changed Edit (room_in store a) stores p q level cells low high quads below
changed_before Edit store a b stores p q level cells low high quads below h c = record {
  after = c.after;
  reached = c.reached;
  edit = c.edit;
  in_stores = c.in_stores;
  bears = c.bears;
  frame = frame_before store a b p q below c.reached h c.frame;
}

pub parted_before : (Edit : List Quad → List Quad → Type 0) (store : Option ℕ) (a b : PageState) (stores : ℕ) (p q : PageMap)
    (level : ℕ) (front : List Entry) (bound : Bound) (back : List Entry)
    (low : Bound) (high : Option Bound) (quads : List Quad) (below : List Slot) → Extends a.reads b.reads
    → Parted Edit (room_in store b) stores p q level front bound back low high quads below
    → Parted Edit (room_in store a) stores p q level front bound back low high quads below
parted_before Edit store a b stores p q level front bound back low high quads below h c = record {
  after_left = c.after_left;
  after_right = c.after_right;
  reached_left = c.reached_left;
  reached_right = c.reached_right;
  edit = c.edit;
  in_stores = c.in_stores;
  above = c.above;
  inside = c.inside;
  left = c.left;
  right = c.right;
  apart = c.apart;
  frame = frame_before store a b p q below (c.reached_left ++ c.reached_right) h c.frame;
}
