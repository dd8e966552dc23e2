-- States of a transaction one after the other, and the child that an edit meets in them.
use Rattle.std.proofs.Common.{◌≡◌, ◌≢◌, ⊎_elim, ℕ, zero, suc, ◌-◌, ◌<◌, false, List, [], ◌∷◌, ◌++◌, map, length, Option, Some}
use Rattle.std.proofs.Common.{None, IsSome, unwrap_or, refl, sym, ap, subst, ◌∙◌, arith}
use Rattle.std.specs.Prelude.{slice_get}
use Rattle.std.proofs.lemmas.List.{length-map}
use Rattle.pair_types.specs.declared.slot.Slot.{Slot}
use Rattle.pair_types.specs.declared.quad.Quad.{Quad}
use Rattle.pair_types.specs.declared.fault.PageFault.{PageFault}
use Rattle.pair_types.specs.PageMaps.{PageMap, ReadMap, Extends, Learns, Puts, laid, over, latest, page_of}
use Rattle.pair_types.specs.PageState.{PageState, Reads, Writes, GivesUp}
use Rattle.btree_page.specs.Content.{Bound, Entry, Leads, Content, Spells, IsPage, AreCells, inner_entry}
use Rattle.btree_page.specs.Tree.{AllIn, Child, child_cell, Subtree}
use Rattle.btree_page.proofs.Trees.{has_one_content}
use Rattle.btree_search.specs.declared.aim.Aim.TheVariants.{After}
use Rattle.btree_search.specs.Find.{BeginsAt}
use Rattle.btree_search.specs.Found.{OnlyReads}
use Rattle.btree_search.specs.Walk.{InStores, IsShown, LeadsAt}
use Rattle.btree_search.proofs.Ranges.{children_rise}
use Rattle.btree_search.proofs.Walks.{one_child, agrees_before, page_there, some_of}
use Rattle.btree_edit.specs.Edited.{GoesOn}
use Rattle.btree_edit.specs.Below.{Bears, BearsKids, IsMet}
use Rattle.btree_edit.proofs.Opened.{Seated, opened, slot_cases}
use Rattle.btree_edit.proofs.Seats.{Seat, seat, Falls, falls_so}

-- ---- what goes on

pub goes_same : (a : PageState) → GoesOn a a
goes_same a = record {
  lasts = record { stores = refl; below = refl; faults = λ fault. omega arith };
  extends = record { at = λ s held is. is };
}

pub goes_only : (a b : PageState) → OnlyReads a b → GoesOn a b
goes_only a b h = record { lasts = h.lasts; extends = h.extends }

pub goes_then : (a b c : PageState) → GoesOn a b → GoesOn b c → GoesOn a c
goes_then a b c h k = record {
  lasts = record {
    stores = k.lasts.stores ∙ h.lasts.stores;
    below = k.lasts.below ∙ h.lasts.below;
    faults = λ fault. omega (arith, h.lasts.faults fault, k.lasts.faults fault);
  };
  extends = record { at = λ s held is. k.extends.at s held (h.extends.at s held is) };
}

pub extends_learns : (old new : ReadMap) (s : Slot) → Learns old new s → Extends old new
extends_learns old new s h = record {
  at = λ t held is. ⊎_elim (λ same. here t held is same) (λ other. h.others t other ∙ is)
      (slot_cases t s);
}
  where
    here : (t : Slot) (held : Option (List ℕ)) → old t ≡ Some held → t ≡ s → new t ≡ Some held
    here t held is same =
        let there : old s ≡ Some held = subst (λ (x : Slot). old x ≡ Some held) same is in
        ap (λ (x : Slot). new x) same ∙ (h.kept (rw there refl) ∙ there)

pub goes_write : (a b : PageState) (s : Slot) (page : List ℕ) → Writes a b s page → GoesOn a b
goes_write a b s page h = record { lasts = h.lasts; extends = extends_learns a.reads b.reads s h.learns }

pub goes_gives_up : (a b : PageState) (fault : PageFault) → GivesUp a b fault → GoesOn a b
goes_gives_up a b fault h = record { lasts = h.lasts; extends = h.extends }

-- a write over a map
pub over_put : (old new under : PageMap) (s : Slot) (page : List ℕ) → Puts old new s page
    → Puts (over old under) (over new under) s page
over_put old new under s page h = record {
  put = ap (λ (o : Option (List ℕ)). laid o (under s)) h.put;
  others = λ t apart. ap (λ (o : Option (List ℕ)). laid o (under t)) (h.others t apart);
}

pub in_stores_put : (stores : ℕ) (p q : PageMap) (s : Slot) (page : List ℕ) → InStores stores p → s.store < stores
    → ((t : Slot) → t ≢ s → q t ≡ p t) → InStores stores q
in_stores_put stores p q s page h lt others = record {
  at = λ t some. ⊎_elim
      (λ same. subst (λ (x : Slot). x.store < stores) (sym same) lt)
      (λ other. h.at t (subst (λ (o : Option (List ℕ)). IsSome o) (others t other) some))
      (slot_cases t s);
}

-- ---- what is read in a slot stays so

same_read : (old new : ReadMap) (s : Slot) → Extends old new → IsSome (old s) → new s ≡ old s
same_read old new s h some = by_case (old s) refl some
  where
    by_case : (o : Option (Option (List ℕ))) → old s ≡ o → IsSome o → new s ≡ old s
    by_case None is some = absurd (no some)
      where
        no : IsSome {T = Option (List ℕ)} None → ⊥
        no h = cc
    by_case (Some held) is some = h.at s held is ∙ sym is

-- the page that was read in a slot is what it read as before and what was read later
pub reads_latest : (a b z : PageState) (slot : Slot) (page : List ℕ) → Reads a b slot page → Extends b.reads z.reads
    → slot.store < a.stores
    → page ≡ latest a.writes z.reads slot
reads_latest a b z slot page h later within =
    h.latest within
    ∙ (ap (λ (w : PageMap). latest w b.reads slot) h.writes
    ∙ ap (λ (r : Option (Option (List ℕ))). page_of (laid (a.writes slot) (unwrap_or r None)))
    (sym (same_read b.reads z.reads slot later (h.learns within).known)))

-- ---- the child that an edit meets

-- a child, by its slot, is one by its cell
leads_of : (i : ℕ) (rest : List Child) (first : Slot) (key : List ℕ) (birth : ℕ) (child : Slot)
    → slice_get (first ∷ map (λ c. c.slot) rest) i ≡ Some child
    → LeadsAt (inner_entry key birth first ∷ map child_cell rest) i child
leads_of zero rest first key birth child h =
    let same : first ≡ child = cc in record {
      cell = inner_entry key birth first;
      there = refl;
      leads =
          ap (λ (s : Slot). Leads s) same;
    }
leads_of (suc i) [] first key birth child h = absurd cc
leads_of (suc i) (next ∷ rest) first key birth child h =
    let more = leads_of i rest next.slot next.bound.key next.bound.birth child h in record {
      cell = more.cell;
      there = more.there;
      leads = more.leads;
    }

pub record Sought (p : PageMap) (level : ℕ) (pair : Bound) (i : ℕ) (cells : List Entry) (low : Bound) (high : Option Bound)
    (quads : List Quad) (slots : List Slot) : Type 0 where
  pub first : Slot
  pub rest : List Child
  pub children : cells ≡ inner_entry [] 0 first ∷ map child_cell rest
  pub within : AllIn low high (map (λ c. c.bound) rest)
  pub rise : AreCells false (Some (record { key = []; birth = 0 })) (map child_cell rest)
  pub falls : Falls pair i rest
  pub seat : Seat p level pair i rest first low high quads slots
  pub leads : LeadsAt cells i seat.child
  pub inner : Seated p level seat.child seat.from seat.to seat.here seat.slots_here

pub sought : (Given : List Quad → Type 0) (pair : Bound) (a z : PageState) (content : Content) (under : PageMap) (low : Bound)
    (high : Option Bound) (quads : List Quad) (slots : List Slot) (level past i : ℕ)
    → IsMet Given pair a z content under low high quads slots → content.level ≡ suc level → BeginsAt After pair content.cells past
    → i ≡ past - 1
    → Sought (over a.writes under) level pair i content.cells low high quads slots
sought Given pair a z content under low high quads slots level past i met is begins at =
    let p = over a.writes under in
    let bears : BearsKids (Subtree p level) content.cells low high quads slots =
    subst (λ (n : ℕ). Bears p n content.cells low high quads slots) is met.bears in
    let whole : content ≡ record { level = suc level; cells = inner_entry [] 0 bears.first ∷ map child_cell bears.rest } =
    ap (λ (n : ℕ). let made : Content = record { level = n; cells = content.cells } in made) is
    ∙ ap (λ (es : List Entry). let made : Content = record { level = suc level; cells = es } in made) bears.children in
    let rules : IsPage (record { level = suc level; cells = inner_entry [] 0 bears.first ∷ map child_cell bears.rest }) =
    subst (λ (c : Content). IsPage c) whole met.rules in
    let rise = children_rise level None (inner_entry [] 0 bears.first) (map child_cell bears.rest) rules.cells in
    let long : length content.cells ≡ suc (length bears.rest) = ap (λ (es : List Entry). length es) bears.children
    ∙ ap suc (length-map bears.rest child_cell) in
    let there : (k : ℕ) (e : Entry) → slice_get (map child_cell bears.rest) k ≡ Some e
    → slice_get content.cells (suc k) ≡ Some e =
    λ k e h. subst (λ (es : List Entry). slice_get es (suc k) ≡ Some e) (sym bears.children) h in
    let falls = falls_so pair i bears.rest (omega (arith, begins.within))
    (λ k lt e h. begins.before (suc k) (omega arith) e (there k e h))
    (λ k le e h. begins.after (suc k) (omega arith) e (there k e h)) in
    let s = seat p level pair i bears.rest bears.first low high quads slots (record { key = []; birth = 0 }) bears.kids rise
    bears.within met.falls falls in
    record {
      first = bears.first;
      rest = bears.rest;
      children = bears.children;
      within = bears.within;
      rise = rise;
      falls = falls;
      seat = s;
      leads = subst (λ (es : List Entry). LeadsAt es i s.child) (sym bears.children)
          (leads_of i bears.rest bears.first [] 0 s.child s.leads);
      inner = opened p level s.child s.from s.to s.here s.slots_here s.tree;
    }

-- the page that was read for the child is the child's
pub child_read : (Given : List Quad → Type 0) (pair : Bound) (a b z : PageState) (content : Content) (under : PageMap)
    (low : Bound) (high : Option Bound) (quads : List Quad) (slots : List Slot)
    (level i : ℕ) (slot : Slot) (page : List ℕ) → IsMet Given pair a z content under low high quads slots
    → (s : Sought (over a.writes under) level pair i content.cells low high quads slots) → LeadsAt content.cells i slot
    → Reads a b slot page → GoesOn b z
    → (s.seat.child ≡ slot) × (page ≡ s.inner.page.bytes)
child_read Given pair a b z content under low high quads slots level i slot page met s leads reads goes =
    let same : s.seat.child ≡ slot = one_child content.cells i s.seat.child slot s.leads leads in
    let held : over a.writes under slot ≡ Some s.inner.page.bytes =
    subst (λ (x : Slot). over a.writes under x ≡ Some s.inner.page.bytes) same s.inner.page.held in
    let within : slot.store < z.stores = met.in_stores.at slot (some_of (over a.writes under slot) s.inner.page.bytes held) in (
      same,
      page_there a b slot page under s.inner.page.bytes reads (agrees_before b.reads z.reads under goes.extends met.agrees)
          (omega (arith, within, goes.lasts.stores, reads.lasts.stores))
          (subst (λ (w : PageMap). over w under slot ≡ Some s.inner.page.bytes) (sym reads.writes) held),
    )

-- the edit meets the child
pub record MetChild (Given : List Quad → Type 0) (pair : Bound) (a b z : PageState) (content below : Content) (under : PageMap)
    (low : Bound) (high : Option Bound) (quads : List Quad) (slots : List Slot) (level i : ℕ) (slot : Slot)
    (page : List ℕ) : Type 0 where
  pub sought : Sought (over a.writes under) level pair i content.cells low high quads slots
  pub is_child : sought.seat.child ≡ slot
  pub is_page : over a.writes under sought.seat.child ≡ Some page
  pub on : below.level ≡ level
  pub met : IsMet Given pair b z below under sought.seat.from sought.seat.to sought.seat.here sought.inner.below

-- what is given of a list is given of its parts
abbrev pub IsPartial : (List Quad → Type 0) → Type 0
IsPartial Given = (before here after : List Quad) → Given (before ++ (here ++ after)) → Given here

pub met_child : (Given : List Quad → Type 0) → IsPartial Given → (pair : Bound) (a b z : PageState) (content below : Content)
    (under : PageMap) (low : Bound) (high : Option Bound) (quads : List Quad) (slots : List Slot)
    (level past i : ℕ) (slot : Slot) (page : List ℕ) → IsMet Given pair a z content under low high quads slots
    → content.level ≡ suc level → BeginsAt After pair content.cells past → i ≡ past - 1
    → LeadsAt content.cells i slot → Reads a b slot page → GoesOn b z → IsShown level level page below
    → MetChild Given pair a b z content below under low high quads slots level i slot page
met_child Given partial pair a b z content below under low high quads slots level past i slot page met is begins at leads reads
    goes shown =
    let p = over a.writes under in
    let s = sought Given pair a z content under low high quads slots level past i met is begins at in
    let read = child_read Given pair a b z content under low high quads slots level i slot page met s leads reads goes in
    let spelled : Spells below s.inner.page.bytes = subst (λ (xs : List ℕ). Spells below xs) read.1 shown.spelled in
    let one : below ≡ record { level = level; cells = s.inner.cells } = has_one_content s.inner.page.bytes below _ spelled
    s.inner.page.spelled in
    let bears : Bears p below.level below.cells s.seat.from s.seat.to s.seat.here s.inner.below =
    subst (λ (c : Content). Bears p c.level c.cells s.seat.from s.seat.to s.seat.here s.inner.below) (sym one) s.inner.bears in
    record {
      sought = s;
      is_child = read.0;
      is_page = subst (λ (xs : List ℕ). p s.seat.child ≡ Some xs) (sym read.1) s.inner.page.held;
      on = ap (λ (c : Content). c.level) one;
      met = record {
        rules = shown.spelled.rules;
        agrees = met.agrees;
        in_stores = subst (λ (w : PageMap). InStores z.stores (over w under)) (sym reads.writes) met.in_stores;
        bears = subst (λ (w : PageMap). Bears (over w under) below.level below.cells s.seat.from s.seat.to s.seat.here
            s.inner.below) (sym reads.writes) bears;
        falls = s.seat.falls;
        given = partial s.seat.before s.seat.here s.seat.after (subst (λ (qs : List Quad). Given qs) s.seat.all_quads met.given);
      };
    }
