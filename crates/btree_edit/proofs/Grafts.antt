-- A child that was divided, and its second part as a child more of its parent.
use Rattle.std.proofs.Common.{◌≡◌, ◌≢◌, ◌⊎◌, unwrap_or, ⊎_elim, inl, inr, ℕ, zero, suc, ◌-◌, ◌+◌, ◌<◌, ◌≤◌, true, false, List, []}
use Rattle.std.proofs.Common.{◌∷◌, ◌++◌, map, length, take, drop, Option, Some, None, IsSome, Ok, Err, Result, refl, sym, ap}
use Rattle.std.proofs.Common.{subst, ◌∙◌, arith, add-one}
use Rattle.std.specs.Prelude.{slice_get, MatchResult}
use Rattle.std.specs.List.{insert}
use Rattle.std.proofs.lemmas.Bool.{cases_lt}
use Rattle.std.proofs.lemmas.List.Edits.{length-insert}
use Rattle.std.proofs.lemmas.Cmp.{tied_itself}
use Rattle.std.specs.declared.cmp.Ordering.{Ordering}
use Rattle.std.specs.declared.cmp.Ordering.TheVariants.{Less, Greater}
use Rattle.pair_types.specs.declared.slot.Slot.{Slot}
use Rattle.pair_types.specs.declared.quad.Quad.{Quad}
use Rattle.pair_types.specs.declared.fault.PageFault.{PageFault}
use Rattle.pair_types.specs.declared.fault.PairFault.{PairFault}
use Rattle.pair_types.specs.declared.fault.PairFault.TheVariants.{Odd, HeightFull, Page as PageGave}
use Rattle.pair_types.specs.PageMaps.{PageMap, Extends, laid, over, latest, page_of}
use Rattle.pair_types.specs.PageState.{PageState, IsSound, Reads}
use Rattle.btree_page.specs.Content.{Bound, bound_cmp, Entry, Content, Spells, bound_of, inner_entry}
use Rattle.btree_page.specs.Tree.{IsIn, AllIn, Among, Child, child_cell, Kids, Subtree}
use Rattle.btree_page.proofs.Trees.{among_left, among_right, among_either, has_one_content}
use Rattle.btree_search.specs.declared.aim.Aim.{Aim}
use Rattle.btree_search.specs.declared.aim.Aim.TheVariants.{AtOrAfter, After}
use Rattle.btree_search.specs.Aim.{is_sought}
use Rattle.btree_search.specs.Find.{BeginsAt}
use Rattle.btree_search.specs.Found.{OnlyReads, HasCause}
use Rattle.btree_search.specs.Walk.{InStores, IsShown, LeadsAt}
use Rattle.btree_search.proofs.Order.{bound_total, turned}
use Rattle.btree_search.proofs.Ways.{no_page, shown_within}
use Rattle.btree_edit.specs.declared.change.Change.{Change}
use Rattle.btree_edit.specs.declared.change.Change.TheVariants.{Remove, End, Replace, Insert}
use Rattle.btree_edit.specs.declared.outcome.Edited.{Edited}
use Rattle.btree_edit.specs.declared.outcome.Edited.TheVariants.{Missing, Below, Page, Two}
use Rattle.btree_edit.specs.Edits.{bound_at}
use Rattle.btree_edit.specs.Edited.{Room, room_in, IsOpen, Frame, GoesOn}
use Rattle.btree_edit.specs.Changes.{pair_of, edit_of, given_of, open_of}
use Rattle.btree_edit.specs.Below.{Bears, IsMet, Changed, ChangesTo, Parted, IsNotMet, StaysFrom, Grows, Finds, FindsBelow}
use Rattle.btree_edit.specs.Below.{Divides, IsEdited, EditsBelow, PutsTwo, GaveUp, Grafts, IsNoGraft}
use Rattle.btree_edit.proofs.Least.{least_first, up_to}
use Rattle.btree_edit.proofs.Opened.{Seated, closed, bears_keep, kids_present, some_not_none, slot_cases}
use Rattle.btree_edit.proofs.Seats.{from_of, to_of}
use Rattle.btree_edit.proofs.Rebuilt.{not_open, some_held, reseated, unread_before, parted_before}
use Rattle.btree_edit.proofs.Divided.{divided}
use Rattle.btree_edit.proofs.States.{goes_only, goes_then, reads_latest, MetChild, met_child}
use Rattle.btree_edit.proofs.Steps.{level_above, stays_up, met_earlier, local_of, partial_of, finds_up, grows_up}

pub bears_present : (q : PageMap) (level : ℕ) (cells : List Entry) (low : Bound) (high : Option Bound) (quads : List Quad)
    (below : List Slot)
    → Bears q level cells low high quads below → (s : Slot) → Among s below → IsSome (q s)
bears_present q zero cells low high quads below h s there = absurd (subst (λ (ss : List Slot). Among s ss) h.nothing there)
bears_present q (suc level) cells low high quads below h s there = kids_present q level h.rest h.first low high quads below h.kids
    s there

-- ---- two children from two pages

-- the parts lie in the slot of the child and in one that was absent
pub twins : (Edit : List Quad → List Quad → Type 0) (asked : ℕ) (store : Option Room) (stores : ℕ) (p mid q : PageMap) (level : ℕ)
    (slot fresh : Slot) (low : Bound) (high : Option Bound) (quads : List Quad) (slots : List Slot)
    (h : Seated p level slot low high quads slots) (front : List Entry) (bound : Bound) (back : List Entry) (left right : List ℕ)
    (c : Parted Edit store stores p mid level front bound back low high quads h.below)
    → p fresh ≡ None → mid fresh ≡ None → IsOpen store p fresh → q slot ≡ Some left → q fresh ≡ Some right
    → Spells (record { level = level; cells = front }) left → Spells (record { level = level; cells = back }) right
    → ((s : Slot) → s ≢ slot → s ≢ fresh → q s ≡ mid s)
    → Subtree q level slot low (Some bound) c.after_left (slot ∷ c.reached_left)
    × Subtree q level fresh bound high c.after_right (fresh ∷ c.reached_right)
    × ((s : Slot) → Among s (slot ∷ c.reached_left) → Among s (fresh ∷ c.reached_right) → ⊥)
    × Frame store p q slots ((slot ∷ c.reached_left) ++ (fresh ∷ c.reached_right))
twins Edit asked store stores p mid q level slot fresh low high quads slots h front bound back left right c absent missing free
    left_put right_put left_page right_page others =
    let present = some_held p slot _ h.page in
    let two : slot ≢ fresh = λ is. some_not_none (p slot) present (ap (λ (s : Slot). p s) is ∙ absent) in
    let out : Among slot (c.reached_left ++ c.reached_right) → ⊥ =
    λ there. ⊎_elim (λ old. h.apart old) (λ open'. not_open store p slot present open') (c.frame.within slot there) in
    let out_left : Among slot c.reached_left → ⊥ = λ there. out (among_left slot c.reached_left c.reached_right there) in
    let out_right : Among slot c.reached_right → ⊥ = λ there. out (among_right slot c.reached_left c.reached_right there) in
    let new_left : Among fresh c.reached_left → ⊥ =
    λ there. some_not_none (mid fresh) (bears_present mid level front low (Some bound) c.after_left c.reached_left c.left
    fresh there) missing in
    let new_right : Among fresh c.reached_right → ⊥ =
    λ there. some_not_none (mid fresh) (bears_present mid level back bound high c.after_right c.reached_right c.right fresh
    there) missing in
    let away : (s : Slot) (ss : List Slot) (t : Slot) → (Among t ss → ⊥) → Among s ss → s ≢ t =
    λ s ss t no there is. no (subst (λ (x : Slot). Among x ss) is there) in
    let kept_left : (s : Slot) → Among s c.reached_left → q s ≡ mid s =
    λ s there. others s (away s c.reached_left slot out_left there) (away s c.reached_left fresh new_left there) in
    let kept_right : (s : Slot) → Among s c.reached_right → q s ≡ mid s =
    λ s there. others s (away s c.reached_right slot out_right there) (away s c.reached_right fresh new_right there) in (
      closed q level slot low (Some bound) c.after_left (slot ∷ c.reached_left) (record {
        below = c.reached_left;
        cells = front;
        page = record { bytes = left; held = left_put; spelled = left_page };
        bears = bears_keep mid q level front low (Some bound) c.after_left c.reached_left c.left kept_left;
        reached = refl;
        apart = out_left;
      }),
      closed q level fresh bound high c.after_right (fresh ∷ c.reached_right) (record {
        below = c.reached_right;
        cells = back;
        page = record { bytes = right; held = right_put; spelled = right_page };
        bears = bears_keep mid q level back bound high c.after_right c.reached_right c.right kept_right;
        reached = refl;
        apart = new_right;
      }),
      λ s l r. ⊎_elim
          (λ is. ⊎_elim (λ is'. two (sym is ∙ is')) (λ far. out_right (subst (λ (x : Slot). Among x c.reached_right) is far)) r)
          (λ near. ⊎_elim (λ is'. new_left (subst (λ (x : Slot). Among x c.reached_left) is' near)) (λ far. c.apart s near far) r)
          l,
      record {
        within = λ s there. ⊎_elim
            (λ l. ⊎_elim (λ is. inl (subst (λ (ss : List Slot). Among s ss) (sym h.reached) (inl is)))
            (λ near. from_mid s (among_left s c.reached_left c.reached_right near)) l)
            (λ r. ⊎_elim (λ is. inr (subst (λ (x : Slot). IsOpen store p x) (sym is) free))
            (λ far. from_mid s (among_right s c.reached_left c.reached_right far)) r)
            (among_either s (slot ∷ c.reached_left) (fresh ∷ c.reached_right) there);
        others = λ s gone new.
            let not_slot : s ≢ slot = λ is. gone (subst (λ (ss : List Slot). Among s ss) (sym h.reached) (inl is)) in
            let not_fresh : s ≢ fresh = λ is. new (among_right s (slot ∷ c.reached_left) (fresh ∷ c.reached_right) (inl is)) in
            others s not_slot not_fresh
            ∙ c.frame.others s (λ old. gone (subst (λ (ss : List Slot). Among s ss) (sym h.reached) (inr old)))
            (λ there. ⊎_elim
            (λ near. new (among_left s (slot ∷ c.reached_left) (fresh ∷ c.reached_right) (inr near)))
            (λ far. new (among_right s (slot ∷ c.reached_left) (fresh ∷ c.reached_right) (inr far)))
            (among_either s c.reached_left c.reached_right there));
      },
    )
  where
    from_mid : (s : Slot) → Among s (c.reached_left ++ c.reached_right) → Among s slots ⊎ IsOpen store p s
    from_mid s there = ⊎_elim (λ old. inl (subst (λ (ss : List Slot). Among s ss) (sym h.reached) (inr old))) (λ open'. inr open')
        (c.frame.within s there)

-- ---- the parent

allin_insert : (low : Bound) (high : Option Bound) (rest : List Child) (i : ℕ) (new : Child)
    → AllIn low high (map (λ c. c.bound) rest) → IsIn low high new.bound
    → AllIn low high (map (λ c. c.bound) (take i rest ++ ((new ∷ []) ++ drop i rest)))
allin_insert low high [] zero new h k = (k, tt)
allin_insert low high [] (suc i) new h k = (k, tt)
allin_insert low high (c ∷ rest) zero new h k = (k, h)
allin_insert low high (c ∷ rest) (suc i) new h k = (h.0, allin_insert low high rest i new h.1 k)

insert_child : (rest : List Child) (i : ℕ) (new : Child) → map child_cell (take i rest ++ ((new ∷ []) ++ drop i rest)) ≡ insert
    (map child_cell rest) i (child_cell new)
insert_child [] zero new = refl
insert_child [] (suc i) new = refl
insert_child (c ∷ rest) zero new = refl
insert_child (c ∷ rest) (suc i) new = ap (λ (es : List Entry). child_cell c ∷ es) (insert_child rest i new)

-- ---- where the bound falls between the cells

-- the cell at an index is at or below the low end of the child, and the next one is at its high end
low_cell : (i : ℕ) (rest : List Child) (low : Bound) (first : Slot) (key : List ℕ) (birth : ℕ) (e : Entry)
    → bound_cmp (record { key = key; birth = birth }) low ≢ Greater
    → slice_get (inner_entry key birth first ∷ map child_cell rest) i ≡ Some e
    → bound_cmp (bound_of e) (from_of i rest low) ≢ Greater
low_cell zero rest low first key birth e le h =
    let same : inner_entry key birth first ≡ e = cc in subst (λ (x : Entry). bound_cmp (bound_of x) low ≢ Greater) same le
low_cell (suc i) [] low first key birth e le h = absurd cc
low_cell (suc i) (next ∷ rest) low first key birth e le h = low_cell i rest next.bound next.slot next.bound.key next.bound.birth e
    (itself next.bound) h
  where
    itself : (b : Bound) → bound_cmp b b ≢ Greater
    itself b = λ f. let tied = tied_itself bound_total b in cc

high_cell : (i : ℕ) (rest : List Child) (high : Option Bound) (e : Entry) → slice_get (map child_cell rest) i ≡ Some e
    → to_of i rest high ≡ Some (bound_of e)
high_cell i [] high e h = absurd cc
high_cell zero (next ∷ rest) high e h =
    let same : child_cell next ≡ e = cc in ap (λ (x : Entry). Some (bound_of x)) same
high_cell (suc i) (next ∷ rest) high e h = high_cell i rest high e h

begins_there : (aim : Aim) (bound : Bound) (cells : List Entry) (i n : ℕ) → i < length cells → BeginsAt aim bound cells n
    → ((e : Entry) → slice_get cells i ≡ Some e → bound_cmp (bound_of e) bound ≡ Less)
    → ((e : Entry) → slice_get cells (suc i) ≡ Some e → bound_cmp (bound_of e) bound ≡ Greater)
    → n ≡ i + 1
begins_there aim bound cells i n lt h low high =
    ⊎_elim
    (λ short. absurd (too_low (omega arith)))
    (λ more. ⊎_elim (λ long. absurd (too_high long)) (λ fits. omega arith) (cases_lt (suc i) n))
    (cases_lt n (suc i))
  where
    some : (k : ℕ) (es : List Entry) → k < length es → (e : Entry) × (slice_get es k ≡ Some e)
    some k [] lt = absurd (omega arith)
    some zero (e ∷ es) lt = (e, refl)
    some (suc k) (e ∷ es) lt = some k es (omega arith)

    less_unsought : (aim : Aim) (o : Ordering) → o ≡ Less → is_sought aim o ≡ true → ⊥
    less_unsought AtOrAfter o is t = let s : is_sought AtOrAfter o ≡ false = ap (λ (x : Ordering). is_sought AtOrAfter x) is in cc
    less_unsought After o is t = let s : is_sought After o ≡ false = ap (λ (x : Ordering). is_sought After x) is in cc

    more_sought : (aim : Aim) (o : Ordering) → o ≡ Greater → is_sought aim o ≡ false → ⊥
    more_sought AtOrAfter o is t = let s : is_sought AtOrAfter o ≡ true = ap (λ (x : Ordering). is_sought AtOrAfter x) is in cc
    more_sought After o is t = let s : is_sought After o ≡ true = ap (λ (x : Ordering). is_sought After x) is in cc

    too_low : n ≤ i → ⊥
    too_low le =
        let x = some i cells lt in less_unsought aim _ (low x.0 x.1) (h.after i le x.0 x.1)

    too_high : suc i < n → ⊥
    too_high up =
        let x = some (suc i) cells (omega (arith, h.within)) in more_sought aim _ (high x.0 x.1) (h.before (suc i) up x.0 x.1)

-- ---- the facts of one child that was divided

pub none_of : (r : Option (Option (List ℕ))) → (IsSome r → ⊥) → r ≡ None
none_of None h = refl
none_of (Some x) h = absurd (h refl)

none_of_page : (r : Option (List ℕ)) → (IsSome r → ⊥) → r ≡ None
none_of_page None h = refl
none_of_page (Some x) h = absurd (h refl)

some_read : (r : Option (Option (List ℕ))) → IsSome r → (x : Option (List ℕ)) × (r ≡ Some x)
some_read (Some x) h = (x, refl)
some_read None h = absurd (no h)
  where
    no : IsSome {T = Option (List ℕ)} None → ⊥
    no h = cc

-- what was not read later was not written before
pub unwritten_before : (a c : PageState) (s : Slot) → IsSound a → Extends a.reads c.reads → c.reads s ≡ None → a.writes s ≡ None
unwritten_before a c s sound later unread = none_of_page (a.writes s) (λ written.
    let x = some_read (a.reads s) (sound.covers s written) in
    let known = later.at s x.0 x.1 in differ (c.reads s) x.0 unread known)
  where
    differ : (r : Option (Option (List ℕ))) (x : Option (List ℕ)) → r ≡ None → r ≡ Some x → ⊥
    differ r x p q = cc

pub open_free : (change : Change) (store : ℕ) (a : PageState) (p : PageMap) (s : Slot) (old new : PageState) (content : Content)
    → Grows change old new content
    → p s ≡ None → s.store ≡ store → a.reads s ≡ None → IsOpen (room_in (open_of change store) a) p s
open_free (Remove key birth) store a p s old new content grows absent there unread = absurd grows
open_free (End key birth death) store a p s old new content grows absent there unread = absurd grows
open_free (Replace q) store a p s old new content grows absent there unread = (absent, (there, unread))
open_free (Insert q) store a p s old new content grows absent there unread = (absent, (there, unread))

-- all that is known where a child was divided and its parts were put
pub record WasPut (change : Change) (store : ℕ) (a b c d : PageState) (content below : Content) (past i : ℕ) (slot : Slot)
    (page left : List ℕ) (bound : Bound) (right : List ℕ) (fresh : Slot) : Type 0 where
  pub inner : content.level ≢ 0
  pub begins : BeginsAt After (pair_of change) content.cells past
  pub at : i ≡ past - 1
  pub leads : LeadsAt content.cells i slot
  pub reads : Reads a b slot page
  pub only : OnlyReads a b
  pub shown : IsShown (content.level - 1) (content.level - 1) page below
  pub goes : GoesOn b c
  pub stays : StaysFrom below.level b c
  pub parts : Divides change store b c below left bound right
  pub finds : Finds change b c below
  pub puts : PutsTwo c d slot left store fresh right
  pub sound : IsSound a
  pub asked : store < a.stores

pub put_later : (change : Change) (store : ℕ) (a b c d : PageState) (content below : Content) (past i : ℕ) (slot : Slot)
    (page left : List ℕ) (bound : Bound) (right : List ℕ) (fresh : Slot)
    → WasPut change store a b c d content below past i slot page left bound right fresh → GoesOn b d
put_later change store a b c d content below past i slot page left bound right fresh w = goes_then b c d w.goes w.puts.goes_on

-- the child is met, and its parts
record MetParts (change : Change) (store : ℕ) (a b c d : PageState) (content below : Content) (i : ℕ) (slot : Slot)
    (page : List ℕ) (front : List Entry) (bound : Bound) (back : List Entry)
    (under : PageMap) (low : Bound) (high : Option Bound) (quads : List Quad) (slots : List Slot) : Type 0 where
  m : MetChild (given_of change) (pair_of change) a b d content below under low high quads slots (content.level - 1) i slot page
  parted : Parted (edit_of change) (room_in (open_of change store) a) c.stores (over a.writes under) (over c.writes under)
      (content.level - 1) front bound back
      m.sought.seat.from m.sought.seat.to m.sought.seat.here m.sought.inner.below

met_parts : (change : Change) (store : ℕ) (a b c d : PageState) (content below : Content) (past i : ℕ) (slot : Slot)
    (page left : List ℕ) (bound : Bound) (right : List ℕ) (fresh : Slot)
    (w : WasPut change store a b c d content below past i slot page left bound right fresh)
    (under : PageMap) (low : Bound) (high : Option Bound) (quads : List Quad) (slots : List Slot)
    → IsMet (given_of change) (pair_of change) a d content under low high quads slots
    → MetParts change store a b c d content below i slot page w.parts.front bound w.parts.back under low high quads slots
met_parts change store a b c d content below past i slot page left bound right fresh w under low high quads slots met =
    let m = met_child (given_of change) (partial_of change) (pair_of change) a b d content below under low high quads slots
    (content.level - 1) past i slot page met (level_above _ w.inner) w.begins w.at w.leads w.reads
    (put_later change store a b c d content below past i slot page left bound right fresh w) w.shown in
    let s = m.sought in
    let before = met_earlier (given_of change) (pair_of change) b c d below under s.seat.from s.seat.to s.seat.here s.inner.below
    w.puts.goes_on m.met in
    record {
      m = m;
      parted = parted_before (edit_of change) (open_of change store) a b c.stores (over a.writes under) (over c.writes under)
          (content.level - 1) w.parts.front bound w.parts.back
          s.seat.from s.seat.to s.seat.here s.inner.below w.only.extends
          (subst (λ (n : ℕ). Parted (edit_of change) (room_in (open_of change store) b) c.stores (over a.writes under)
          (over c.writes under) n w.parts.front bound w.parts.back s.seat.from s.seat.to s.seat.here s.inner.below) m.on
          (subst (λ (v : PageMap). Parted (edit_of change) (room_in (open_of change store) b) c.stores (over v under)
          (over c.writes under) below.level w.parts.front bound w.parts.back s.seat.from s.seat.to s.seat.here s.inner.below)
          w.reads.writes
          (w.parts.parts under s.seat.from s.seat.to s.seat.here s.inner.below before)));
    }

graft_grows : (change : Change) (store : ℕ) (a b c d : PageState) (content below : Content) (past i : ℕ) (slot : Slot)
    (page left : List ℕ) (bound : Bound) (right : List ℕ) (fresh : Slot)
    → WasPut change store a b c d content below past i slot page left bound right fresh → Grows change a d content
graft_grows change store a b c d content below past i slot page left bound right fresh w =
    grows_up change a b c d content below past i slot page w.inner w.begins w.at w.leads w.reads w.goes w.puts.goes_on w.shown
    w.parts.grows

-- with the second part as a child more, the page has edited records
graft_changes : (change : Change) (store : ℕ) (a b c d : PageState) (content below : Content) (past i : ℕ) (slot : Slot)
    (page left : List ℕ) (bound : Bound) (right : List ℕ) (fresh : Slot)
    → WasPut change store a b c d content below past i slot page left bound right fresh
    → ChangesTo (edit_of change) (given_of change) (open_of change store) (pair_of change) a d content
    (insert content.cells (suc i) (inner_entry bound.key bound.birth fresh))
graft_changes change store a b c d content below past i slot page left bound right fresh w = λ under low high quads slots met.
    let x = met_parts change store a b c d content below past i slot page left bound right fresh w under low high quads slots met
    in
    let s = x.m.sought in
    let p = over a.writes under in
    let mid = over c.writes under in
    let q = over d.writes under in
    let under_none : under fresh ≡ None = met.agrees.at fresh None w.puts.absent in
    let a_none : a.writes fresh ≡ None =
    unwritten_before a c fresh w.sound (goes_then a b c (goes_only a b w.only) w.goes).extends w.puts.unread in
    let unread : a.reads fresh ≡ None =
    unread_before a.reads c.reads fresh (goes_then a b c (goes_only a b w.only) w.goes).extends w.puts.unread in
    let absent : p fresh ≡ None = ap (λ (o : Option (List ℕ)). laid o (under fresh)) a_none ∙ under_none in
    let missing : mid fresh ≡ None = ap (λ (o : Option (List ℕ)). laid o (under fresh)) w.puts.unwritten ∙ under_none in
    let some : IsSome (p s.seat.child) = some_held p s.seat.child _ s.inner.page in
    let two : slot ≢ fresh = λ is. some_not_none (p s.seat.child) some (ap (λ (t : Slot). p t) (x.m.is_child ∙ is) ∙ absent) in
    let left_put : q s.seat.child ≡ Some left = ap (λ (t : Slot). q t) x.m.is_child
    ∙ ap (λ (o : Option (List ℕ)). laid o (under slot)) w.puts.left_put in
    let right_put : q fresh ≡ Some right = ap (λ (o : Option (List ℕ)). laid o (under fresh)) (w.puts.right_put two) in
    let others : (t : Slot) → t ≢ s.seat.child → t ≢ fresh → q t ≡ mid t =
    λ t apart other. ap (λ (o : Option (List ℕ)). laid o (under t)) (w.puts.others t (λ is. apart (is ∙ sym x.m.is_child)) other)
    in
    let front_page : Spells (record { level = content.level - 1; cells = w.parts.front }) left =
    subst (λ (n : ℕ). Spells (record { level = n; cells = w.parts.front }) left) x.m.on w.parts.left_page in
    let back_page : Spells (record { level = content.level - 1; cells = w.parts.back }) right =
    subst (λ (n : ℕ). Spells (record { level = n; cells = w.parts.back }) right) x.m.on w.parts.right_page in
    let t = twins (edit_of change) store (room_in (open_of change store) a) c.stores p mid q (content.level - 1) s.seat.child
    fresh s.seat.from s.seat.to s.seat.here s.seat.slots_here s.inner w.parts.front bound w.parts.back left right x.parted
    absent missing (open_free change store a p fresh b c below w.parts.grows absent w.puts.in_store unread) left_put right_put
    front_page back_page others in
    let new : Child = record { bound = bound; slot = fresh } in
    let kids : Kids (Subtree q (content.level - 1)) s.seat.child s.seat.from (new ∷ []) s.seat.to (x.parted.after_left
    ++ x.parted.after_right)
    ((s.seat.child ∷ x.parted.reached_left) ++ (fresh ∷ x.parted.reached_right)) = record {
      quads_left = x.parted.after_left;
      quads_right = x.parted.after_right;
      slots_left = s.seat.child ∷ x.parted.reached_left;
      slots_right = fresh ∷ x.parted.reached_right;
      left = t.0;
      right = t.1;
      all_quads = refl;
      all_slots = refl;
      apart = record { none = t.2 };
    } in
    let within : slot.store < a.stores = shown_within a b slot page _ _ below w.reads w.shown in
    let stored : InStores c.stores q = record {
      at = λ y some_y. ⊎_elim
          (λ is. subst (λ (z : Slot). z.store < c.stores) (sym is)
          (omega (arith, within, w.goes.lasts.stores, w.only.lasts.stores)))
          (λ not_child. ⊎_elim
          (λ is. subst (λ (z : Slot). z.store < c.stores) (sym is)
          (omega (arith, w.puts.in_store, w.asked, w.goes.lasts.stores, w.only.lasts.stores)))
          (λ not_fresh. x.parted.in_stores.at y (subst (λ (o : Option (List ℕ)). IsSome o)
          (others y (λ is. not_child (is ∙ x.m.is_child)) not_fresh) some_y))
          (slot_cases y fresh))
          (slot_cases y slot);
    } in
    let wide = allin_insert low high s.rest i new s.within (s.seat.widens bound x.parted.inside) in
    let done = reseated (edit_of change) (local_of change) (room_in (open_of change store) a) c.stores p q (content.level - 1)
    (pair_of change) i s.rest s.first low high quads slots s.seat (new ∷ []) (x.parted.after_left ++ x.parted.after_right)
    ((s.seat.child ∷ x.parted.reached_left) ++ (fresh ∷ x.parted.reached_right)) x.parted.edit stored kids t.3 wide in
    let cells : inner_entry [] 0 s.first ∷ map child_cell (take i s.rest ++ ((new ∷ []) ++ drop i s.rest)) ≡ insert content.cells
    (suc i) (child_cell new) =
    ap (λ (es : List Entry). inner_entry [] 0 s.first ∷ es) (insert_child s.rest i new)
    ∙ ap (λ (es : List Entry). insert es (suc i) (child_cell new)) (sym s.children) in
    subst (λ (n : ℕ). Changed (edit_of change) (room_in (open_of change store) a) n p q content.level
    (insert content.cells (suc i) (child_cell new)) low high quads slots) (sym w.puts.goes_on.lasts.stores)
    (subst (λ (n : ℕ). Changed (edit_of change) (room_in (open_of change store) a) c.stores p q n
    (insert content.cells (suc i) (child_cell new)) low high quads slots) (sym (level_above _ w.inner))
    (subst (λ (es : List Entry). Changed (edit_of change) (room_in (open_of change store) a) c.stores p q
    (suc (content.level - 1)) es low high quads slots) cells done))

-- what was written lay on lower levels
graft_stays : (change : Change) (store : ℕ) (a b c d : PageState) (content below : Content) (past i : ℕ) (slot : Slot)
    (page left : List ℕ) (bound : Bound) (right : List ℕ) (fresh : Slot)
    → WasPut change store a b c d content below past i slot page left bound right fresh → StaysFrom content.level a d
graft_stays change store a b c d content below past i slot page left bound right fresh w = λ s content' spelled high. ⊎_elim
    (λ same. absurd (at_slot content' (subst (λ (t : Slot). Spells content' (latest a.writes d.reads t)) same spelled) high))
    (λ not_slot. ⊎_elim
    (λ same. absurd (at_fresh content' (subst (λ (t : Slot). Spells content' (latest a.writes d.reads t)) same spelled)))
    (λ not_fresh.
    let up = stays_up below.level content.level a b c (omega (arith, w.shown.to)) w.reads.writes w.stays in
    w.puts.others s not_slot not_fresh
    ∙ up s content' (subst (λ (r : Option (Option (List ℕ))). Spells content' (page_of (laid (a.writes s) (unwrap_or r None))))
    (w.puts.other_reads s not_slot not_fresh) spelled) high)
    (slot_cases s fresh))
    (slot_cases s slot)
  where
    at_slot : (content' : Content) → Spells content' (latest a.writes d.reads slot) → content.level ≤ content'.level → ⊥
    at_slot content' spelled high =
        let within : slot.store < a.stores = shown_within a b slot page _ _ below w.reads w.shown in
        let later = put_later change store a b c d content below past i slot page left bound right fresh w in
        let one : content' ≡ below = has_one_content page content' below (subst (λ (xs : List ℕ). Spells content' xs)
        (sym (reads_latest a b d slot page w.reads later.extends within)) spelled) w.shown.spelled in
        omega (arith, ap (λ (x : Content). x.level) one, w.shown.to, level_above _ w.inner)

    at_fresh : (content' : Content) → Spells content' (latest a.writes d.reads fresh) → ⊥
    at_fresh content' spelled =
        let a_none : a.writes fresh ≡ None =
        unwritten_before a c fresh w.sound (goes_then a b c (goes_only a b w.only) w.goes).extends w.puts.unread in
        no_page content' (latest a.writes d.reads fresh) spelled
        (ap (λ (o : Option (List ℕ)). page_of (laid o (unwrap_or (d.reads fresh) None))) a_none
        ∙ ap (λ (r : Option (Option (List ℕ))). page_of (laid None (unwrap_or r None))) w.puts.absent)

-- the bound falls behind the child
graft_place : (change : Change) (store : ℕ) (a b c d : PageState) (content below : Content) (past i : ℕ) (slot : Slot)
    (page left : List ℕ) (bound : Bound) (right : List ℕ) (fresh : Slot)
    → WasPut change store a b c d content below past i slot page left bound right fresh
    → (((n : ℕ) → BeginsAt AtOrAfter bound content.cells n → n ≡ i + 1) → ((n : ℕ) → BeginsAt After bound content.cells n
    → n ≡ i + 1) → ⊥)
    → IsNotMet (given_of change) (pair_of change) a d content
graft_place change store a b c d content below past i slot page left bound right fresh w none = λ under low high quads slots met.
    let x = met_parts change store a b c d content below past i slot page left bound right fresh w under low high quads slots met
    in
    let s = x.m.sought in
    let within : i < length content.cells = within_cells content.cells i w.leads.cell w.leads.there in
    let low_side : (e : Entry) → slice_get content.cells i ≡ Some e → bound_cmp (bound_of e) bound ≡ Less = λ e there.
    let up = low_cell i s.rest low s.first [] 0 e (least_first low) (subst (λ (es : List Entry). slice_get es i ≡ Some e)
    s.children there) in
    up_to (bound_of e) s.seat.from bound (subst (λ (y : Bound). bound_cmp (bound_of e) y ≢ Greater) (sym s.seat.from_is) up)
    x.parted.above in
    let high_side : (e : Entry) → slice_get content.cells (suc i) ≡ Some e → bound_cmp (bound_of e) bound ≡ Greater = λ e there.
    turned bound (bound_of e) Less (x.parted.inside.to (bound_of e) (s.seat.to_is
    ∙ high_cell i s.rest high e (subst (λ (es : List Entry). slice_get es (suc i) ≡ Some e) s.children there))) in
    none (λ n h. begins_there AtOrAfter bound content.cells i n within h low_side high_side)
    (λ n h. begins_there After bound content.cells i n within h low_side high_side)
  where
    within_cells : (es : List Entry) (k : ℕ) (e : Entry) → slice_get es k ≡ Some e → k < length es
    within_cells [] k e h = absurd cc
    within_cells (y ∷ es) zero e h = omega arith
    within_cells (y ∷ es) (suc k) e h = omega (arith, within_cells es k e h)

-- ---- the answer

graft_few : (content : Content) (i : ℕ) (bound : Bound) (fresh slot : Slot) → LeadsAt content.cells i slot → (cells : List Entry)
    → cells ≡ insert content.cells (i + 1) (inner_entry bound.key bound.birth fresh)
    → length cells ≤ length content.cells + 1
graft_few content i bound fresh slot leads cells is =
    omega (
      arith,
      ap (λ (es : List Entry). length es) is,
      length-insert content.cells (i + 1)
          (inner_entry bound.key bound.birth fresh) (within_list content.cells i leads.cell leads.there),
    )
  where
    within_list : (es : List Entry) (k : ℕ) (e : Entry) → slice_get es k ≡ Some e → k + 1 ≤ length es
    within_list [] k e h = absurd cc
    within_list (y ∷ es) zero e h = omega arith
    within_list (y ∷ es) (suc k) e h = omega (arith, within_list es k e h)

graft_to : (change : Change) (store : ℕ) (a b c d : PageState) (content below : Content) (past i : ℕ) (slot : Slot)
    (page left : List ℕ) (bound : Bound) (right : List ℕ) (fresh : Slot)
    → WasPut change store a b c d content below past i slot page left bound right fresh → (cells : List Entry)
    → cells ≡ insert content.cells (i + 1) (inner_entry bound.key bound.birth fresh)
    → ChangesTo (edit_of change) (given_of change) (open_of change store) (pair_of change) a d content cells
graft_to change store a b c d content below past i slot page left bound right fresh w cells is =
    let there : cells ≡ insert content.cells (suc i) (inner_entry bound.key bound.birth fresh) = is
    ∙ ap (λ (n : ℕ). insert content.cells n (inner_entry bound.key bound.birth fresh)) (add-one i) in
    subst (λ (es : List Entry). ChangesTo (edit_of change) (given_of change) (open_of change store) (pair_of change) a d content
    es) (sym there)
    (graft_changes change store a b c d content below past i slot page left bound right fresh w)

graft_ok : (change : Change) (store : ℕ) (a b c d : PageState) (content below : Content) (past i : ℕ) (slot : Slot)
    (page left : List ℕ) (bound : Bound) (right : List ℕ) (fresh : Slot) (edited : Edited)
    → WasPut change store a b c d content below past i slot page left bound right fresh
    → Grafts content (i + 1) bound fresh edited → IsEdited change store a d content (Ok edited)
graft_ok change store a b c d content below past i slot page left bound right fresh Missing w g = absurd g.made
graft_ok change store a b c d content below past i slot page left bound right fresh Below w g = absurd g.made
graft_ok change store a b c d content below past i slot page left bound right fresh (Page page') w g = (
  graft_stays change store a b c d content below past i slot page left bound right fresh w,
  record {
    cells = g.cells;
    spelled = g.made;
    few = inr (
      graft_grows change store a b c d content below past i slot page left bound right fresh w,
      graft_few content i bound
          fresh slot w.leads g.cells g.edit,
    );
    changes = graft_to change store a b c d content below past i slot page left bound right fresh w g.cells g.edit;
  },
)
graft_ok change store a b c d content below past i slot page left bound right fresh (Two l key birth r) w g = (
  graft_stays change store a b c d content below past i slot page left bound right fresh w,
  divided change store a d content g.cells l (bound_at key birth) r (graft_to change store a b c d content below past i slot page
      left bound right fresh w g.cells g.edit) g.nearly g.made
      (graft_grows change store a b c d content below past i slot page left bound right fresh w)
      (graft_few content i bound fresh slot w.leads g.cells g.edit),
)

graft_fault : (change : Change) (store : ℕ) (a b c d : PageState) (content below : Content) (past i : ℕ) (slot : Slot)
    (page left : List ℕ) (bound : Bound) (right : List ℕ) (fresh : Slot) (fault : PairFault)
    → WasPut change store a b c d content below past i slot page left bound right fresh → IsNoGraft content (i + 1) bound fault
    → HasCause a d (IsNotMet (given_of change) (pair_of change) a d content) fault
graft_fault change store a b c d content below past i slot page left bound right fresh Odd w g =
    graft_place change store a b c d content below past i slot page left bound right fresh w g
graft_fault change store a b c d content below past i slot page left bound right fresh HeightFull w g = absurd g
graft_fault change store a b c d content below past i slot page left bound right fresh (PageGave fault) w g =
    λ isnt. absurd (isnt g)

graft_finds : (change : Change) (store : ℕ) (a b c d : PageState) (content below : Content) (past i : ℕ) (slot : Slot)
    (page left : List ℕ) (bound : Bound) (right : List ℕ) (fresh : Slot) (edited : Edited)
    → WasPut change store a b c d content below past i slot page left bound right fresh
    → Grafts content (i + 1) bound fresh edited → FindsBelow change a d content (Ok edited)
graft_finds change store a b c d content below past i slot page left bound right fresh Missing w g = tt
graft_finds change store a b c d content below past i slot page left bound right fresh Below w g = absurd g.made
graft_finds change store a b c d content below past i slot page left bound right fresh (Page page') w g =
    finds_up change a b c d content below past i slot page w.inner w.begins w.at w.leads w.reads w.goes w.puts.goes_on w.shown
    w.finds
graft_finds change store a b c d content below past i slot page left bound right fresh (Two l key birth r) w g =
    finds_up change a b c d content below past i slot page w.inner w.begins w.at w.leads w.reads w.goes w.puts.goes_on w.shown
    w.finds

pub grafted_below : (change : Change) (store : ℕ) (a b c d : PageState) (content below : Content) (past i : ℕ) (slot : Slot)
    (page left : List ℕ) (bound : Bound) (right : List ℕ) (fresh : Slot) (result : Result Edited PairFault)
    → WasPut change store a b c d content below past i slot page left bound right fresh
    → MatchResult result (λ edited. Grafts content (i + 1) bound fresh edited) (λ fault. IsNoGraft content (i + 1) bound fault)
    → EditsBelow change store a d content result
grafted_below change store a b c d content below past i slot page left bound right fresh (Ok edited) w g = record {
  goes_on = goes_then a b d (goes_only a b w.only) (put_later change store a b c d content below past i slot page left bound right
      fresh w);
  answer = graft_ok change store a b c d content below past i slot page left bound right fresh edited w g;
  finds = graft_finds change store a b c d content below past i slot page left bound right fresh edited w g;
}
grafted_below change store a b c d content below past i slot page left bound right fresh (Err fault) w g = record {
  goes_on = goes_then a b d (goes_only a b w.only) (put_later change store a b c d content below past i slot page left bound right
      fresh w);
  answer = graft_fault change store a b c d content below past i slot page left bound right fresh fault w g;
  finds = tt;
}

-- the parts could not be put
pub unput_below : (change : Change) (store : ℕ) (a b c d : PageState) (content below : Content) (edited : Edited)
    (fault : PageFault)
    → OnlyReads a b → EditsBelow change store b c below (Ok edited) → GaveUp c d fault → EditsBelow change store a d content
    (Err (PageGave fault))
unput_below change store a b c d content below edited fault only h gave =
    let first = goes_then a b c (goes_only a b only) h.goes_on in
    record {
      goes_on = goes_then a c d first gave.goes_on;
      answer =
          λ isnt. omega (arith, first.lasts.faults fault, gave.counted isnt);
      finds = tt;
    }
