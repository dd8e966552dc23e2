-- Rows: one more, one in which is written, and all without what is written.
use Rattle.std.proofs.Common.{◌≡◌, ◌≢◌, ℕ, ◌<◌, Bool, true, false, List, Option, Some, None, IsSome, is_some, ◌⊎◌, inl, inr}
use Rattle.std.proofs.Common.{Err, refl, sym, ap, subst, arith, ◌∙◌}
use mathlib.Core.Path.{fun_ext}
use Rattle.std.proofs.lemmas.Bool.{cases_eq}
use Rattle.std.proofs.lemmas.Map.Lookups.{exact_pairs, exact_unsigned}
use Rattle.std.specs.BTreeMap.{is_at, get, Updates}
use Rattle.std.specs.Map.{lookup}
use Rattle.std.specs.Option.{option_map}
use Rattle.std.specs.Prelude.{map}
use Rattle.std.proofs.lemmas.Map.Made.{lookup-map_values}
use Rattle.std.specs.Ordering.{is_eq, nat_cmp}
use Rattle.std.specs.declared.cmp.Ordering.{Ordering}
use Rattle.std.specs.declared.cmp.Ordering.TheVariants.{Less, Equal, Greater}
use Rattle.pair_types.specs.declared.slot.Slot.{Slot}
use Rattle.pair_types.specs.declared.slot.Tid.{Tid}
use Rattle.pair_types.specs.declared.fault.PageFault.{PageFault}
use Rattle.pair_types.specs.MemPages.{place_cmp}
use Rattle.pair_types.specs.PageMaps.{PageMap, ReadMap, Learns, latest}
use Rattle.pair_types.specs.PageState.{PageState, Reads, Writes, Freshens, GivesUp, no_memory}
use Rattle.page_types.specs.declared.journal.JEntry.{JEntry}
use Rattle.page_types.specs.Ports.{PortState}
use Rattle.two_phase.specs.Tries.{Onward}
use Rattle.page_txn.specs.declared.row.Row.{Row}
use Rattle.page_txn.specs.Rows.{Rows, row_at, content_of, written_of, reads_of, writes_of, nothing_written}
use Rattle.page_txn.specs.Causes.{state_by}
use Rattle.page_txn.specs.Since.{WasAnswered, since, IsRowOf, Standing}
use Rattle.page_txn.specs.Asking.{AreForeign, Asks, IsRead}
use Rattle.page_txn.specs.Learning.{Learned, written_as, PutsRow, ForgetsWrites}
use Rattle.page_txn.proofs.Growing.{lasts_on, standing_on, standing_with, answered_new}
use Rattle.page_txn.proofs.Sequel.{Far}

-- ## Places

abbrev pub place : Slot → ℕ × ℕ
place s = (s.store, s.number)

equal_from_test : (o : Ordering) → is_eq o ≡ true → o ≡ Equal
equal_from_test Less h = cc
equal_from_test Equal h = refl
equal_from_test Greater h = cc

slot_from_place : (s t : Slot) → place s ≡ place t → t ≡ s
slot_from_place s t e =
    let same : t ≡ s = ap (λ (p : ℕ × ℕ). let made : Slot = record { store = p.0; number = p.1 } in made) (sym e) in same

same_slot : (s t : Slot) → is_at (place_cmp (place s)) (place t) ≡ true → t ≡ s
same_slot s t e = slot_from_place s t
    (exact_pairs nat_cmp nat_cmp exact_unsigned exact_unsigned (place s) (place t)
    (equal_from_test (place_cmp (place s) (place t)) e))

pub is_or_not : (s t : Slot) → (t ≡ s) ⊎ (is_at (place_cmp (place s)) (place t) ≡ false)
is_or_not s t = of_test (is_at (place_cmp (place s)) (place t)) refl
  where
    of_test : (b : Bool) → is_at (place_cmp (place s)) (place t) ≡ b →
        (t ≡ s) ⊎ (is_at (place_cmp (place s)) (place t) ≡ false)
    of_test true e = inl (same_slot s t e)
    of_test false e = inr e

pub other_place : (s t : Slot) → t ≢ s → is_at (place_cmp (place s)) (place t) ≡ false
other_place s t apart = at (is_or_not s t)
  where
    at : (t ≡ s) ⊎ (is_at (place_cmp (place s)) (place t) ≡ false) → is_at (place_cmp (place s)) (place t) ≡ false
    at (inl is) = absurd (apart is)
    at (inr is) = is

pub none_there : (o : Option Row) → is_some o ≡ false → o ≡ None
none_there None h = refl
none_there (Some row) h = cc

pub row_known : (o : Option Row) → IsSome (content_of o) → IsSome o
row_known None h = h
row_known (Some row) h = refl

none_is_not_some : IsSome {T = Option (List ℕ)} None → ⊥
none_is_not_some h = cc

pub some_same : (x y : Row) → Some x ≡ Some y → x ≡ y
some_same x y is = cc

-- ## Faults

module _ (own : Tid) (old new : PortState) where
  pub gives_up : {A : Type 0} (Given : A → List JEntry → Type 0) (rows : Rows) (fault : PageFault) →
      Asks Given own old new (Err fault) → GivesUp (state_by own old rows) (state_by own new rows) fault
  gives_up Given rows fault x = record {
    lasts = lasts_on own old new x.part rows rows x.onward;
    writes = refl;
    extends = record { at = λ s held is. is };
    unchanged = λ _. refl;
    counted = x.ends;
  }

  -- want of memory, with rows that are the same
  pub gives_up_same : (before after : Rows) → Far own old new → after.entries ≡ before.entries →
      GivesUp (state_by own old before) (state_by own new after) no_memory
  gives_up_same before after x same = record {
    lasts = lasts_on own old new x.part before after x.onward;
    writes = fun_ext (λ s. ap (λ (o : Option Row). written_of o) (rows_same before after same s));
    extends = record { at = λ s held is. ap (λ (o : Option Row). content_of o) (rows_same before after same s) ∙ is };
    unchanged = λ _. fun_ext (λ s. ap (λ (o : Option Row). content_of o) (rows_same before after same s));
    counted = λ apart. absurd (apart refl);
  }
    where
      rows_same : (before after : Rows) → after.entries ≡ before.entries → (s : Slot) → row_at after s ≡ row_at before s
      rows_same before after same s = rw same refl

  -- ## A row more

  module _ (x : Far own old new) (before after : Rows) (s : Slot) (row : Row) (was : row_at before s ≡ None)
      (updates : Updates place_cmp before after (place s) (Some row)) where
    pub learned : row.written ≡ None → Learned (state_by own old before) (state_by own new after) s
    learned unwritten = record {
      lasts = lasts_on own old new x.part before after x.onward;
      writes = fun_ext (λ t. of_writes t (is_or_not s t));
      learns = record {
        known = subst (λ (o : Option Row). IsSome (content_of o)) (sym updates.1) refl;
        kept = λ some. absurd (none_is_not_some (subst (λ (o : Option Row). IsSome (content_of o)) was some));
        others = λ t apart. ap (λ (o : Option Row). content_of o) (updates.2 (place t) (other_place s t apart));
      };
    }
      where
        of_writes : (t : Slot) → (t ≡ s) ⊎ (is_at (place_cmp (place s)) (place t) ≡ false) →
            written_of (row_at after t) ≡ written_of (row_at before t)
        of_writes t (inl e) =
            subst (λ (u : Slot). written_of (row_at after u) ≡ written_of (row_at before u)) (sym e)
            (ap (λ (o : Option Row). written_of o) updates.1 ∙ (unwritten ∙ sym (ap (λ (o : Option Row). written_of o) was)))
        of_writes t (inr e) = ap (λ (o : Option Row). written_of o) (updates.2 (place t) e)

    pub freshened : (asked : ℕ) → s.store ≡ asked → row.content ≡ None → row.written ≡ None →
        Freshens (state_by own old before) (state_by own new after) asked s
    freshened asked store_is absent unwritten =
        let l = learned unwritten in
        record {
          lasts = l.lasts;
          writes = l.writes;
          store = store_is;
          unread = ap (λ (o : Option Row). content_of o) was;
          unwritten = ap (λ (o : Option Row). written_of o) was;
          absent = ap (λ (o : Option Row). content_of o) updates.1 ∙ ap Some absent;
          learns = l.learns;
        }

    pub standing_more : (start : PortState) → Standing start old own before → IsRowOf start new s row →
        Standing start new own after
    standing_more start stands is = standing_with start new own before after
        (standing_on start old new x.part x.onward own before x.foreign stands) (λ t other has. at t other has (is_or_not s t))
      where
        at : (t : Slot) (other : Row) → row_at after t ≡ Some other →
            (t ≡ s) ⊎ (is_at (place_cmp (place s)) (place t) ≡ false) → IsRowOf start new t other
        at t other has (inl e) =
            let here : row_at after s ≡ Some other = subst (λ (u : Slot). row_at after u ≡ Some other) e has in
            subst (λ (u : Slot). IsRowOf start new u other) (sym e)
            (subst (λ (r : Row). IsRowOf start new s r) (some_same row other (sym updates.1 ∙ here)) is)
        at t other has (inr e) =
            (standing_on start old new x.part x.onward own before x.foreign stands).rows_of t other
            (sym (updates.2 (place t) e) ∙ has)

-- a slot whose row is as it was read
pub row_read : (start old new : PortState) (part : List JEntry) (s : Slot) (row : Row) (own : Tid) (rows : Rows)
    (on : Onward old new part) → AreForeign own part → Standing start old own rows → s.store < old.origin.stores →
    IsRead new.mine s row part → IsRowOf start new s row
row_read start old new part s row own rows on foreign stands within is = record {
  within = subst (λ (n : ℕ). s.store < n) (sym (ap (λ o. o.stores) on.origin)) within;
  answered = answered_new start old new part on own rows foreign stands s row.version is.answered;
  known = is.known_as;
}

-- an absent slot
pub row_absent : (start old new : PortState) (part : List JEntry) (s : Slot) (row : Row) (own : Tid) (rows : Rows)
    (on : Onward old new part) → AreForeign own part → Standing start old own rows → s.store < old.origin.stores →
    WasAnswered s 0 part → row.version ≡ 0 → row.content ≡ None → IsRowOf start new s row
row_absent start old new part s row own rows on foreign stands within answered none absent = record {
  within = subst (λ (n : ℕ). s.store < n) (sym (ap (λ o. o.stores) on.origin)) within;
  answered = subst (λ (v : ℕ). WasAnswered s v (since start.mine new.mine)) (sym none)
      (answered_new start old new part on own rows foreign stands s 0 answered);
  known = rw (none, absent) refl;
}

-- a slot that is known now is read
pub read_so : (old new : PageState) (s : Slot) (page : List ℕ) → s.store < old.stores → Learned old new s →
    page ≡ latest new.writes new.reads s → Reads old new s page
read_so old new s page within l page_is = record {
  lasts = l.lasts;
  writes = l.writes;
  learns = λ _. l.learns;
  latest = λ _. page_is;
  beyond = λ over. absurd (omega (arith, within, over));
}

-- ## What is written

content_written : (page : Option (List ℕ)) (o : Option Row) → content_of (written_as page o) ≡ content_of o
content_written page None = refl
content_written page (Some row) = refl

written_now : (page : List ℕ) (o : Option Row) → IsSome o → written_of (written_as (Some page) o) ≡ Some page
written_now page None h = absurd cc
written_now page (Some row) h = refl

written_none : (o : Option Row) → written_of (written_as None o) ≡ None
written_none None = refl
written_none (Some row) = refl

row_written : (start now : PortState) (s : Slot) (page : Option (List ℕ)) (o : Option Row) (row : Row) →
    ((old : Row) → o ≡ Some old → IsRowOf start now s old) → written_as page o ≡ Some row → IsRowOf start now s row
row_written start now s page None row h is = absurd cc
row_written start now s page (Some old) row h is =
    let known = h old refl in
    let same : record old { written = page } ≡ row = some_same (record old { written = page }) row is in
    subst (λ (r : Row). IsRowOf start now s r) same
    (record { within = known.within; answered = known.answered; known = known.known })

slot_or_not : (s t : Slot) → (t ≡ s) ⊎ (t ≢ s)
slot_or_not s t = at (cases_eq s.store t.store) (cases_eq s.number t.number)
  where
    at : (s.store ≡ t.store) ⊎ (s.store ≢ t.store) → (s.number ≡ t.number) ⊎ (s.number ≢ t.number) → (t ≡ s) ⊎ (t ≢ s)
    at (inl a) (inl b) = inl (let p : place s ≡ place t = rw (a, b) refl in slot_from_place s t p)
    at (inr a) b = inr (λ same. a (sym (ap (λ (u : Slot). u.store) same)))
    at (inl a) (inr b) = inr (λ same. b (sym (ap (λ (u : Slot). u.number) same)))

module _ (before after : Rows) (s : Slot) (page : List ℕ) (puts : PutsRow before after s page) where
  reads_put : reads_of after ≡ reads_of before
  reads_put = fun_ext (λ t. at t (slot_or_not s t))
    where
      at : (t : Slot) → (t ≡ s) ⊎ (t ≢ s) → reads_of after t ≡ reads_of before t
      at t (inl e) =
          subst (λ (u : Slot). reads_of after u ≡ reads_of before u) (sym e)
          (ap (λ (o : Option Row). content_of o) puts.put ∙ content_written (Some page) (row_at before s))
      at t (inr apart) = ap (λ (o : Option Row). content_of o) (puts.others t apart)

  -- what was read is written over
  pub writes_so : (own later : Tid) (old new : PortState) (first : Rows) → IsSome (row_at before s) →
      Learned (state_by own old first) (state_by later new before) s →
      Writes (state_by own old first) (state_by later new after) s page
  writes_so own later old new first some l = record {
    lasts = record { stores = l.lasts.stores; below = l.lasts.below; faults = l.lasts.faults };
    puts = record {
      put = ap (λ (o : Option Row). written_of o) puts.put ∙ written_now page (row_at before s) some;
      others = λ t apart. ap (λ (o : Option Row). written_of o) (puts.others t apart)
          ∙ ap (λ (w : PageMap). w t) l.writes;
    };
    learns = subst (λ (r : ReadMap). Learns (reads_of first) r s) (sym reads_put) l.learns;
  }

  pub standing_put : (own : Tid) (start now : PortState) → Standing start now own before → Standing start now own after
  standing_put own start now stands =
      standing_with start now own before after stands (λ t row has. at t row has (slot_or_not s t))
    where
      at : (t : Slot) (row : Row) → row_at after t ≡ Some row → (t ≡ s) ⊎ (t ≢ s) → IsRowOf start now t row
      at t row has (inl e) =
          subst (λ (u : Slot). IsRowOf start now u row) (sym e)
          (row_written start now s (Some page) (row_at before s) row (stands.rows_of s)
          (sym puts.put ∙ subst (λ (u : Slot). row_at after u ≡ Some row) e has))
      at t row has (inr apart) = stands.rows_of t row (sym (puts.others t apart) ∙ has)

-- all is forgotten that was written
module _ (before after : Rows) (forgets : ForgetsWrites before after) where
  pub reads_kept : reads_of after ≡ reads_of before
  reads_kept = fun_ext (λ s. ap (λ (o : Option Row). content_of o) (forgets s) ∙ content_written None (row_at before s))

  pub writes_none : writes_of after ≡ nothing_written
  writes_none = fun_ext (λ s. ap (λ (o : Option Row). written_of o) (forgets s) ∙ written_none (row_at before s))

  pub standing_kept : (own : Tid) (start now : PortState) → Standing start now own before → Standing start now own after
  standing_kept own start now stands = standing_with start now own before after stands (λ s row has.
      row_written start now s None (row_at before s) row (stands.rows_of s) (sym (forgets s) ∙ has))

-- ## What calls on a map leave

pub puts_row : (old new : Rows) (s : Slot) (page : List ℕ) (row : Row) → Some row ≡ row_at old s →
    row_at new s ≡ Some (record row { written = Some page }) →
    ((q : ℕ × ℕ) → is_at (place_cmp (place s)) q ≡ false → get place_cmp new q ≡ get place_cmp old q) →
    PutsRow old new s page
puts_row old new s page row was put others = record {
  put = put ∙ ap (λ (o : Option Row). written_as (Some page) o) was;
  others = λ t apart. others (place t) (other_place s t apart);
}

abbrev pub cleared : Row → Row
cleared row = record row { written = None }

cleared_as : (o : Option Row) → option_map cleared o ≡ written_as None o
cleared_as None = refl
cleared_as (Some row) = refl

pub forget_rows : (old new : Rows) → new.entries ≡ map (λ (e : (ℕ × ℕ) × Row). (e.0, cleared e.1)) old.entries →
    ForgetsWrites old new
forget_rows old new is s =
    ap (λ (es : List ((ℕ × ℕ) × Row)). lookup (is_at (place_cmp (place s))) es) is
    ∙ (lookup-map_values cleared (is_at (place_cmp (place s))) old.entries ∙ cleared_as (row_at old s))
