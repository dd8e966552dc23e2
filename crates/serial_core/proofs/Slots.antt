-- What the holds on a page say of the journal, and how each command keeps it.
use Rattle.std.proofs.Common.{◌≡◌, ℕ, ◌==◌, Bool, true, false, cond, ◌&&◌, List, ◌∷◌, Option, Some, None, refl, ap}
use Rattle.std.proofs.Common.{sym, ◌∙◌, subst, is_some, ◌⊎◌, inl, inr}
use Rattle.std.specs.List.{list_any}
use Rattle.pair_types.specs.declared.slot.Tid.{Tid}
use Rattle.page_types.specs.declared.hold.Hold.{Hold}
use Rattle.page_types.specs.declared.hold.WriteHold.{WriteHold}
use Rattle.page_types.specs.declared.versions.PageWrite.{PageWrite}
use Rattle.page_types.specs.declared.command.Part.{Part}
use Rattle.page_types.specs.declared.command.Command.{Command}
use Rattle.page_types.specs.declared.answer.Answer.{Answer}
use Rattle.page_types.specs.declared.journal.JEntry.{JEntry}
use Rattle.page_types.specs.declared.journal.JEntry.TheVariants.{Took, Doubted, Late}
use Rattle.page_types.specs.Accesses.{is_same, read_at, written_at}
use Rattle.page_types.specs.Asked.{part_in, part_asked, is_prepare_of, is_prepared}
use Rattle.page_types.specs.Stores.{Kept}
use Rattle.page_types.specs.Obeys.{other_writer, other_reader, busy_reader, busy_at, written, has_reader, hold_of, holding}
use Rattle.page_types.specs.Obeys.{without, releasing, resolving}
use Rattle.serial_core.proofs.Basics.{first_none, or_right, same_true, same_self, found_more, any_more}
use Rattle.serial_core.proofs.Refusals.{IsIn, in_has, has_in, in_without, has_kept, other_writer_none, other_reader_none}
use Rattle.serial_core.proofs.Refusals.{busy_reader_none}

-- a Prepare of the transaction was settled at this store, and answered Prepared
abbrev pub is_prepared_by : Tid → ℕ → ℕ → Command → Answer → Bool
is_prepared_by t here store c a = (store == here) && (is_prepare_of t c && is_prepared a)

abbrev pub prepared_at : Tid → ℕ → JEntry → Bool
prepared_at t here (Took pass store c a) = is_prepared_by t here store c a
prepared_at t here (Doubted pass store c) = false
prepared_at t here (Late store c a) = is_prepared_by t here store c a

-- a writer's hold is of a Prepare that was answered Prepared here, and read this version
pub record FromWriter (es : List JEntry) (p n v : ℕ) (w : WriteHold) : Type 0 where
  pub ask : Part
  pub is : part_asked es w.hold.tid p ≡ Some ask
  pub done : list_any (prepared_at w.hold.tid p) es ≡ true
  pub hold_is : hold_of ask ≡ w.hold
  pub writes : written_at ask.writes n ≡ Some w.content
  pub reads : read_at ask.reads n ≡ Some v

-- so is a reader's, and it does not write the page
pub record FromReader (es : List JEntry) (p n v : ℕ) (h : Hold) : Type 0 where
  pub ask : Part
  pub is : part_asked es h.tid p ≡ Some ask
  pub done : list_any (prepared_at h.tid p) es ≡ true
  pub hold_is : hold_of ask ≡ h
  pub writes : written_at ask.writes n ≡ None
  pub reads : read_at ask.reads n ≡ Some v

pub record SlotOk (es : List JEntry) (p n : ℕ) (k : Kept) : Type 0 where
  pub writer : (w : WriteHold) → k.writer ≡ Some w → FromWriter es p n k.version w
  pub reader : (h : Hold) → IsIn h k.readers → FromReader es p n k.version h
  pub alone : (w : WriteHold) (h : Hold) → k.writer ≡ Some w → IsIn h k.readers → ⊥

-- no hold
pub record Free (k : Kept) : Type 0 where
  pub writer : k.writer ≡ None
  pub readers : (h : Hold) → IsIn h k.readers → ⊥

-- the transaction's hold, a reader's or, with this content, a writer's
abbrev pub HoldsAt : Kept → Tid → Option (List ℕ) → Type 0
HoldsAt k t None = has_reader t k.readers ≡ true
HoldsAt k t (Some page) = (w : WriteHold) × (k.writer ≡ Some w) × (w.hold.tid ≡ t) × (w.content ≡ page)

writer_more : (es : List JEntry) (e : JEntry) (p n v : ℕ) (w : WriteHold) → FromWriter es p n v w →
    FromWriter (e ∷ es) p n v w
writer_more es e p n v w f = record {
  ask = f.ask;
  is = found_more (part_in w.hold.tid p) es e _ f.is;
  done = any_more (prepared_at w.hold.tid p) es e f.done;
  hold_is = f.hold_is;
  writes = f.writes;
  reads = f.reads;
}

reader_more : (es : List JEntry) (e : JEntry) (p n v : ℕ) (h : Hold) → FromReader es p n v h → FromReader (e ∷ es) p n v h
reader_more es e p n v h f = record {
  ask = f.ask;
  is = found_more (part_in h.tid p) es e _ f.is;
  done = any_more (prepared_at h.tid p) es e f.done;
  hold_is = f.hold_is;
  writes = f.writes;
  reads = f.reads;
}

pub slot_more : (es : List JEntry) (e : JEntry) (p n : ℕ) (k : Kept) → SlotOk es p n k → SlotOk (e ∷ es) p n k
slot_more es e p n k s = record {
  writer = λ w is. writer_more es e p n k.version w (s.writer w is);
  reader = λ h is. reader_more es e p n k.version h (s.reader h is);
  alone = s.alone;
}

pub slot_free : (es : List JEntry) (p n : ℕ) (k : Kept) → Free k → SlotOk es p n k
slot_free es p n k f = record {
  writer = λ w is. absurd (let o = f.writer in cc);
  reader = λ h is. absurd (f.readers h is);
  alone = λ w h is within. f.readers h within;
}

pub slot_written : (es : List JEntry) (p n : ℕ) (t : Tid) (w : Option (List ℕ)) (k : Kept) → SlotOk es p n k →
    ((page : List ℕ) → w ≡ Some page → Free k) → SlotOk es p n (written t w k)
slot_written es p n t None k s f = s
slot_written es p n t (Some page) k s f =
    let free = f page refl in
    slot_free es p n (written t (Some page) k) (record { writer = free.writer; readers = free.readers })

no_hold : (t : Tid) (n : ℕ) (k : Kept) → other_writer t n k.writer ≡ None →
    ((w : WriteHold) → k.writer ≡ Some w → w.hold.tid ≡ t → ⊥) → k.writer ≡ None
no_hold t n k quiet none = at k.writer refl
  where
    at : (o : Option WriteHold) → k.writer ≡ o → k.writer ≡ None
    at None is = is
    at (Some w) is = absurd (none w is (other_writer_none t n k.writer w quiet is))

-- a page that is not busy, and has no hold of one's own
pub free_of_others : (t : Tid) (ws : List PageWrite) (n : ℕ) (page : List ℕ) (k : Kept) → busy_at t ws n k ≡ None →
    written_at ws n ≡ Some page → ((w : WriteHold) → k.writer ≡ Some w → w.hold.tid ≡ t → ⊥) →
    ((h : Hold) → IsIn h k.readers → h.tid ≡ t → ⊥) → Free k
free_of_others t ws n page k quiet w no_writer no_reader =
    let b = first_none (other_writer t n k.writer)
    (cond (is_some (written_at ws n)) (busy_reader n (other_reader t k.readers)) None) quiet in
    let shut : busy_reader n (other_reader t k.readers) ≡ None = rw w at b.1 in
    let others : other_reader t k.readers ≡ None = busy_reader_none n (other_reader t k.readers) shut in
    record {
      writer = no_hold t n k b.0 no_writer;
      readers = λ h is. no_reader h is (other_reader_none t k.readers h.tid others (in_has h k.readers is));
    }

pub no_writer_of : (t : Tid) (ws : List PageWrite) (n : ℕ) (k : Kept) → busy_at t ws n k ≡ None →
    ((w : WriteHold) → k.writer ≡ Some w → w.hold.tid ≡ t → ⊥) → k.writer ≡ None
no_writer_of t ws n k quiet no_writer =
    no_hold t n k (first_none (other_writer t n k.writer)
    (cond (is_some (written_at ws n)) (busy_reader n (other_reader t k.readers)) None) quiet).0 no_writer

-- ## A Prepare that takes holds

pub slot_held : (es : List JEntry) (p n : ℕ) (ask : Part) (w : Option (List ℕ)) (r : Option ℕ) (k : Kept) →
    part_asked es ask.tid p ≡ Some ask → list_any (prepared_at ask.tid p) es ≡ true → written_at ask.writes n ≡ w →
    read_at ask.reads n ≡ r → SlotOk es p n k → ((v : ℕ) → r ≡ Some v → k.version ≡ v) →
    ((page : List ℕ) → w ≡ Some page → Free k × ((v : ℕ) × (r ≡ Some v))) →
    ((v : ℕ) → r ≡ Some v → k.writer ≡ None) → SlotOk es p n (holding (hold_of ask) w r k)
slot_held es p n ask (Some page) r k is done w_is r_is s ver free quiet =
    let f = free page refl in
    let made : FromWriter es p n k.version (record { hold = hold_of ask; content = page }) = record {
      ask = ask;
      is = is;
      done = done;
      hold_is = refl;
      writes = w_is;
      reads = r_is ∙ (f.1.1 ∙ ap (λ v. Some v) (sym (ver f.1.0 f.1.1)));
    } in
    record {
      writer = λ x e. let same : record { hold = hold_of ask; content = page } ≡ x = cc in
          subst (λ (y : WriteHold). FromWriter es p n k.version y) same made;
      reader = λ h within. absurd (f.0.readers h within);
      alone = λ x h e within. f.0.readers h within;
    }
slot_held es p n ask None (Some v) k is done w_is r_is s ver free quiet = record {
  writer = λ x e. absurd (let q = quiet v refl in cc);
  reader = λ h within. one h within;
  alone = λ x h e within. let q = quiet v refl in cc;
}
  where
    one : (h : Hold) → (hold_of ask ≡ h) ⊎ IsIn h k.readers → FromReader es p n k.version h
    one h (inl same) = subst (λ (x : Hold). FromReader es p n k.version x) same (record {
      ask = ask;
      is = is;
      done = done;
      hold_is = refl;
      writes = w_is;
      reads = r_is ∙ ap (λ v. Some v) (sym (ver v refl));
    })
    one h (inr within) = s.reader h within
slot_held es p n ask None None k is done w_is r_is s ver free quiet = s

-- the holds that it takes
pub held_new : (hold : Hold) (w : Option (List ℕ)) (v : ℕ) (k : Kept) → HoldsAt (holding hold w (Some v) k) hold.tid w
held_new hold (Some page) v k = (record { hold = hold; content = page }, refl, refl, refl)
held_new hold None v k = rw (same_self hold.tid) refl

-- and those of others, which stay
pub held_kept : (hold : Hold) (u : Tid) (w : Option (List ℕ)) (r : Option ℕ) (o : Option (List ℕ)) (k : Kept) →
    ((page : List ℕ) → w ≡ Some page → Free k) → HoldsAt k u o → HoldsAt (holding hold w r k) u o
held_kept hold u (Some page) r None k free h =
    let x = has_in u k.readers h in absurd ((free page refl).readers x.0 x.1)
held_kept hold u (Some page) r (Some other) k free h = absurd (let q = (free page refl).writer in let a = h.1 in cc)
held_kept hold u None (Some v) None k free h = rw h (or_right (is_same hold.tid u))
held_kept hold u None (Some v) (Some other) k free h = h
held_kept hold u None None o k free h = h

-- ## A Resolve

pub slot_resolved : (es : List JEntry) (p n : ℕ) (t : Tid) (b : Bool) (o : Option WriteHold) (k : Kept) → k.writer ≡ o →
    SlotOk es p n k → SlotOk es p n (resolving t b o k)
slot_resolved es p n t b None k is s = record {
  writer = s.writer;
  reader = λ h within. s.reader h (in_without t h k.readers within);
  alone = λ w h e within. s.alone w h e (in_without t h k.readers within);
}
slot_resolved es p n t b (Some g) k is s = at (is_same g.hold.tid t) b
  where
    gone : (l : Kept) → l.writer ≡ None → l.readers ≡ without t k.readers → SlotOk es p n l
    gone l none left = slot_free es p n l (record {
      writer = none;
      readers = λ h within. s.alone g h is (in_without t h k.readers (subst (λ hs. IsIn h hs) left within));
    })

    at : (d b : Bool) → SlotOk es p n (cond d (releasing t b g.content k) (record k { readers = without t k.readers }))
    at true true = gone (releasing t true g.content k) refl refl
    at true false = gone (releasing t false g.content k) refl refl
    at false b = record {
      writer = s.writer;
      reader = λ h within. s.reader h (in_without t h k.readers within);
      alone = λ w h e within. s.alone w h e (in_without t h k.readers within);
    }

-- the holds of others stay
pub held_resolved : (t u : Tid) (b : Bool) (w : Option WriteHold) (o : Option (List ℕ)) (k : Kept) → k.writer ≡ w →
    (u ≡ t → ⊥) → HoldsAt k u o → HoldsAt (resolving t b w k) u o
held_resolved t u b None None k is ne h = has_kept t u k.readers ne h
held_resolved t u b None (Some page) k is ne h = h
held_resolved t u b (Some g) None k is ne h = at (is_same g.hold.tid t) b
  where
    at : (d b : Bool) →
        has_reader u (cond d (releasing t b g.content k) (record k { readers = without t k.readers })).readers ≡ true
    at true true = has_kept t u k.readers ne h
    at true false = has_kept t u k.readers ne h
    at false b = has_kept t u k.readers ne h
held_resolved t u b (Some g) (Some page) k is ne h = at (is_same g.hold.tid t) refl
  where
    at : (d : Bool) → is_same g.hold.tid t ≡ d →
        HoldsAt (cond d (releasing t b g.content k) (record k { readers = without t k.readers })) u (Some page)
    at true same =
        let e : h.0 ≡ g = (let q = h.1 in cc) in
        absurd (ne (sym h.2 ∙ (ap (λ (x : WriteHold). x.hold.tid) e ∙ same_true g.hold.tid t same)))
    at false same = h

pub held_written : (t : Tid) (w o : Option (List ℕ)) (u : Tid) (k : Kept) → HoldsAt k u o → HoldsAt (written t w k) u o
held_written t None o u k h = h
held_written t (Some page) None u k h = h
held_written t (Some page) (Some other) u k h = h
