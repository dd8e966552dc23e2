-- One command at its store, in all that it does: what it keeps there, and its step of the committed pages.
use Rattle.std.proofs.Common.{◌≡◌, ℕ, ◌+◌, ◌==◌, Bool, true, false, cond, ◌&&◌, List, ◌∷◌, Option, Some, None, refl, ap}
use Rattle.std.proofs.Common.{sym, ◌∙◌, subst, IsSome, inl, inr, unwrap_or}
use Rattle.std.specs.Prelude.{⊤, is_none}
use Rattle.std.specs.List.{list_any}
use Rattle.pair_types.specs.declared.slot.Tid.{Tid}
use Rattle.pair_types.specs.PageMaps.{PageMap}
use Rattle.nfs3_types.specs.declared.entry.Entry.{Entry}
use Rattle.page_types.specs.declared.hold.WriteHold.{WriteHold}
use Rattle.page_types.specs.declared.outcome.Outcome.{Outcome}
use Rattle.page_types.specs.declared.outcome.Outcome.TheVariants.{Commit, Abort}
use Rattle.page_types.specs.declared.command.Transaction.{Transaction}
use Rattle.page_types.specs.declared.command.Part.{Part}
use Rattle.page_types.specs.declared.command.Command.{Command}
use Rattle.page_types.specs.declared.command.Command.TheVariants.{Fresh, Read, Look, Write, Prepare, Decide, Resolve}
use Rattle.page_types.specs.declared.answer.Answer.{Answer}
use Rattle.page_types.specs.declared.answer.Answer.TheVariants as answer
use Rattle.page_types.specs.declared.journal.JEntry.{JEntry}
use Rattle.page_types.specs.Accesses.{is_same, read_at, written_at}
use Rattle.page_types.specs.Journals.{Origin}
use Rattle.page_types.specs.Asked.{Alone, is_prepared}
use Rattle.page_types.specs.Fair.{IsRight, read_then, reads_alone, writes_alone, reads_of_all, writes_of_all}
use Rattle.page_types.specs.Stores.{Kept, StoreState}
use Rattle.page_types.specs.Obeys.{busy_at, conflict_at, has_reader, has_writer, has_hold, refused_write, write_answer}
use Rattle.page_types.specs.Obeys.{write_refusal, prepare_refusal, answer_of, after, after_write, after_prepare, after_decide}
use Rattle.serial_rules.specs.Worlds.{World, put, replay}
use Rattle.serial_rules.specs.Contents.{content_at}
use Rattle.serial_rules.specs.Committed.{Committed, to_come, committed, shown}
use Rattle.serial_rules.specs.History.{Effect, alone_effect, is_wrote, decision_effect, settled_effect}
use Rattle.serial_rules.specs.Serial.{ReadsCommitted, Acts, IsStep}
use Rattle.serial_core.proofs.Basics.{and_true, and_false, or_true, eq_true, eq_self, same_true, same_self, not_both}
use Rattle.serial_core.proofs.Refusals.{first_over_none, conflict_at_none, write_free, Cause, write_cause, prepare_cause}
use Rattle.serial_core.proofs.Refusals.{IsDecided as decided_before, IsEnded, IsOwn, IsBusy, IsConflict, has_in}
use Rattle.serial_core.proofs.Asks.{Asks}
use Rattle.serial_core.proofs.Slots.{is_prepared_by, prepared_at, SlotOk, no_writer_of}
use Rattle.serial_core.proofs.Holds.{Holds, ReadyWrite, ReadyDecision, Ready, Local, nothing, only_next, no_writer, write_local}
use Rattle.serial_core.proofs.Holds.{decide_local, resolve_local, prepare_local, again_local}
use Rattle.serial_core.proofs.Pages.{put_same, pages_next, pages_write, pages_prepare, pages_abort, pages_resolve}
use Rattle.serial_core.proofs.Decides.{IsCurrent, current_committed, current_known, decide_reads, pages_commit}

-- ## What is answered Wrote or Prepared

-- a Write that was refused takes no effect
pub no_effect : (s : StoreState) (x : Transaction) (y a : Answer) → a ≡ refused_write y → Cause s x.tid y →
    (is_wrote a && is_none (s.decided x.tid)) ≡ false
no_effect s x y a is (decided_before o d y_is) = rw d (and_false (is_wrote a))
no_effect s x y a is (IsEnded y_is) = rw (is, y_is) refl
no_effect s x y a is (IsOwn n h y_is) = rw (is, y_is) refl
no_effect s x y a is (IsBusy n hold h y_is) = rw (is, y_is) refl
no_effect s x y a is (IsConflict n v by y_is) = rw (is, y_is) refl

-- a Prepare that was refused with Prepared has a hold
own_cause : (s : StoreState) (t : Tid) (y : Answer) → is_prepared y ≡ true → Cause s t y →
    (n : ℕ) × (has_hold t (s.slot n) ≡ true)
own_cause s t y on (decided_before o d y_is) = absurd (not_both (subst (λ (z : Answer). is_prepared z ≡ true) y_is on) refl)
own_cause s t y on (IsEnded y_is) = absurd (not_both (subst (λ (z : Answer). is_prepared z ≡ true) y_is on) refl)
own_cause s t y on (IsOwn n h y_is) = (n, h)
own_cause s t y on (IsBusy n hold h y_is) = absurd (not_both (subst (λ (z : Answer). is_prepared z ≡ true) y_is on) refl)
own_cause s t y on (IsConflict n v by y_is) = absurd (not_both (subst (λ (z : Answer). is_prepared z ≡ true) y_is on) refl)

own_done : (es : List JEntry) (p n : ℕ) (k : Kept) (t : Tid) → SlotOk es p n k → has_hold t k ≡ true →
    list_any (prepared_at t p) es ≡ true
own_done es p n k t ok h = elim (or_true (has_writer t k.writer) (has_reader t k.readers) h) [
  | inl a ↦ by k.writer refl a
  | inr b ↦ (let r = has_in t k.readers b in
      subst (λ (x : Tid). list_any (prepared_at x p) es ≡ true) r.2 (ok.reader r.0 r.1).done)
]
  where
    by : (o : Option WriteHold) → k.writer ≡ o → has_writer t o ≡ true → list_any (prepared_at t p) es ≡ true
    by None is a = absurd cc
    by (Some g) is a = subst (λ (x : Tid). list_any (prepared_at x p) es ≡ true) (same_true g.hold.tid t a) (ok.writer g is).done

abbrev pub alone_at : ℕ → Transaction → Alone
alone_at p x = record { store = p; transaction = x }

-- ## What a Write read

module _ (o : Origin) (es : List JEntry) (e : JEntry) (old : Holds es (replay o es)) (asks : Asks (e ∷ es)) (p : ℕ)
    (x : Transaction) (ready : ReadyWrite (e ∷ es) x) (free : write_refusal (replay o es p) x ≡ None) where
  current_alone : (n v : ℕ) → read_at x.reads n ≡ Some v → IsCurrent (replay o es) p n v
  current_alone n v is = record {
    version_is = conflict_at_none n v ((replay o es p).slot n)
        (first_over_none (λ n v. conflict_at n v ((replay o es p).slot n)) x.reads n v
        (write_free (replay o es p) x free).same is);
    none_comes = ap (to_come (replay o es)) (no_writer_of x.tid x.writes n ((replay o es p).slot n)
        (first_over_none (λ n v. busy_at x.tid x.writes n ((replay o es p).slot n)) x.reads n v
        (write_free (replay o es p) x free).quiet is)
        (no_writer es e (replay o es) old asks p x.tid ready.alone ready.asked p n));
  }

  pub write_reads : ReadsCommitted (replay o es) (alone_effect o es (alone_at p x))
  write_reads = record {
    version_is = λ s v h. version s.store s.number v (s.store == p) refl h;
    page_is = λ s v h. page s.store s.number v (s.store == p) refl h;
    no_more = λ s h. nothing s.store s.number (s.store == p) h;
    are_read = λ s h. read s.number (s.store == p) h;
  }
    where
      version : (q n v : ℕ) (b : Bool) → (q == p) ≡ b → cond b (read_at x.reads n) None ≡ Some v →
          (committed (replay o es) (record { store = q; number = n })).version ≡ v
      version q n v true is h =
          subst (λ q. (committed (replay o es) (record { store = q; number = n })).version ≡ v) (sym (eq_true q p is))
          (ap (λ (c : Committed). c.version) (current_committed (replay o es) p n v (current_alone n v h)))
      version q n v false is h = absurd cc

      page : (q n v : ℕ) (b : Bool) → (q == p) ≡ b → cond b (read_at x.reads n) None ≡ Some v →
          cond b (read_then (content_at o es) q n (read_at x.reads n)) None ≡
          Some (shown (replay o es) (record { store = q; number = n }))
      page q n v true is h =
          subst (λ q. read_then (content_at o es) q n (read_at x.reads n) ≡
          Some (shown (replay o es) (record { store = q; number = n }))) (sym (eq_true q p is))
          (ap (read_then (content_at o es) p n) h ∙ current_known o es p n v (current_alone n v h))
      page q n v false is h = absurd cc

      nothing : (q n : ℕ) (b : Bool) → cond b (read_at x.reads n) None ≡ None →
          cond b (read_then (content_at o es) q n (read_at x.reads n)) None ≡ None
      nothing q n true h = ap (read_then (content_at o es) q n) h
      nothing q n false h = refl

      read : (n : ℕ) (b : Bool) → IsSome (cond b (written_at x.writes n) None) → IsSome (cond b (read_at x.reads n) None)
      read n true h = ready.accesses.are_read n h
      read n false h = absurd cc

module _ {S : Type 0} (stands : PageMap → S → Type 0) (next : S → List ℕ → Entry → S → Type 0) (o : Origin) where
  -- what a command carries is right, by what is known of pages
  abbrev pub SoundDecision : List JEntry → Tid → Outcome → Type 0
  SoundDecision es t (Commit en) = IsRight stands next (reads_of_all (content_at o es) es t) (writes_of_all es t) en
  SoundDecision es t Abort = ⊤

  abbrev pub Sound : List JEntry → ℕ → Command → Type 0
  Sound es p Fresh = ⊤
  Sound es p (Read n) = ⊤
  Sound es p (Look ns) = ⊤
  Sound es p (Write x) =
      IsRight stands next (reads_alone (content_at o es) (alone_at p x)) (writes_alone (alone_at p x)) x.entry
  Sound es p (Prepare part) = ⊤
  Sound es p (Decide d) = SoundDecision es d.tid d.outcome
  Sound es p (Resolve r) = ⊤

  pub quiet_step : (v w : World) (ef : Option Effect) → ef ≡ None → committed w ≡ committed v → IsStep stands next v w ef
  quiet_step v w ef is same = subst (λ f. IsStep stands next v w f) (sym is) same

  acts_step : (v w : World) (ef : Option Effect) (f : Effect) → ef ≡ Some f → Acts stands next v w f → IsStep stands next v w ef
  acts_step v w ef f is acts = subst (λ f. IsStep stands next v w f) (sym is) acts

  pub record Does (es : List JEntry) (e : JEntry) (p : ℕ) (s : StoreState) (ef : Option Effect) (old : Holds es (replay o es))
      (asks : Asks (e ∷ es)) : Type 0 where
    pub local : Local es e (replay o es) old asks p s
    pub step : IsStep stands next (replay o es) (put (replay o es) p s) ef

  module _ (es : List JEntry) (e : JEntry) (old : Holds es (replay o es)) (asks : Asks (e ∷ es)) (before : Asks es) (p : ℕ)
      (a : Answer) where
    quietly : (ef : Option Effect) → ef ≡ None → ((t : Tid) → prepared_at t p e ≡ false) →
        Does es e p (replay o es p) ef old asks
    quietly ef is none = record {
      local = nothing es e (replay o es) old asks p none;
      step = quiet_step (replay o es) (put (replay o es) p (replay o es p)) ef is (ap committed (put_same (replay o es) p));
    }

    does_write : (x : Transaction) → ((t : Tid) → prepared_at t p e ≡ false) → a ≡ answer_of (replay o es p) (Write x) →
        ReadyWrite (e ∷ es) x → Sound es p (Write x) →
        Does es e p (after (replay o es p) (Write x)) (settled_effect o es p (Write x) a) old asks
    does_write x none a_is ready sound = at (write_refusal (replay o es p) x) refl a_is
      where
        at : (r : Option Answer) → write_refusal (replay o es p) x ≡ r → a ≡ write_answer r →
            Does es e p (after_write r (replay o es p) x) (settled_effect o es p (Write x) a) old asks
        at (Some y) is a_is =
            let none_is = no_effect (replay o es p) x y a a_is (write_cause (replay o es p) x y is) in
            quietly (settled_effect o es p (Write x) a) (rw none_is refl) none
        at None is a_is =
            let free : (replay o es p).decided x.tid ≡ None = (write_free (replay o es p) x is).decided in
            record {
              local = write_local es e (replay o es) old asks p x none ready is;
              step = acts_step (replay o es) (put (replay o es) p (after_write None (replay o es p) x))
                  (settled_effect o es p (Write x) a) (alone_effect o es (alone_at p x)) (rw (a_is, free) refl) (record {
                    reads_committed = write_reads o es e old asks p x ready is;
                    right = sound;
                    written = pages_write es e (replay o es) old asks p x ready is;
                  });
            }

    does_prepare : (part : Part) →
        ((t : Tid) → prepared_at t p e ≡ ((p == p) && (is_same part.tid t && is_prepared a))) →
        a ≡ answer_of (replay o es p) (Prepare part) → Ready es (e ∷ es) p (Prepare part) →
        Does es e p (after (replay o es p) (Prepare part)) None old asks
    does_prepare part at_e a_is ready = at (prepare_refusal (replay o es p) part) refl a_is
      where
        others : (u : Tid) → is_same part.tid u ≡ false → prepared_at u p e ≡ false
        others u ne = at_e u ∙ (rw (eq_self p, ne) refl)

        at : (r : Option Answer) → prepare_refusal (replay o es p) part ≡ r → a ≡ unwrap_or r answer.Prepared →
            Does es e p (after_prepare r (replay o es p) part) None old asks
        at (Some y) is a_is = record {
          local = again_local es e (replay o es) old asks p part.tid others (λ on.
              let z = sym (at_e part.tid) ∙ on in
              let b : is_prepared a ≡ true =
              (and_true (is_same part.tid part.tid) (is_prepared a) (and_true (p == p) _ z).1).1 in
              let c : is_prepared y ≡ true = subst (λ (x : Answer). is_prepared x ≡ true) a_is b in
              let n = own_cause (replay o es p) part.tid y c (prepare_cause (replay o es p) part y is) in
              own_done es p n.0 ((replay o es p).slot n.0) part.tid (old.slots p n.0) n.1);
          step = ap committed (put_same (replay o es) p);
        }
        at None is a_is = record {
          local = prepare_local es e (replay o es) old asks p part others
              (at_e part.tid ∙ (rw (eq_self p, same_self part.tid, a_is) refl)) ready is;
          step = pages_prepare es e (replay o es) old asks p part ready is;
        }

    does_decide : (t : Tid) (out : Outcome) → ((u : Tid) → prepared_at u p e ≡ false) → ReadyDecision es p t out →
        SoundDecision es t out → (d : Option Outcome) → (replay o es p).decided t ≡ d →
        Does es e p (after_decide d (replay o es p) t out)
        (cond (is_none d) (decision_effect o es t out) None) old asks
    does_decide t out none ready sound (Some x) is = quietly None refl none
    does_decide t (Commit en) none ready sound None is = record {
      local = decide_local es e (replay o es) old asks p t (Commit en) none ready is;
      step = record {
        reads_committed = decide_reads o es e old asks before p t en ready is;
        right = sound;
        written = pages_commit o es e old asks before p t en ready is;
      };
    }
    does_decide t Abort none ready sound None is = record {
      local = decide_local es e (replay o es) old asks p t Abort none ready is;
      step = pages_abort es e (replay o es) old asks p t is;
    }

    pub does : (c : Command) → ((t : Tid) → prepared_at t p e ≡ is_prepared_by t p p c a) →
        a ≡ answer_of (replay o es p) c → Ready es (e ∷ es) p c → Sound es p c →
        Does es e p (after (replay o es p) c) (settled_effect o es p c a) old asks
    does Fresh at_e a_is ready sound = record {
      local = only_next es e (replay o es) old asks p ((replay o es p).next + 1)
          (nothing es e (replay o es) old asks p (λ t. at_e t ∙ and_false (p == p)));
      step = pages_next (replay o es) p ((replay o es p).next + 1);
    }
    does (Read n) at_e a_is ready sound = quietly None refl (λ t. at_e t ∙ and_false (p == p))
    does (Look ns) at_e a_is ready sound = quietly None refl (λ t. at_e t ∙ and_false (p == p))
    does (Write x) at_e a_is ready sound = does_write x (λ t. at_e t ∙ and_false (p == p)) a_is ready sound
    does (Prepare part) at_e a_is ready sound = does_prepare part at_e a_is ready
    does (Decide d) at_e a_is ready sound =
        does_decide d.tid d.outcome (λ t. at_e t ∙ and_false (p == p)) ready sound ((replay o es p).decided d.tid) refl
    does (Resolve r) at_e a_is ready sound = record {
      local = resolve_local es e (replay o es) old asks p r (λ t. at_e t ∙ and_false (p == p)) ready;
      step = pages_resolve es e (replay o es) old asks p r ready;
    }
