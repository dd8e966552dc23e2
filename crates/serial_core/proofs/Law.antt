-- The law: what holds of the stores at every lawful journal, and how each entry moves the committed pages.
use Rattle.std.proofs.Common.{◌≡◌, ℕ, ◌==◌, Bool, true, false, cond, ◌&&◌, List, [], ◌∷◌, Option, Some, None}
use Rattle.std.proofs.Common.{refl, sym, ◌∙◌, subst, unwrap_or}
use mathlib.Core.Path.{fun_ext}
use Rattle.std.specs.List.{Contains}
use Rattle.pair_types.specs.declared.slot.Slot.{Slot}
use Rattle.pair_types.specs.declared.slot.Tid.{Tid}
use Rattle.pair_types.specs.PageMaps.{PageMap, ReadMap}
use Rattle.nfs3_types.specs.declared.entry.Entry.{Entry}
use Rattle.page_types.specs.declared.outcome.Outcome.{Outcome}
use Rattle.page_types.specs.declared.outcome.Outcome.TheVariants.{Commit, Abort}
use Rattle.page_types.specs.declared.command.Part.{Part}
use Rattle.page_types.specs.declared.command.Command.{Command}
use Rattle.page_types.specs.declared.command.Command.TheVariants.{Fresh, Read, Look, Write, Prepare, Decide, Resolve}
use Rattle.page_types.specs.declared.answer.Answer.{Answer}
use Rattle.page_types.specs.declared.answer.Answer.TheVariants.{Decided}
use Rattle.page_types.specs.declared.journal.JEntry.{JEntry}
use Rattle.page_types.specs.declared.journal.JEntry.TheVariants.{Took, Doubted, Late}
use Rattle.page_types.specs.Accesses.{is_same, read_at}
use Rattle.page_types.specs.Journals.{Origin}
use Rattle.page_types.specs.Asked.{first_of, found_in, Plan, plan_of, Alone, part_in, plan_in, alone_in, part_asked, plan_asked}
use Rattle.page_types.specs.Asked.{alone_asked, is_decide_of, is_prepared, is_commit, tells, is_prepared_at}
use Rattle.page_types.specs.Asked.{is_told_at}
use Rattle.page_types.specs.Fair.{IsRight, DecisionFair, read_then, reads_alone, writes_alone, reads_of_part, writes_of_part}
use Rattle.page_types.specs.Stores.{never_written, first_written, first_kept}
use Rattle.page_types.specs.Obeys.{answer_of, after, after_decide}
use Rattle.serial_rules.specs.Worlds.{World, put, first_page, first_world, replay, pending}
use Rattle.serial_rules.specs.Contents.{content_at}
use Rattle.serial_rules.specs.Lawful.{IsPlan, IsAllowed, IsLawful}
use Rattle.serial_rules.specs.History.{effect_of}
use Rattle.serial_rules.specs.Serial.{IsStep}
use Rattle.serial_core.proofs.Basics.{and_true, eq_true, eq_self, same_true, same_self, found_more, any_more, any_imp}
use Rattle.serial_core.proofs.Basics.{some_same, not_true, none_some}
use Rattle.serial_core.proofs.Asks.{Asks, IsAsk, asks, again_first}
use Rattle.serial_core.proofs.Moves.{content_more}
use Rattle.serial_core.proofs.Slots.{is_prepared_by, prepared_at, Free, slot_free}
use Rattle.serial_core.proofs.Holds.{Holds, IsDecided, ReadyCommit, ReadyDecision, Ready, nothing}
use Rattle.serial_core.proofs.Holds.{all_kept}
use Rattle.serial_core.proofs.Pages.{put_same}
use Rattle.serial_core.proofs.Commands.{alone_at, SoundDecision, Sound, does}

-- ## Before all entries

free_first : (first : Option (List ℕ)) (n : ℕ) → Free (first_kept first n)
free_first None n = record { writer = refl; readers = λ h within. within }
free_first (Some page) n = at (n == 0)
  where
    at : (b : Bool) → Free (cond b (first_written page) never_written)
    at true = record { writer = refl; readers = λ h within. within }
    at false = record { writer = refl; readers = λ h within. within }

pub first_holds : (o : Origin) → Holds [] (first_world o)
first_holds o = record {
  slots = λ p n. slot_free [] p n _ (free_first (first_page o p) n);
  held = λ p t part on. absurd cc;
  ended = λ p t h. absurd cc;
  told = λ pass t h b on. absurd cc;
  commits = λ p t en h. absurd cc;
  asked_first = λ t q on. absurd cc;
}

-- ## What an answer tells

told_right : (b : Bool) (o : Outcome) → tells b (Decided o) ≡ true → is_commit o ≡ b
told_right true o h = h
told_right false o h = not_true (is_commit o) h

pub told_now : (w : World) (p : ℕ) (a : Answer) (c : Command) → a ≡ answer_of (w p) c → (t : Tid) (h : ℕ) (b : Bool) →
    ((p == h) && (is_decide_of t c && tells b a)) ≡ true → IsDecided (put w p (after (w p) c)) h t b
told_now w p a Fresh a_is t h b on = absurd (let z = (and_true (p == h) _ on).1 in cc)
told_now w p a (Read n) a_is t h b on = absurd (let z = (and_true (p == h) _ on).1 in cc)
told_now w p a (Look ns) a_is t h b on = absurd (let z = (and_true (p == h) _ on).1 in cc)
told_now w p a (Write x) a_is t h b on = absurd (let z = (and_true (p == h) _ on).1 in cc)
told_now w p a (Prepare part) a_is t h b on = absurd (let z = (and_true (p == h) _ on).1 in cc)
told_now w p a (Resolve r) a_is t h b on = absurd (let z = (and_true (p == h) _ on).1 in cc)
told_now w p a (Decide d) a_is t h b on =
    let x = and_true (p == h) (is_same d.tid t && tells b a) on in
    let y = and_true (is_same d.tid t) (tells b a) x.1 in
    let z : tells b (Decided (unwrap_or ((w p).decided d.tid) d.outcome)) ≡ true =
    subst (λ (x : Answer). tells b x ≡ true) a_is y.1 in (
      unwrap_or ((w p).decided d.tid) d.outcome,
      rw x.0 (subst (λ (v : Tid). (after_decide ((w p).decided d.tid) (w p) d.tid d.outcome).decided v ≡
          Some (unwrap_or ((w p).decided d.tid) d.outcome)) (same_true d.tid t y.0) (at ((w p).decided d.tid) refl)),
      told_right b _ z,
    )
  where
    at : (x : Option Outcome) → (w p).decided d.tid ≡ x →
        (after_decide x (w p) d.tid d.outcome).decided d.tid ≡ Some (unwrap_or x d.outcome)
    at None is = rw (same_self d.tid) refl
    at (Some x) is = is

pub asked_now : (es fs : List JEntry) (p : ℕ) (a : Answer) (c : Command) → Ready es fs p c → (t : Tid) (q : ℕ) →
    is_prepared_by t q p c a ≡ true → (part : Part) × (part_asked fs t q ≡ Some part)
asked_now es fs p a Fresh ready t q on = absurd (let z = (and_true (p == q) _ on).1 in cc)
asked_now es fs p a (Read n) ready t q on = absurd (let z = (and_true (p == q) _ on).1 in cc)
asked_now es fs p a (Look ns) ready t q on = absurd (let z = (and_true (p == q) _ on).1 in cc)
asked_now es fs p a (Write x) ready t q on = absurd (let z = (and_true (p == q) _ on).1 in cc)
asked_now es fs p a (Decide d) ready t q on = absurd (let z = (and_true (p == q) _ on).1 in cc)
asked_now es fs p a (Resolve r) ready t q on = absurd (let z = (and_true (p == q) _ on).1 in cc)
asked_now es fs p a (Prepare part) ready t q on =
    let x = and_true (p == q) (is_same part.tid t && is_prepared a) on in
    let y = and_true (is_same part.tid t) (is_prepared a) x.1 in (
      part,
      subst (λ q. part_asked fs t q ≡ Some part) (eq_true p q x.0)
          (subst (λ (v : Tid). part_asked fs v p ≡ Some part) (same_true part.tid t y.0) ready),
    )

own_prepared : (t : Tid) (q : ℕ) (e : JEntry) → is_prepared_at t q e ≡ true → prepared_at t q e ≡ true
own_prepared t q (Took pass p c a) h = (and_true (pass == t.pass) _ h).1
own_prepared t q (Doubted pass p c) h = absurd cc
own_prepared t q (Late p c a) h = absurd cc

told_took : (who : ℕ) (t : Tid) (h : ℕ) (b : Bool) (pass p : ℕ) (c : Command) (a : Answer) →
    is_told_at who t h b (Took pass p c a) ≡ true → ((p == h) && (is_decide_of t c && tells b a)) ≡ true
told_took who t h b pass p c a on = (and_true (pass == who) _ on).1

-- ## What may be asked is ready, and stays so

pub ready_more : (es fs : List JEntry) (e : JEntry) (p : ℕ) (c : Command) →
    ((x : Alone) (t : Tid) → alone_asked fs t ≡ Some x → alone_asked (e ∷ es) t ≡ Some x) →
    ((part : Part) (t : Tid) → part_asked fs t p ≡ Some part → part_asked (e ∷ es) t p ≡ Some part) →
    Ready es fs p c → Ready (e ∷ es) (e ∷ es) p c
ready_more es fs e p Fresh alone part r = tt
ready_more es fs e p (Read n) alone part r = tt
ready_more es fs e p (Look ns) alone part r = tt
ready_more es fs e p (Write x) alone part r =
    record { alone = r.alone; asked = alone r.alone x.tid r.asked; accesses = r.accesses }
ready_more es fs e p (Prepare x) alone part r = part x x.tid r
ready_more es fs e p (Decide d) alone part r = by d.outcome r
  where
    by : (out : Outcome) → ReadyDecision es p d.tid out → ReadyDecision (e ∷ es) p d.tid out
    by (Commit en) r = record {
      plan = r.plan;
      planned = found_more (plan_in d.tid) es e _ r.planned;
      home = r.home;
      prepared = λ q h. any_more (prepared_at d.tid q) es e (r.prepared q h);
    }
    by Abort r = tt
ready_more es fs e p (Resolve x) alone part r = record {
  plan = r.plan;
  planned = found_more (plan_in x.tid) es e _ r.planned;
  pass = r.pass;
  told = any_more (is_told_at r.pass x.tid r.plan.home x.commit) es e r.told;
}

pub ready_late : (es : List JEntry) (e : JEntry) (p : ℕ) (c : Command) → Ready es es p c → Ready es (e ∷ es) p c
ready_late es e p Fresh r = tt
ready_late es e p (Read n) r = tt
ready_late es e p (Look ns) r = tt
ready_late es e p (Write x) r =
    record { alone = r.alone; asked = found_more (alone_in x.tid) es e _ r.asked; accesses = r.accesses }
ready_late es e p (Prepare x) r = found_more (part_in x.tid p) es e _ r
ready_late es e p (Decide d) r = r
ready_late es e p (Resolve x) r = r

-- what was read by a command is known still
read_then_more : (o : Origin) (es : List JEntry) (e : JEntry) (q n : ℕ) (held : Option (List ℕ)) (v : Option ℕ) →
    read_then (content_at o es) q n v ≡ Some held → read_then (content_at o (e ∷ es)) q n v ≡ Some held
read_then_more o es e q n held None h = h
read_then_more o es e q n held (Some v) h = content_more o es e q n v held h

module _ {S : Type 0} (stands : PageMap → S → Type 0) (next : S → List ℕ → Entry → S → Type 0) (o : Origin) where
  -- what is right on some reads is right on more
  pub right_more : (R Q : ReadMap) (W : PageMap) (en : Option Entry) →
      ((s : Slot) (held : Option (List ℕ)) → R s ≡ Some held → Q s ≡ Some held) →
      IsRight stands next R W en → IsRight stands next Q W en
  right_more R Q W en more right under state agrees st =
      right under state (record { at = λ s held h. agrees.at s held (more s held h) }) st

  pub fair_ready : (es : List JEntry) (e : JEntry) (pass p : ℕ) (c : Command) → IsAsk e p c →
      IsAllowed stands next o es pass p c → Ready es (e ∷ es) p c
  fair_ready es e pass p Fresh in_is f = tt
  fair_ready es e pass p (Read n) in_is f = tt
  fair_ready es e pass p (Look ns) in_is f = tt
  fair_ready es e pass p (Write x) in_is f = record {
    alone = alone_at p x;
    asked =
        let is : found_in (alone_in x.tid) e ≡ Some (alone_at p x) =
        in_is Alone (alone_in x.tid) ∙ (rw (same_self x.tid) refl) in
        rw is (again_first (alone_asked es x.tid) (alone_at p x) f.again);
    accesses = f.accesses;
  }
  fair_ready es e pass p (Prepare x) in_is f =
      let is : found_in (part_in x.tid p) e ≡ Some x =
      in_is Part (part_in x.tid p) ∙ (rw (eq_self p, same_self x.tid) refl) in
      rw is (again_first (part_asked es x.tid p) x f.again)
  fair_ready es e pass p (Decide d) in_is f = by d.outcome f
    where
      by : (out : Outcome) → DecisionFair stands next (content_at o es) (IsPlan es pass) es pass p d.tid out →
          ReadyDecision es p d.tid out
      by (Commit en) f = record {
        plan = f.plan;
        planned = f.planned;
        home = f.home;
        prepared = λ q h.
            any_imp (is_prepared_at d.tid q) (prepared_at d.tid q) (own_prepared d.tid q) es (f.prepared q h);
      }
      by Abort f = tt
  fair_ready es e pass p (Resolve x) in_is f =
      record { plan = f.plan; planned = f.planned.planned; pass = pass; told = f.told }

  pub fair_sound : (es : List JEntry) (pass p : ℕ) (c : Command) → IsAllowed stands next o es pass p c →
      Sound stands next o es p c
  fair_sound es pass p Fresh f = tt
  fair_sound es pass p (Read n) f = tt
  fair_sound es pass p (Look ns) f = tt
  fair_sound es pass p (Write x) f = f.right
  fair_sound es pass p (Prepare x) f = tt
  fair_sound es pass p (Decide d) f = by d.outcome f
    where
      by : (out : Outcome) → DecisionFair stands next (content_at o es) (IsPlan es pass) es pass p d.tid out →
          SoundDecision stands next o es d.tid out
      by (Commit en) f = f.right
      by Abort f = tt
  fair_sound es pass p (Resolve x) f = tt

  -- once all parts are prepared, nothing new is asked of one
  same_parts : (es : List JEntry) (e : JEntry) (t : Tid) (p : ℕ) → Holds es (replay o es) → Asks (e ∷ es) →
      ReadyCommit es p t → (q : ℕ) → part_asked (e ∷ es) t q ≡ part_asked es t q
  same_parts es e t p old ak r q = at (part_asked es t q) refl (found_in (part_in t q) e) refl
    where
      at : (x : Option Part) → part_asked es t q ≡ x → (y : Option Part) → found_in (part_in t q) e ≡ y →
          first_of x y ≡ x
      at (Some x) x_is y y_is = refl
      at None x_is None y_is = refl
      at None x_is (Some part) y_is =
          let now : part_asked (e ∷ es) t q ≡ Some part = rw (x_is, y_is) refl in
          let a = ak.agree t q part now in
          let same : plan_of part ≡ r.plan = some_same (plan_asked (e ∷ es) t) (plan_of part) r.plan a.plan_is
          (found_more (plan_in t) es e _ r.planned) in
          let done = r.prepared q (subst (λ (x : Plan). Contains x.parts q) same a.here) in
          absurd (none_some x_is (old.asked_first t q done).1)

  sound_more : (es fs : List JEntry) (e : JEntry) (p : ℕ) (c : Command) → Holds es (replay o es) → Asks (e ∷ es) →
      Ready es fs p c → Sound stands next o es p c → Sound stands next o (e ∷ es) p c
  sound_more es fs e p Fresh old ak r s = tt
  sound_more es fs e p (Read n) old ak r s = tt
  sound_more es fs e p (Look ns) old ak r s = tt
  sound_more es fs e p (Write x) old ak r s =
      right_more (reads_alone (content_at o es) (alone_at p x)) (reads_alone (content_at o (e ∷ es)) (alone_at p x))
      (writes_alone (alone_at p x)) x.entry (λ y held h. at y held (y.store == p) h) s
    where
      at : (y : Slot) (held : Option (List ℕ)) (b : Bool) →
          cond b (read_then (content_at o es) y.store y.number (read_at x.reads y.number)) None ≡ Some held →
          cond b (read_then (content_at o (e ∷ es)) y.store y.number (read_at x.reads y.number)) None ≡ Some held
      at y held true h = read_then_more o es e y.store y.number held (read_at x.reads y.number) h
      at y held false h = h
  sound_more es fs e p (Prepare x) old ak r s = tt
  sound_more es fs e p (Decide d) old ak r s = by d.outcome r s
    where
      one : (y : Slot) (held : Option (List ℕ)) (x : Option Part) → reads_of_part (content_at o es) x y ≡ Some held →
          reads_of_part (content_at o (e ∷ es)) x y ≡ Some held
      one y held None h = h
      one y held (Some part) h = read_then_more o es e y.store y.number held (read_at part.reads y.number) h

      by : (out : Outcome) → ReadyDecision es p d.tid out → SoundDecision stands next o es d.tid out →
          SoundDecision stands next o (e ∷ es) d.tid out
      by (Commit en) r s =
          subst (λ (h : ℕ → Option Part). IsRight stands next (λ y. reads_of_part (content_at o (e ∷ es)) (h y.store) y)
          (λ y. writes_of_part (h y.store) y) en)
          (sym (fun_ext (λ q. same_parts es e d.tid p old ak r q)))
          (right_more (λ y. reads_of_part (content_at o es) (part_asked es d.tid y.store) y)
          (λ y. reads_of_part (content_at o (e ∷ es)) (part_asked es d.tid y.store) y)
          (λ y. writes_of_part (part_asked es d.tid y.store) y) en
          (λ y held h. one y held (part_asked es d.tid y.store) h) s)
      by Abort r s = tt
  sound_more es fs e p (Resolve x) old ak r s = tt

  -- ## All of it, by induction

  pub record AllKept (es : List JEntry) : Type 0 where
    pub kept : Holds es (replay o es)
    pub waiting : (p : ℕ) (c : Command) → pending es p ≡ Some c → Ready es es p c × Sound stands next o es p c

  later : (es : List JEntry) (e : JEntry) → AllKept es → Asks (e ∷ es) → (p : ℕ) (c : Command) → pending es p ≡ Some c →
      Ready (e ∷ es) (e ∷ es) p c × Sound stands next o (e ∷ es) p c
  later es e old ak p c h =
      let r = old.waiting p c h in (
        ready_more es es e p c (λ x t. found_more (alone_in t) es e x) (λ x t. found_more (part_in t p) es e x) r.0,
        sound_more es es e p c old.kept ak r.0 r.1,
      )

  step_took : (es : List JEntry) (pass p : ℕ) (c : Command) (a : Answer) → AllKept es →
      IsLawful stands next o (Took pass p c a ∷ es) →
      AllKept (Took pass p c a ∷ es) ×
      IsStep stands next (replay o es) (replay o (Took pass p c a ∷ es)) (effect_of o es (Took pass p c a))
  step_took es pass p c a old law =
      let e = Took pass p c a in
      let ak = asks stands next o (Took pass p c a ∷ es) law in
      let r = fair_ready es (Took pass p c a) pass p c (λ A f. refl) law.1.1 in
      let d = does stands next o es (Took pass p c a) old.kept ak (asks stands next o es law.0) p a c (λ t. refl)
      law.1.0.given r (fair_sound es pass p c law.1.1) in (
        record {
          kept = all_kept es (Took pass p c a) (replay o es) old.kept ak p (after (replay o es p) c) d.local
              (λ t q ne. rw ne refl)
              (λ who t h b on. told_now (replay o es) p a c law.1.0.given t h b (told_took who t h b pass p c a on))
              (λ t q on. asked_now es (Took pass p c a ∷ es) p a c r t q on);
          waiting = later es (Took pass p c a) old ak;
        },
        d.step,
      )

  step_doubted : (es : List JEntry) (pass p : ℕ) (c : Command) → AllKept es → IsLawful stands next o (Doubted pass p c ∷ es) →
      AllKept (Doubted pass p c ∷ es)
  step_doubted es pass p c old law = record {
    kept = subst (Holds (Doubted pass p c ∷ es)) (put_same (replay o es) p)
        (all_kept es (Doubted pass p c) (replay o es) old.kept ak p (replay o es p)
        (nothing es (Doubted pass p c) (replay o es) old.kept ak p (λ t. refl)) (λ t q ne. refl)
        (λ who t h b on. absurd cc) (λ t q on. absurd cc));
    waiting = λ q d h. at q d (p == q) refl (pending es q) refl h;
  }
    where
      ak : Asks (Doubted pass p c ∷ es)
      ak = asks stands next o (Doubted pass p c ∷ es) law

      r : Ready es (Doubted pass p c ∷ es) p c
      r = fair_ready es (Doubted pass p c) pass p c (λ A f. refl) law.1

      new : Ready (Doubted pass p c ∷ es) (Doubted pass p c ∷ es) p c × Sound stands next o (Doubted pass p c ∷ es) p c
      new =
          let ready = fair_ready es (Doubted pass p c) pass p c (λ A f. refl) law.1 in (
            ready_more es (Doubted pass p c ∷ es) (Doubted pass p c) p c (λ x t h. h) (λ x t h. h) ready,
            sound_more es (Doubted pass p c ∷ es) (Doubted pass p c) p c old.kept
                (asks stands next o (Doubted pass p c ∷ es) law) ready (fair_sound es pass p c law.1),
          )

      at : (q : ℕ) (d : Command) (b : Bool) → (p == q) ≡ b → (x : Option Command) → pending es q ≡ x →
          cond b (first_of x (Some c)) x ≡ Some d →
          Ready (Doubted pass p c ∷ es) (Doubted pass p c ∷ es) q d × Sound stands next o (Doubted pass p c ∷ es) q d
      at q d true is None on h =
          let command : c ≡ d = cc in
          subst (λ q. Ready (Doubted pass p c ∷ es) (Doubted pass p c ∷ es) q d ×
          Sound stands next o (Doubted pass p c ∷ es) q d) (eq_true p q is)
          (subst (λ (x : Command). Ready (Doubted pass p c ∷ es) (Doubted pass p c ∷ es) p x ×
          Sound stands next o (Doubted pass p c ∷ es) p x) command new)
      at q d true is (Some x) on h = later es (Doubted pass p c) old ak q d (on ∙ h)
      at q d false is x on h = later es (Doubted pass p c) old ak q d (on ∙ h)

  step_late : (es : List JEntry) (p : ℕ) (c : Command) (a : Answer) → AllKept es → IsLawful stands next o (Late p c a ∷ es) →
      AllKept (Late p c a ∷ es) ×
      IsStep stands next (replay o es) (replay o (Late p c a ∷ es)) (effect_of o es (Late p c a))
  step_late es p c a old law =
      let ak = asks stands next o (Late p c a ∷ es) law in
      let rs = old.waiting p c law.1.waited in
      let r = ready_late es (Late p c a) p c rs.0 in
      let d = does stands next o es (Late p c a) old.kept ak (asks stands next o es law.0) p a c (λ t. refl) law.1.given r
      rs.1 in (
        record {
          kept = all_kept es (Late p c a) (replay o es) old.kept ak p (after (replay o es p) c) d.local (λ t q ne. rw ne refl)
              (λ who t h b on. absurd cc) (λ t q on. asked_now es (Late p c a ∷ es) p a c r t q on);
          waiting = λ q d h. later es (Late p c a) old ak q d (still (p == q) (pending es q) d h);
        },
        d.step,
      )
    where
      still : (b : Bool) (x : Option Command) (d : Command) → cond b None x ≡ Some d → x ≡ Some d
      still true x d h = absurd cc
      still false x d h = h

  -- one more entry
  pub law_step : (es : List JEntry) (e : JEntry) → AllKept es → IsLawful stands next o (e ∷ es) →
      AllKept (e ∷ es) × IsStep stands next (replay o es) (replay o (e ∷ es)) (effect_of o es e)
  law_step es (Took pass p c a) old law = step_took es pass p c a old law
  law_step es (Doubted pass p c) old law = (step_doubted es pass p c old law, refl)
  law_step es (Late p c a) old law = step_late es p c a old law

  pub law_all : (es : List JEntry) → IsLawful stands next o es → AllKept es
  law_all [] law = record { kept = first_holds o; waiting = λ p c h. absurd cc }
  law_all (e ∷ es) law = (law_step es e (law_all es law.0) law).0

  pub step_of : (es : List JEntry) (e : JEntry) → IsLawful stands next o (e ∷ es) →
      IsStep stands next (replay o es) (replay o (e ∷ es)) (effect_of o es e)
  step_of es e law = (law_step es e (law_all es law.0) law).1
