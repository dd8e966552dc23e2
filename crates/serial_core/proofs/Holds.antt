-- What holds of the stores at a lawful journal, and how each command keeps it at its own store.
use Rattle.std.proofs.Common.{◌≡◌, ℕ, ◌==◌, Bool, true, false, cond, List, ◌∷◌, Option, Some, None, refl, ap}
use Rattle.std.proofs.Common.{sym, ◌∙◌, subst, ◌⊎◌, inl, inr}
use Rattle.std.specs.Prelude.{⊤}
use Rattle.std.specs.List.{list_any, Contains}
use Rattle.pair_types.specs.declared.slot.Tid.{Tid}
use Rattle.nfs3_types.specs.declared.entry.Entry.{Entry}
use Rattle.page_types.specs.declared.hold.Hold.{Hold}
use Rattle.page_types.specs.declared.hold.WriteHold.{WriteHold}
use Rattle.page_types.specs.declared.outcome.Outcome.{Outcome}
use Rattle.page_types.specs.declared.outcome.Outcome.TheVariants.{Commit, Abort}
use Rattle.page_types.specs.declared.command.Transaction.{Transaction}
use Rattle.page_types.specs.declared.command.Part.{Part}
use Rattle.page_types.specs.declared.command.Resolution.{Resolution}
use Rattle.page_types.specs.declared.command.Command.{Command}
use Rattle.page_types.specs.declared.command.Command.TheVariants.{Fresh, Read, Look, Write, Prepare, Decide, Resolve}
use Rattle.page_types.specs.declared.answer.Answer.TheVariants as answer
use Rattle.page_types.specs.declared.journal.JEntry.{JEntry}
use Rattle.page_types.specs.Accesses.{is_same, read_at, written_at, AreAccesses}
use Rattle.page_types.specs.Asked.{Plan, plan_of, Alone, part_in, plan_in, alone_in, part_asked, plan_asked, alone_asked}
use Rattle.page_types.specs.Asked.{is_commit, is_told_at}
use Rattle.page_types.specs.Stores.{Kept, StoreState}
use Rattle.page_types.specs.Obeys.{busy_at, conflict_at, has_reader, has_writer, has_hold, hold_of, holding}
use Rattle.page_types.specs.Obeys.{write_refusal, prepare_refusal, after_write, after_prepare, after_decide, after_resolve}
use Rattle.serial_rules.specs.Worlds.{World, put}
use Rattle.serial_core.proofs.Basics.{some_of, is_some_by, some_same, or_true, or_false, cond_none, eq_true, same_true}
use Rattle.serial_core.proofs.Basics.{same_self, found_more, any_more, any_cases, not_both, none_some}
use Rattle.serial_core.proofs.Refusals.{IsIn, in_has, first_over_none, conflict_at_none, write_free}
use Rattle.serial_core.proofs.Refusals.{prepare_free}
use Rattle.serial_core.proofs.Asks.{Asks}
use Rattle.serial_core.proofs.Slots.{prepared_at, SlotOk, Free, HoldsAt, slot_more, slot_written}
use Rattle.serial_core.proofs.Slots.{free_of_others, no_writer_of, slot_held, held_new, held_kept, slot_resolved, held_resolved}
use Rattle.serial_core.proofs.Slots.{held_written}

-- each part that was prepared, and has not ended, has its holds
abbrev pub Held : List JEntry → ℕ → StoreState → Type 0
Held es p s = (t : Tid) (part : Part) → list_any (prepared_at t p) es ≡ true → part_asked es t p ≡ Some part →
    s.ended t ≡ false → (n v : ℕ) → read_at part.reads n ≡ Some v → HoldsAt (s.slot n) t (written_at part.writes n)

-- the transaction was decided at its home
pub record DecidedAtHome (w : World) (es : List JEntry) (t : Tid) : Type 0 where
  pub plan : Plan
  pub planned : plan_asked es t ≡ Some plan
  pub outcome : Outcome
  pub decided : (w plan.home).decided t ≡ Some outcome

-- all parts of the transaction were prepared
pub record AllPrepared (es : List JEntry) (t : Tid) : Type 0 where
  pub plan : Plan
  pub planned : plan_asked es t ≡ Some plan
  pub prepared : (q : ℕ) → Contains plan.parts q → list_any (prepared_at t q) es ≡ true

-- what was committed was asked alone, or all its parts were prepared
abbrev pub MayCommit : List JEntry → Tid → Type 0
MayCommit es t = ((x : Alone) × (alone_asked es t ≡ Some x)) ⊎ AllPrepared es t

-- a decision that agrees with what was told
abbrev pub IsDecided : World → ℕ → Tid → Bool → Type 0
IsDecided w h t b = (o : Outcome) × ((w h).decided t ≡ Some o) × (is_commit o ≡ b)

pub record Holds (es : List JEntry) (w : World) : Type 0 where
  pub slots : (p n : ℕ) → SlotOk es p n ((w p).slot n)
  pub held : (p : ℕ) → Held es p (w p)
  pub ended : (p : ℕ) (t : Tid) → (w p).ended t ≡ true → DecidedAtHome w es t
  pub told : (pass : ℕ) (t : Tid) (h : ℕ) (b : Bool) → list_any (is_told_at pass t h b) es ≡ true → IsDecided w h t b
  pub commits : (p : ℕ) (t : Tid) (e : Option Entry) → (w p).decided t ≡ Some (Commit e) → MayCommit es t
  pub asked_first : (t : Tid) (q : ℕ) → list_any (prepared_at t q) es ≡ true → (part : Part) × (part_asked es t q ≡ Some part)

-- ## What a command has when it is obeyed: es is before it, and fs with it

pub record ReadyWrite (fs : List JEntry) (x : Transaction) : Type 0 where
  pub alone : Alone
  pub asked : alone_asked fs x.tid ≡ Some alone
  pub accesses : AreAccesses x.reads x.writes

pub record ReadyCommit (es : List JEntry) (p : ℕ) (t : Tid) : Type 0 where
  pub plan : Plan
  pub planned : plan_asked es t ≡ Some plan
  pub home : plan.home ≡ p
  pub prepared : (q : ℕ) → Contains plan.parts q → list_any (prepared_at t q) es ≡ true

pub record ReadyResolve (es : List JEntry) (r : Resolution) : Type 0 where
  pub plan : Plan
  pub planned : plan_asked es r.tid ≡ Some plan
  pub pass : ℕ
  pub told : list_any (is_told_at pass r.tid plan.home r.commit) es ≡ true

abbrev pub ReadyDecision : List JEntry → ℕ → Tid → Outcome → Type 0
ReadyDecision es p t (Commit e) = ReadyCommit es p t
ReadyDecision es p t Abort = ⊤

abbrev pub Ready : List JEntry → List JEntry → ℕ → Command → Type 0
Ready es fs p Fresh = ⊤
Ready es fs p (Read n) = ⊤
Ready es fs p (Look ns) = ⊤
Ready es fs p (Write x) = ReadyWrite fs x
Ready es fs p (Prepare part) = part_asked fs part.tid p ≡ Some part
Ready es fs p (Decide d) = ReadyDecision es p d.tid d.outcome
Ready es fs p (Resolve r) = ReadyResolve es r

-- a fact of each store, from that of the one that changed
pub put_all : (P : ℕ → StoreState → Type 0) (w : World) (p : ℕ) (s : StoreState) → P p s →
    ((q : ℕ) → (p == q) ≡ false → P q (w q)) → (q : ℕ) → P q (put w p s q)
put_all P w p s here others q = at (p == q) refl
  where
    at : (b : Bool) → (p == q) ≡ b → P q (cond b s (w q))
    at true is = subst (λ q. P q s) (eq_true p q is) here
    at false is = others q is

pub own_none : (t : Tid) (k : Kept) → cond (has_hold t k) (Some answer.Prepared) None ≡ None →
    ((w : WriteHold) → k.writer ≡ Some w → w.hold.tid ≡ t → ⊥) × ((h : Hold) → IsIn h k.readers → h.tid ≡ t → ⊥)
own_none t k h =
    let f = or_false (has_writer t k.writer) (has_reader t k.readers) (cond_none (has_hold t k) answer.Prepared h) in (
      λ w is tid. let one : has_writer t k.writer ≡ true = rw is (rw tid (same_self t)) in not_both one f.0,
      λ x within tid. not_both (subst (λ (u : Tid). has_reader u k.readers ≡ true) tid (in_has x k.readers within)) f.1,
    )

module _ (es : List JEntry) (e : JEntry) (w : World) (old : Holds es w) (asks : Asks (e ∷ es)) (p : ℕ) where
  -- what a command keeps at its own store
  pub record Local (s : StoreState) : Type 0 where
    pub slots : (n : ℕ) → SlotOk (e ∷ es) p n (s.slot n)
    pub held : Held (e ∷ es) p s
    pub ended : (t : Tid) → s.ended t ≡ true → DecidedAtHome w es t
    pub persists : (t : Tid) (o : Outcome) → (w p).decided t ≡ Some o → s.decided t ≡ Some o
    pub commits : (t : Tid) (en : Option Entry) → s.decided t ≡ Some (Commit en) → MayCommit (e ∷ es) t

  commit_more : (t : Tid) → MayCommit es t → MayCommit (e ∷ es) t
  commit_more t (inl x) = inl (x.0, found_more (alone_in t) es e _ x.1)
  commit_more t (inr x) = inr (record {
    plan = x.plan;
    planned = found_more (plan_in t) es e _ x.planned;
    prepared = λ q h. any_more (prepared_at t q) es e (x.prepared q h);
  })

  -- where the entry prepares nothing of the transaction
  held_one : (q : ℕ) (s : StoreState) → Held es q s → (t : Tid) → prepared_at t q e ≡ false → (part : Part) →
      list_any (prepared_at t q) (e ∷ es) ≡ true → part_asked (e ∷ es) t q ≡ Some part → s.ended t ≡ false → (n v : ℕ) →
      read_at part.reads n ≡ Some v → HoldsAt (s.slot n) t (written_at part.writes n)
  held_one q s held t none part on asked alive n v reads =
      let was : list_any (prepared_at t q) es ≡ true =
      elim (any_cases (prepared_at t q) es e on) [ inl a ↦ a | inr b ↦ absurd (not_both b none) ] in
      let a = old.asked_first t q was in
      let same : a.0 ≡ part =
      some_same (part_asked (e ∷ es) t q) a.0 part (found_more (part_in t q) es e _ a.1) asked in
      held t part was (a.1 ∙ ap (λ x. Some x) same) alive n v reads

  held_more : (q : ℕ) (s : StoreState) → ((t : Tid) → prepared_at t q e ≡ false) → Held es q s → Held (e ∷ es) q s
  held_more q s none held t part on asked alive n v reads = held_one q s held t (none t) part on asked alive n v reads

  -- ## Each command

  pub nothing : ((t : Tid) → prepared_at t p e ≡ false) → Local (w p)
  nothing none = record {
    slots = λ n. slot_more es e p n _ (old.slots p n);
    held = held_more p (w p) none (old.held p);
    ended = λ t h. old.ended p t h;
    persists = λ t o h. h;
    commits = λ t en h. commit_more t (old.commits p t en h);
  }

  -- a store that gives its next number keeps all else
  pub only_next : (n : ℕ) → Local (w p) → Local (record (w p) { next = n })
  only_next n l = record {
    slots = l.slots;
    held = l.held;
    ended = l.ended;
    persists = l.persists;
    commits = l.commits;
  }

  -- a transaction that was asked alone has no hold
  pub no_writer : (t : Tid) (x : Alone) → alone_asked (e ∷ es) t ≡ Some x → (q n : ℕ) (h : WriteHold) →
      ((w q).slot n).writer ≡ Some h → h.hold.tid ≡ t → ⊥
  no_writer t x alone q n h is tid =
      let f = (slot_more es e q n ((w q).slot n) (old.slots q n)).writer h is in
      let a = asks.agree h.hold.tid q f.ask f.is in
      asks.apart t (plan_of f.ask) x (subst (λ (u : Tid). plan_asked (e ∷ es) u ≡ Some (plan_of f.ask)) tid a.plan_is) alone

  pub no_reader : (t : Tid) (x : Alone) → alone_asked (e ∷ es) t ≡ Some x → (q n : ℕ) (h : Hold) →
      IsIn h ((w q).slot n).readers → h.tid ≡ t → ⊥
  no_reader t x alone q n h within tid =
      let f = (slot_more es e q n ((w q).slot n) (old.slots q n)).reader h within in
      let a = asks.agree h.tid q f.ask f.is in
      asks.apart t (plan_of f.ask) x (subst (λ (u : Tid). plan_asked (e ∷ es) u ≡ Some (plan_of f.ask)) tid a.plan_is) alone

  persists_decide : (t u : Tid) (o r : Outcome) → (w p).decided t ≡ None → (w p).decided u ≡ Some r → (b : Bool) →
      is_same t u ≡ b → cond b (Some o) ((w p).decided u) ≡ Some r
  persists_decide t u o r none is true same =
      absurd (none_some (subst (λ (x : Tid). (w p).decided x ≡ None) (same_true t u same) none) is)
  persists_decide t u o r none is false same = is

  commits_decide : (t u : Tid) (o : Outcome) (en : Option Entry) → (o ≡ Commit en → MayCommit (e ∷ es) t) → (b : Bool) →
      is_same t u ≡ b → cond b (Some o) ((w p).decided u) ≡ Some (Commit en) → MayCommit (e ∷ es) u
  commits_decide t u o en new true same h = subst (λ (x : Tid). MayCommit (e ∷ es) x) (same_true t u same) (new cc)
  commits_decide t u o en new false same h = commit_more u (old.commits p u en h)

  -- a page that a Write writes is free
  pub write_frees : (x : Transaction) → ReadyWrite (e ∷ es) x → write_refusal (w p) x ≡ None → (n : ℕ) (page : List ℕ) →
      written_at x.writes n ≡ Some page → Free ((w p).slot n)
  write_frees x ready free n page is =
      let v = some_of (read_at x.reads n) (ready.accesses.are_read n (is_some_by (written_at x.writes n) page is)) in
      free_of_others x.tid x.writes n page ((w p).slot n)
      (first_over_none (λ n v. busy_at x.tid x.writes n ((w p).slot n)) x.reads n v.0 (write_free (w p) x free).quiet v.1)
      is (no_writer x.tid ready.alone ready.asked p n) (no_reader x.tid ready.alone ready.asked p n)

  pub write_local : (x : Transaction) → ((t : Tid) → prepared_at t p e ≡ false) → ReadyWrite (e ∷ es) x →
      write_refusal (w p) x ≡ None → Local (after_write None (w p) x)
  write_local x none ready free = record {
    slots = λ n. slot_written (e ∷ es) p n x.tid (written_at x.writes n) ((w p).slot n)
        (slot_more es e p n _ (old.slots p n)) (write_frees x ready free n);
    held = λ u part on asked alive n v reads. held_written x.tid (written_at x.writes n) (written_at part.writes n) u
        ((w p).slot n) (held_more p (w p) none (old.held p) u part on asked alive n v reads);
    ended = λ u h. old.ended p u h;
    persists = λ u o h. persists_decide x.tid u (Commit x.entry) o (write_free (w p) x free).decided h (is_same x.tid u) refl;
    commits = λ u en h. commits_decide x.tid u (Commit x.entry) en (λ _. inl (ready.alone, ready.asked)) (is_same x.tid u)
        refl h;
  }

  pub decide_local : (t : Tid) (o : Outcome) → ((t : Tid) → prepared_at t p e ≡ false) → ReadyDecision es p t o →
      (w p).decided t ≡ None → Local (after_decide None (w p) t o)
  decide_local t o none ready free = record {
    slots = λ n. slot_more es e p n _ (old.slots p n);
    held = held_more p (w p) none (old.held p);
    ended = λ u h. old.ended p u h;
    persists = λ u r h. persists_decide t u o r free h (is_same t u) refl;
    commits = λ u en h. commits_decide t u o en (λ is. by_ready o ready en is) (is_same t u) refl h;
  }
    where
      by_ready : (o : Outcome) → ReadyDecision es p t o → (en : Option Entry) → o ≡ Commit en → MayCommit (e ∷ es) t
      by_ready (Commit x) ready en is =
          commit_more t (inr (record { plan = ready.plan; planned = ready.planned; prepared = ready.prepared }))
      by_ready Abort ready en is = absurd cc

  pub resolve_local : (r : Resolution) → ((t : Tid) → prepared_at t p e ≡ false) → ReadyResolve es r →
      Local (after_resolve (w p) r.tid r.commit)
  resolve_local r none ready = record {
    slots = λ n. slot_resolved (e ∷ es) p n r.tid r.commit ((w p).slot n).writer ((w p).slot n) refl
        (slot_more es e p n _ (old.slots p n));
    held = λ u part on asked alive n v reads.
        let a = or_false (is_same r.tid u) ((w p).ended u) alive in
        held_resolved r.tid u r.commit ((w p).slot n).writer (written_at part.writes n) ((w p).slot n) refl
        (λ same. let s : is_same r.tid u ≡ true = rw same (same_self r.tid) in not_both s a.0)
        (held_more p (w p) none (old.held p) u part on asked a.1 n v reads);
    ended = λ u h. elim (or_true (is_same r.tid u) ((w p).ended u) h) [
      | inl s ↦ subst (λ (x : Tid). DecidedAtHome w es x) (same_true r.tid u s) home_decided
      | inr k ↦ old.ended p u k
    ];
    persists = λ u o h. h;
    commits = λ u en h. commit_more u (old.commits p u en h);
  }
    where
      home_decided : DecidedAtHome w es r.tid
      home_decided =
          let d = old.told ready.pass r.tid ready.plan.home r.commit ready.told in
          record { plan = ready.plan; planned = ready.planned; outcome = d.0; decided = d.1 }

  -- a page that a Prepare is to write is free, and was read
  pub prepare_frees : (part : Part) → part_asked (e ∷ es) part.tid p ≡ Some part → prepare_refusal (w p) part ≡ None →
      (n : ℕ) (page : List ℕ) → written_at part.writes n ≡ Some page →
      Free ((w p).slot n) × ((v : ℕ) × (read_at part.reads n ≡ Some v))
  prepare_frees part ready stop n page is =
      let a = asks.agree part.tid p part ready in
      let st = prepare_free (w p) part stop in
      let v = some_of (read_at part.reads n) (a.accesses.are_read n (is_some_by (written_at part.writes n) page is)) in
      let own = own_none part.tid ((w p).slot n) (first_over_none
      (λ n v. cond (has_hold part.tid ((w p).slot n)) (Some answer.Prepared) None) part.reads n v.0 st.own v.1) in (
        free_of_others part.tid part.writes n page ((w p).slot n)
            (first_over_none (λ n v. busy_at part.tid part.writes n ((w p).slot n)) part.reads n v.0 st.quiet v.1) is own.0 own.1,
        v,
      )

  -- a page that a Prepare reads has no writer's hold
  prepare_quiet : (part : Part) → prepare_refusal (w p) part ≡ None → (n v : ℕ) → read_at part.reads n ≡ Some v →
      ((w p).slot n).writer ≡ None
  prepare_quiet part stop n v is =
      let st = prepare_free (w p) part stop in
      let own = own_none part.tid ((w p).slot n) (first_over_none
      (λ n v. cond (has_hold part.tid ((w p).slot n)) (Some answer.Prepared) None) part.reads n v st.own is) in
      no_writer_of part.tid part.writes n ((w p).slot n)
      (first_over_none (λ n v. busy_at part.tid part.writes n ((w p).slot n)) part.reads n v st.quiet is) own.0

  pub prepare_local : (part : Part) → ((u : Tid) → is_same part.tid u ≡ false → prepared_at u p e ≡ false) →
      prepared_at part.tid p e ≡ true → part_asked (e ∷ es) part.tid p ≡ Some part → prepare_refusal (w p) part ≡ None →
      Local (after_prepare None (w p) part)
  prepare_local part others this ready stop = record {
    slots = λ n. slot_held (e ∷ es) p n part (written_at part.writes n) (read_at part.reads n) ((w p).slot n) ready done refl
        refl (slot_more es e p n _ (old.slots p n))
        (λ v is. conflict_at_none n v ((w p).slot n)
        (first_over_none (λ n v. conflict_at n v ((w p).slot n)) part.reads n v (prepare_free (w p) part stop).same is))
        (prepare_frees part ready stop n) (prepare_quiet part stop n);
    held = λ u other on asked alive n v reads. one u other on asked alive n v reads (is_same part.tid u) refl;
    ended = λ u h. old.ended p u h;
    persists = λ u o h. h;
    commits = λ u en h. commit_more u (old.commits p u en h);
  }
    where
      done : list_any (prepared_at part.tid p) (e ∷ es) ≡ true
      done = rw this refl

      new : (n v : ℕ) → read_at part.reads n ≡ Some v →
          HoldsAt (holding (hold_of part) (written_at part.writes n) (read_at part.reads n) ((w p).slot n)) part.tid
          (written_at part.writes n)
      new n v k = rw k (held_new (hold_of part) (written_at part.writes n) v ((w p).slot n))

      one : (u : Tid) (other : Part) → list_any (prepared_at u p) (e ∷ es) ≡ true → part_asked (e ∷ es) u p ≡ Some other →
          (w p).ended u ≡ false → (n v : ℕ) → read_at other.reads n ≡ Some v → (b : Bool) → is_same part.tid u ≡ b →
          HoldsAt (holding (hold_of part) (written_at part.writes n) (read_at part.reads n) ((w p).slot n)) u
          (written_at other.writes n)
      one u other on asked alive n v reads true same =
          let tid : part.tid ≡ u = same_true part.tid u same in
          let asked' : part_asked (e ∷ es) part.tid p ≡ Some other =
          subst (λ (x : Tid). part_asked (e ∷ es) x p ≡ Some other) (sym tid) asked in
          let is : part ≡ other = some_same (part_asked (e ∷ es) part.tid p) part other ready asked' in
          let mine : read_at part.reads n ≡ Some v = subst (λ (x : Part). read_at x.reads n ≡ Some v) (sym is) reads in
          subst (λ (x : Tid). HoldsAt (holding (hold_of part) (written_at part.writes n) (read_at part.reads n) ((w p).slot n))
          x (written_at other.writes n)) tid
          (subst (λ (x : Part). HoldsAt (holding (hold_of part) (written_at part.writes n) (read_at part.reads n)
          ((w p).slot n)) part.tid (written_at x.writes n)) is (new n v mine))
      one u other on asked alive n v reads false same =
          held_kept (hold_of part) u (written_at part.writes n) (read_at part.reads n) (written_at other.writes n)
          ((w p).slot n) (λ page is. (prepare_frees part ready stop n page is).0)
          (held_one p (w p) (old.held p) u (others u same) other on asked alive n v reads)

  -- a Prepare that changed nothing, and was answered Prepared for holds that stood
  pub again_local : (t : Tid) → ((u : Tid) → is_same t u ≡ false → prepared_at u p e ≡ false) →
      (prepared_at t p e ≡ true → list_any (prepared_at t p) es ≡ true) → Local (w p)
  again_local t others this = record {
    slots = λ n. slot_more es e p n _ (old.slots p n);
    held = λ u part on asked alive n v reads. one u part on asked alive n v reads (is_same t u) refl;
    ended = λ u h. old.ended p u h;
    persists = λ u o h. h;
    commits = λ u en h. commit_more u (old.commits p u en h);
  }
    where
      was : list_any (prepared_at t p) (e ∷ es) ≡ true → list_any (prepared_at t p) es ≡ true
      was on = elim (any_cases (prepared_at t p) es e on) [ inl a ↦ a | inr b ↦ this b ]

      one : (u : Tid) (part : Part) → list_any (prepared_at u p) (e ∷ es) ≡ true → part_asked (e ∷ es) u p ≡ Some part →
          (w p).ended u ≡ false → (n v : ℕ) → read_at part.reads n ≡ Some v → (b : Bool) → is_same t u ≡ b →
          HoldsAt ((w p).slot n) u (written_at part.writes n)
      one u part on asked alive n v reads true same =
          let on' : list_any (prepared_at u p) es ≡ true =
          subst (λ (x : Tid). list_any (prepared_at x p) (e ∷ es) ≡ true → list_any (prepared_at x p) es ≡ true)
          (same_true t u same) was on in
          let a = old.asked_first u p on' in
          let is : a.0 ≡ part =
          some_same (part_asked (e ∷ es) u p) a.0 part (found_more (part_in u p) es e _ a.1) asked in
          old.held p u part on' (a.1 ∙ ap (λ x. Some x) is) alive n v reads
      one u part on asked alive n v reads false same =
          held_one p (w p) (old.held p) u (others u same) part on asked alive n v reads

  -- ## All stores, from the one that changed

  pub all_kept : (s : StoreState) → Local s → ((t : Tid) (q : ℕ) → (p == q) ≡ false → prepared_at t q e ≡ false) →
      ((pass : ℕ) (t : Tid) (h : ℕ) (b : Bool) → is_told_at pass t h b e ≡ true → IsDecided (put w p s) h t b) →
      ((t : Tid) (q : ℕ) → prepared_at t q e ≡ true → (part : Part) × (part_asked (e ∷ es) t q ≡ Some part)) →
      Holds (e ∷ es) (put w p s)
  all_kept s l elsewhere new_told new_asked = record {
    slots = λ q n. put_all (λ q s. (n : ℕ) → SlotOk (e ∷ es) q n (s.slot n)) w p s l.slots
        (λ q ne n. slot_more es e q n _ (old.slots q n)) q n;
    held = put_all (λ q s. Held (e ∷ es) q s) w p s l.held
        (λ q ne. held_more q (w q) (λ t. elsewhere t q ne) (old.held q));
    ended = λ q t h.
        let d = put_all (λ q s. (t : Tid) → s.ended t ≡ true → DecidedAtHome w es t) w p s l.ended
        (λ q ne t h. old.ended q t h) q t h in
        record {
          plan = d.plan;
          planned = found_more (plan_in t) es e _ d.planned;
          outcome = d.outcome;
          decided = persist d.plan.home t d.outcome d.decided;
        };
    told = λ pass t h b on. elim (any_cases (is_told_at pass t h b) es e on) [
      | inl a ↦ (let d = old.told pass t h b a in (d.0, persist h t d.0 d.1, d.2))
      | inr a ↦ new_told pass t h b a
    ];
    commits = λ q t en h. put_all
        (λ q s. (t : Tid) (en : Option Entry) → s.decided t ≡ Some (Commit en) → MayCommit (e ∷ es) t) w p s l.commits
        (λ q ne t en h. commit_more t (old.commits q t en h)) q t en h;
    asked_first = λ t q on. elim (any_cases (prepared_at t q) es e on) [
      | inl a ↦ (let d = old.asked_first t q a in (d.0, found_more (part_in t q) es e _ d.1))
      | inr a ↦ new_asked t q a
    ];
  }
    where
      persist : (q : ℕ) (t : Tid) (o : Outcome) → (w q).decided t ≡ Some o → (put w p s q).decided t ≡ Some o
      persist q t o h = put_all (λ q s. (t : Tid) (o : Outcome) → (w q).decided t ≡ Some o → s.decided t ≡ Some o) w p s
          l.persists (λ q ne t o h. h) q t o h
