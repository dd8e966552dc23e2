-- What each command does to the committed pages.
use Rattle.std.proofs.Common.{◌≡◌, ℕ, ◌+◌, ◌==◌, Bool, true, false, cond, List, ◌∷◌, Option, Some, None, refl, ap}
use Rattle.std.proofs.Common.{sym, ◌∙◌, subst, inl, inr}
use mathlib.Core.Path.{fun_ext}
use Rattle.std.specs.List.{Contains}
use Rattle.pair_types.specs.declared.slot.Slot.{Slot}
use Rattle.pair_types.specs.declared.slot.Tid.{Tid}
use Rattle.pair_types.specs.PageMaps.{PageMap}
use Rattle.page_types.specs.declared.hold.Hold.{Hold}
use Rattle.page_types.specs.declared.hold.WriteHold.{WriteHold}
use Rattle.page_types.specs.declared.outcome.Outcome.{Outcome}
use Rattle.page_types.specs.declared.outcome.Outcome.TheVariants.{Commit, Abort}
use Rattle.page_types.specs.declared.command.Transaction.{Transaction}
use Rattle.page_types.specs.declared.command.Part.{Part}
use Rattle.page_types.specs.declared.command.Resolution.{Resolution}
use Rattle.page_types.specs.declared.journal.JEntry.{JEntry}
use Rattle.page_types.specs.Accesses.{is_same, read_at, written_at}
use Rattle.page_types.specs.Asked.{Plan, plan_of, part_in, plan_in, alone_in, part_asked, plan_asked}
use Rattle.page_types.specs.Fair.{writes_alone}
use Rattle.page_types.specs.Stores.{Kept, StoreState}
use Rattle.page_types.specs.Obeys.{hold_of, holding, without, releasing, resolving, written, deciding}
use Rattle.page_types.specs.Obeys.{write_refusal, prepare_refusal, after_write, after_prepare, after_decide, after_resolve}
use Rattle.serial_rules.specs.Worlds.{World, put}
use Rattle.serial_rules.specs.Committed.{Committed, commits, to_come, standing, committed, rewritten, with_writes}
use Rattle.serial_core.proofs.Basics.{some_of, is_some_by, some_same, eq_true, eq_self, same_true, found_more}
use Rattle.serial_core.proofs.Basics.{not_both, none_some}
use Rattle.serial_core.proofs.Refusals.{prepare_free}
use Rattle.serial_core.proofs.Asks.{Agree, Asks}
use Rattle.serial_core.proofs.Slots.{HoldsAt, slot_more}
use Rattle.serial_core.proofs.Holds.{Holds, AllPrepared, ReadyWrite, ReadyResolve, put_all, no_writer}
use Rattle.serial_core.proofs.Holds.{write_frees, prepare_frees}

abbrev pub slot_at : ℕ → ℕ → Slot
slot_at q n = record { store = q; number = n }

-- what is committed of a page as it is kept
abbrev pub seen_in : World → Kept → Committed
seen_in w k = standing (to_come w k.writer) k

-- holds of readers are not seen
standing_same : (o : Option (List ℕ)) (k l : Kept) → k.version ≡ l.version → k.content ≡ l.content →
    standing o k ≡ standing o l
standing_same None k l version content = λ i. record { version = version i; content = content i }
standing_same (Some page) k l version content = ap (λ (v : ℕ). record { version = v + 1; content = page }) version

pub put_same : (w : World) (p : ℕ) → put w p (w p) ≡ w
put_same w p = fun_ext (λ q. at q (p == q) refl)
  where
    at : (q : ℕ) (b : Bool) → (p == q) ≡ b → cond b (w p) (w q) ≡ w q
    at q true is = ap w (eq_true p q is)
    at q false is = refl

same_to_come : (w v : World) → ((q : ℕ) (t : Tid) → (v q).decided t ≡ (w q).decided t) → (o : Option WriteHold) →
    to_come v o ≡ to_come w o
same_to_come w v h None = refl
same_to_come w v h (Some g) = rw (h g.hold.home g.hold.tid) refl

-- a fact of each page, from those of the store that changed and of the others
pub page_all : (w : World) (p : ℕ) (s : StoreState) (W : PageMap) →
    ((n : ℕ) → seen_in (put w p s) (s.slot n) ≡ rewritten (W (slot_at p n)) (seen_in w ((w p).slot n))) →
    ((q n : ℕ) → (p == q) ≡ false →
    seen_in (put w p s) ((w q).slot n) ≡ rewritten (W (slot_at q n)) (seen_in w ((w q).slot n))) →
    committed (put w p s) ≡ with_writes W (committed w)
page_all w p s W here others = fun_ext (λ x. at x.store x.number (p == x.store) refl)
  where
    at : (q n : ℕ) (b : Bool) → (p == q) ≡ b →
        seen_in (put w p s) ((cond b s (w q)).slot n) ≡ rewritten (W (slot_at q n)) (seen_in w ((w q).slot n))
    at q n true is =
        subst (λ q. seen_in (put w p s) (s.slot n) ≡ rewritten (W (slot_at q n)) (seen_in w ((w q).slot n))) (eq_true p q is)
        (here n)
    at q n false is = others q n is

same_all : (w : World) (p : ℕ) (s : StoreState) → ((q : ℕ) (t : Tid) → (put w p s q).decided t ≡ (w q).decided t) →
    ((n : ℕ) → seen_in w (s.slot n) ≡ seen_in w ((w p).slot n)) → committed (put w p s) ≡ committed w
same_all w p s same here = page_all w p s (λ x. None)
    (λ n. ap (λ o. standing o (s.slot n)) (same_to_come w (put w p s) same (s.slot n).writer) ∙ here n)
    (λ q n ne. ap (λ o. standing o ((w q).slot n)) (same_to_come w (put w p s) same ((w q).slot n).writer))

-- a store that only gives its next number
pub pages_next : (w : World) (p n : ℕ) → committed (put w p (record (w p) { next = n })) ≡ committed w
pages_next w p n = same_all w p (record (w p) { next = n })
    (λ q u. put_all (λ q s. s.decided u ≡ (w q).decided u) w p (record (w p) { next = n }) refl (λ q ne. refl) q) (λ m. refl)

module _ (es : List JEntry) (e : JEntry) (w : World) (old : Holds es w) (asks : Asks (e ∷ es)) (p : ℕ) where
  -- a decision of another transaction
  pub decided_other : (t : Tid) (s : StoreState) (o : Outcome) → s.decided ≡ deciding (w p).decided t o → (h : Hold) →
      (h.home ≡ p → h.tid ≡ t → ⊥) → (put w p s h.home).decided h.tid ≡ (w h.home).decided h.tid
  decided_other t s o is h ne = at (p == h.home) refl (is_same t h.tid) refl
    where
      at : (b : Bool) → (p == h.home) ≡ b → (d : Bool) → is_same t h.tid ≡ d →
          (cond b s (w h.home)).decided h.tid ≡ (w h.home).decided h.tid
      at true same true tid = absurd (ne (sym (eq_true p h.home same)) (sym (same_true t h.tid tid)))
      at true same false tid =
          ap (λ f. f h.tid) is ∙ (rw tid (ap (λ q. (w q).decided h.tid) (eq_true p h.home same)))
      at false same d tid = refl

  other_to_come : (t : Tid) (s : StoreState) (o : Outcome) → s.decided ≡ deciding (w p).decided t o →
      (x : Option WriteHold) → ((h : WriteHold) → x ≡ Some h → h.hold.home ≡ p → h.hold.tid ≡ t → ⊥) →
      to_come (put w p s) x ≡ to_come w x
  other_to_come t s o is None ne = refl
  other_to_come t s o is (Some h) ne = rw (decided_other t s o is h.hold (ne h refl)) refl

  pub pages_write : (x : Transaction) → ReadyWrite (e ∷ es) x → write_refusal (w p) x ≡ None →
      committed (put w p (after_write None (w p) x)) ≡
      with_writes (writes_alone (record { store = p; transaction = x })) (committed w)
  pages_write x ready none = page_all w p (after_write None (w p) x) (writes_alone (record { store = p; transaction = x }))
      (λ n. rw (eq_self p) (swap n (written_at x.writes n) refl))
      (λ q n ne. other q n (q == p) refl ne)
    where
      same : (q n : ℕ) → to_come (put w p (after_write None (w p) x)) ((w q).slot n).writer ≡ to_come w ((w q).slot n).writer
      same q n = other_to_come x.tid (after_write None (w p) x) (Commit x.entry) refl ((w q).slot n).writer
          (λ h is home tid. no_writer es e w old asks p x.tid ready.alone ready.asked q n h is tid)

      swap : (n : ℕ) (o : Option (List ℕ)) → written_at x.writes n ≡ o →
          seen_in (put w p (after_write None (w p) x)) (written x.tid o ((w p).slot n)) ≡ rewritten o (seen_in w ((w p).slot n))
      swap n None is = ap (λ o. standing o ((w p).slot n)) (same p n)
      swap n (Some page) is =
          let f = write_frees es e w old asks p x ready none n page is in rw f.writer refl

      other : (q n : ℕ) (b : Bool) → (q == p) ≡ b → (p == q) ≡ false →
          seen_in (put w p (after_write None (w p) x)) ((w q).slot n) ≡
          rewritten (cond b (written_at x.writes n) None) (seen_in w ((w q).slot n))
      other q n true is ne =
          absurd (not_both (subst (λ r. (p == r) ≡ true) (sym (eq_true q p is)) (eq_self p)) ne)
      other q n false is ne = ap (λ o. standing o ((w q).slot n)) (same q n)

  -- a Prepare that takes holds is of a transaction that is not committed
  not_committed : (part : Part) (n : ℕ) (page : List ℕ) → part_asked (e ∷ es) part.tid p ≡ Some part →
      prepare_refusal (w p) part ≡ None → written_at part.writes n ≡ Some page → ((w p).slot n).writer ≡ None →
      (o : Option Outcome) → (w part.home).decided part.tid ≡ o → commits o ≡ false
  not_committed part n page ready stop sk free None is = refl
  not_committed part n page ready stop sk free (Some Abort) is = refl
  not_committed part n page ready stop sk free (Some (Commit en)) is =
      absurd (elim (old.commits part.home part.tid en is) [
        | inl x ↦ asks.apart part.tid (plan_of part) x.0 a.plan_is (found_more (alone_in part.tid) es e _ x.1)
        | inr x ↦ at x
      ])
    where
      a : Agree (e ∷ es) part.tid p part
      a = asks.agree part.tid p part ready

      at : AllPrepared es part.tid → ⊥
      at x =
          let same : plan_of part ≡ x.plan = some_same (plan_asked (e ∷ es) part.tid) (plan_of part) x.plan a.plan_is
          (found_more (plan_in part.tid) es e _ x.planned) in
          let done = x.prepared p (subst (λ (y : Plan). Contains y.parts p) same a.here) in
          let r = old.asked_first part.tid p done in
          let r_is : r.0 ≡ part = some_same (part_asked (e ∷ es) part.tid p) r.0 part
          (found_more (part_in part.tid p) es e _ r.1) ready in
          let v = some_of (read_at part.reads n) (a.accesses.are_read n (is_some_by (written_at part.writes n) page sk)) in
          let h = old.held p part.tid part done (r.1 ∙ ap (λ x. Some x) r_is) (prepare_free (w p) part stop).ended n v.0 v.1 in
          let h' : HoldsAt ((w p).slot n) part.tid (Some page) =
          subst (λ o. HoldsAt ((w p).slot n) part.tid o) sk h in
          none_some {x = h'.0} free h'.1

  pub pages_prepare : (part : Part) → part_asked (e ∷ es) part.tid p ≡ Some part → prepare_refusal (w p) part ≡ None →
      committed (put w p (after_prepare None (w p) part)) ≡ committed w
  pages_prepare part ready stop = same_all w p (after_prepare None (w p) part)
      (λ q u. put_all (λ q s. s.decided u ≡ (w q).decided u) w p (after_prepare None (w p) part) refl (λ q ne. refl) q)
      (λ n. at n (written_at part.writes n) refl (read_at part.reads n))
    where
      at : (n : ℕ) (o : Option (List ℕ)) → written_at part.writes n ≡ o → (r : Option ℕ) →
          seen_in w (holding (hold_of part) o r ((w p).slot n)) ≡ seen_in w ((w p).slot n)
      at n (Some page) is r =
          let free = (prepare_frees es e w old asks p part ready stop n page is).0 in
          let no : commits ((w part.home).decided part.tid) ≡ false =
          not_committed part n page ready stop is free.writer ((w part.home).decided part.tid) refl in
          rw (no, free.writer) refl
      at n None is (Some v) = standing_same (to_come w ((w p).slot n).writer)
          (holding (hold_of part) None (Some v) ((w p).slot n)) ((w p).slot n) refl refl
      at n None is None = refl

  pub pages_abort : (t : Tid) → (w p).decided t ≡ None → committed (put w p (after_decide None (w p) t Abort)) ≡ committed w
  pages_abort t none = page_all w p (after_decide None (w p) t Abort) (λ x. None)
      (λ n. ap (λ o. standing o ((w p).slot n)) (same ((w p).slot n).writer))
      (λ q n ne. ap (λ o. standing o ((w q).slot n)) (same ((w q).slot n).writer))
    where
      commit_at : (q : ℕ) (u : Tid) (b : Bool) → (p == q) ≡ b → (d : Bool) → is_same t u ≡ d →
          commits ((cond b (after_decide None (w p) t Abort) (w q)).decided u) ≡ commits ((w q).decided u)
      commit_at q u true is true tid =
          let q_none : (w q).decided u ≡ None = subst (λ q. (w q).decided u ≡ None) (eq_true p q is)
          (subst (λ (x : Tid). (w p).decided x ≡ None) (same_true t u tid) none) in
          rw (tid, q_none) refl
      commit_at q u true is false tid = rw tid (ap (λ q. commits ((w q).decided u)) (eq_true p q is))
      commit_at q u false is d tid = refl

      same : (x : Option WriteHold) → to_come (put w p (after_decide None (w p) t Abort)) x ≡ to_come w x
      same None = refl
      same (Some h) =
          rw (commit_at h.hold.home h.hold.tid (p == h.hold.home) refl (is_same t h.hold.tid) refl) refl

  pub pages_resolve : (r : Resolution) → ReadyResolve es r →
      committed (put w p (after_resolve (w p) r.tid r.commit)) ≡ committed w
  pages_resolve r ready = same_all w p (after_resolve (w p) r.tid r.commit)
      (λ q u. put_all (λ q s. s.decided u ≡ (w q).decided u) w p (after_resolve (w p) r.tid r.commit) refl (λ q ne. refl) q)
      (λ n. at n ((w p).slot n).writer refl)
    where
      commit_is : (n : ℕ) (h : WriteHold) → ((w p).slot n).writer ≡ Some h → is_same h.hold.tid r.tid ≡ true →
          commits ((w h.hold.home).decided h.hold.tid) ≡ r.commit
      commit_is n h is tid =
          let f = (slot_more es e p n ((w p).slot n) (old.slots p n)).writer h is in
          let a = asks.agree h.hold.tid p f.ask f.is in
          let t_is : h.hold.tid ≡ r.tid = same_true h.hold.tid r.tid tid in
          let a_plan : plan_asked (e ∷ es) r.tid ≡ Some (plan_of f.ask) =
          subst (λ (x : Tid). plan_asked (e ∷ es) x ≡ Some (plan_of f.ask)) t_is a.plan_is in
          let same : plan_of f.ask ≡ ready.plan = some_same (plan_asked (e ∷ es) r.tid) (plan_of f.ask) ready.plan a_plan
          (found_more (plan_in r.tid) es e _ ready.planned) in
          let home_is : f.ask.home ≡ ready.plan.home = ap (λ (x : Plan). x.home) same in
          let d = old.told ready.pass r.tid ready.plan.home r.commit ready.told in
          let same_home : h.hold.home ≡ ready.plan.home = ap (λ (x : Hold). x.home) (sym f.hold_is) ∙ home_is in
          subst (λ x. commits ((w x).decided h.hold.tid) ≡ r.commit) (sym same_home)
          (subst (λ (x : Tid). commits ((w ready.plan.home).decided x) ≡ r.commit) (sym t_is) (rw d.1 d.2))

      at : (n : ℕ) (o : Option WriteHold) → ((w p).slot n).writer ≡ o →
          seen_in w (resolving r.tid r.commit o ((w p).slot n)) ≡ standing (to_come w o) ((w p).slot n)
      at n None is = rw is refl
      at n (Some h) is = one (is_same h.hold.tid r.tid) refl
        where
          by : (b : Bool) → seen_in w (releasing r.tid b h.content ((w p).slot n)) ≡
              standing (cond b (Some h.content) None) ((w p).slot n)
          by true = refl
          by false = refl

          one : (d : Bool) → is_same h.hold.tid r.tid ≡ d →
              seen_in w (cond d (releasing r.tid r.commit h.content ((w p).slot n))
              (record ((w p).slot n) { readers = without r.tid ((w p).slot n).readers })) ≡
              standing (to_come w (Some h)) ((w p).slot n)
          one false tid =
              let left : Kept = record ((w p).slot n) { readers = without r.tid ((w p).slot n).readers } in
              ap (λ o. standing (to_come w o) left) is ∙
              standing_same (to_come w (Some h)) left ((w p).slot n) refl refl
          one true tid = rw (commit_is n h is tid) (by r.commit)
