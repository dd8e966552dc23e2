-- What was asked for a transaction in a lawful journal: at one store, with one entry, and by its own pass.
use Rattle.std.proofs.Common.{◌≡◌, ℕ, ◌==◌, Bool, true, false, cond, List, [], ◌∷◌, Option, Some, None, refl, ap, sym, ◌∙◌}
use Rattle.std.proofs.Common.{subst, ◌⊎◌, inl, inr}
use Rattle.pair_types.specs.declared.slot.Tid.{Tid}
use Rattle.pair_types.specs.PageMaps.{PageMap}
use Rattle.nfs3_types.specs.declared.entry.Entry.{Entry}
use Rattle.page_types.specs.declared.outcome.Outcome.{Outcome}
use Rattle.page_types.specs.declared.outcome.Outcome.TheVariants.{Commit, Abort}
use Rattle.page_types.specs.declared.command.Transaction.{Transaction}
use Rattle.page_types.specs.declared.command.Command.{Command}
use Rattle.page_types.specs.declared.command.Command.TheVariants.{Fresh, Read, Look, Write, Prepare, Decide, Resolve}
use Rattle.page_types.specs.declared.journal.JEntry.{JEntry}
use Rattle.page_types.specs.declared.journal.JEntry.TheVariants.{Took, Doubted, Late}
use Rattle.page_types.specs.Accesses.{is_same}
use Rattle.page_types.specs.Journals.{Origin}
use Rattle.page_types.specs.Asked.{first_of, found_in, Plan, Alone, plan_in, alone_in, commit_in, entry_of, plan_asked}
use Rattle.page_types.specs.Asked.{alone_asked, commit_asked}
use Rattle.page_types.specs.Fair.{IsOwnEntry}
use Rattle.serial_rules.specs.Worlds.{pending}
use Rattle.serial_rules.specs.Lawful.{IsAllowed, IsLawful}
use Rattle.serial_core.proofs.Basics.{cond_some, eq_true, same_true, same_self, some_same, found_more}
use Rattle.serial_core.proofs.Asks.{IsAsk, Asks, again_first}
use Rattle.call_accounts.proofs.Fates.{asks_of}

-- ## Where and with which entry

-- at this store alone
pub record IsAlone (es : List JEntry) (t : Tid) (p : ℕ) (en : Option Entry) : Type 0 where
  pub alone : Alone
  pub asked : alone_asked es t ≡ Some alone
  pub store : alone.store ≡ p
  pub entry : alone.transaction.entry ≡ en

-- as one of several stores, with this home
pub record IsPlanned (es : List JEntry) (t : Tid) (p : ℕ) (en : Option Entry) : Type 0 where
  pub plan : Plan
  pub planned : plan_asked es t ≡ Some plan
  pub home : plan.home ≡ p
  pub commit : commit_asked es t ≡ Some en

abbrev pub IsAsked : List JEntry → Tid → ℕ → Option Entry → Type 0
IsAsked es t p en = IsAlone es t p en ⊎ IsPlanned es t p en

pub asked_more : (es : List JEntry) (e : JEntry) (t : Tid) (p : ℕ) (en : Option Entry) → IsAsked es t p en →
    IsAsked (e ∷ es) t p en
asked_more es e t p en (inl x) = inl (record {
  alone = x.alone;
  asked = found_more (alone_in t) es e x.alone x.asked;
  store = x.store;
  entry = x.entry;
})
asked_more es e t p en (inr x) = inr (record {
  plan = x.plan;
  planned = found_more (plan_in t) es e x.plan x.planned;
  home = x.home;
  commit = found_more (commit_in t) es e en x.commit;
})

pub asked_same : (es : List JEntry) → Asks es → (t : Tid) (p q : ℕ) (en em : Option Entry) → IsAsked es t p en →
    IsAsked es t q em → (p ≡ q) × (en ≡ em)
asked_same es ak t p q en em (inl x) (inl y) =
    let same = some_same (alone_asked es t) x.alone y.alone x.asked y.asked in (
      sym x.store ∙ (ap (λ (z : Alone). z.store) same ∙ y.store),
      sym x.entry ∙ (ap (λ (z : Alone). z.transaction.entry) same ∙ y.entry),
    )
asked_same es ak t p q en em (inl x) (inr y) = absurd (ak.apart t y.plan x.alone y.planned x.asked)
asked_same es ak t p q en em (inr x) (inl y) = absurd (ak.apart t x.plan y.alone x.planned y.asked)
asked_same es ak t p q en em (inr x) (inr y) =
    let same = some_same (plan_asked es t) x.plan y.plan x.planned y.planned in
    (sym x.home ∙ (ap (λ (z : Plan). z.home) same ∙ y.home), some_same (commit_asked es t) en em x.commit y.commit)

-- ## What may be asked

-- a command asks so for the transaction: it is its own pass that asks, and the entry is its own
pub record AsksNow (es : List JEntry) (e : JEntry) (pass p : ℕ) (t : Tid) (en : Option Entry) : Type 0 where
  pub asked : IsAsked (e ∷ es) t p en
  pub entry : IsOwnEntry t en
  pub own : t.pass ≡ pass

-- the same of what is pending
pub record Awaits (es : List JEntry) (p : ℕ) (t : Tid) (en : Option Entry) : Type 0 where
  pub asked : IsAsked es t p en
  pub entry : IsOwnEntry t en

awaits_more : (es : List JEntry) (e : JEntry) (p : ℕ) (t : Tid) (en : Option Entry) → Awaits es p t en → Awaits (e ∷ es) p t en
awaits_more es e p t en a = record { asked = asked_more es e t p en a.asked; entry = a.entry }

module _ {S : Type 0} (stands : PageMap → S → Type 0) (next : S → List ℕ → Entry → S → Type 0) (o : Origin) where
  ask_write : (es : List JEntry) (e : JEntry) (pass p : ℕ) (x : Transaction) → IsAsk e p (Write x) →
      IsAllowed stands next o es pass p (Write x) → AsksNow es e pass p x.tid x.entry
  ask_write es e pass p x in_is f = record {
    asked = inl (record {
      alone = record { store = p; transaction = x };
      asked =
          let is : found_in (alone_in x.tid) e ≡ Some (record { store = p; transaction = x }) =
          in_is Alone (alone_in x.tid) ∙ (rw (same_self x.tid) refl) in
          rw is (again_first (alone_asked es x.tid) (record { store = p; transaction = x }) f.again);
      store = refl;
      entry = refl;
    });
    entry = f.entry;
    own = f.of_pass.own;
  }

  ask_commit : (es : List JEntry) (e : JEntry) (pass p : ℕ) (t : Tid) (en : Option Entry) →
      IsAsk e p (Decide (record { tid = t; outcome = Commit en })) →
      IsAllowed stands next o es pass p (Decide (record { tid = t; outcome = Commit en })) → AsksNow es e pass p t en
  ask_commit es e pass p t en in_is f = record {
    asked = inr (record {
      plan = f.plan;
      planned = found_more (plan_in t) es e f.plan f.planned;
      home = f.home;
      commit =
          let is : found_in (commit_in t) e ≡ Some en = in_is (Option Entry) (commit_in t) ∙ (rw (same_self t) refl) in
          rw is (again_first (commit_asked es t) en f.again);
    });
    entry = f.entry;
    own = f.of_pass.own;
  }

  pub ask : (es : List JEntry) (e : JEntry) (pass p : ℕ) (c : Command) → IsAsk e p c →
      IsAllowed stands next o es pass p c → (t : Tid) (en : Option Entry) → asks_of t c ≡ Some en → AsksNow es e pass p t en
  ask es e pass p Fresh in_is f t en h = absurd cc
  ask es e pass p (Read n) in_is f t en h = absurd cc
  ask es e pass p (Look ns) in_is f t en h = absurd cc
  ask es e pass p (Prepare part) in_is f t en h = absurd cc
  ask es e pass p (Resolve r) in_is f t en h = absurd cc
  ask es e pass p (Write x) in_is f t en h =
      let b = cond_some (is_same x.tid t) x.entry en h in
      subst (λ (u : Tid). AsksNow es e pass p u en) (same_true x.tid t b.0)
      (subst (λ (em : Option Entry). AsksNow es e pass p x.tid em) b.1 (ask_write es e pass p x in_is f))
  ask es e pass p (Decide d) in_is f t en h = by d.outcome in_is f h
    where
      by : (out : Outcome) → IsAsk e p (Decide (record { tid = d.tid; outcome = out })) →
          IsAllowed stands next o es pass p (Decide (record { tid = d.tid; outcome = out })) →
          cond (is_same d.tid t) (entry_of out) None ≡ Some en → AsksNow es e pass p t en
      by (Commit em) in_is f h =
          let b = cond_some (is_same d.tid t) em en h in
          subst (λ (u : Tid). AsksNow es e pass p u en) (same_true d.tid t b.0)
          (subst (λ (en : Option Entry). AsksNow es e pass p d.tid en) b.1 (ask_commit es e pass p d.tid em in_is f))
      by Abort in_is f h = absurd (none (is_same d.tid t) h)
        where
          none : (b : Bool) → cond {A = Option (Option Entry)} b None None ≡ Some en → ⊥
          none true h = cc
          none false h = cc

  pub awaits : (es : List JEntry) → IsLawful stands next o es → (p : ℕ) (c : Command) → pending es p ≡ Some c →
      (t : Tid) (en : Option Entry) → asks_of t c ≡ Some en → Awaits es p t en
  awaits [] law p c h t en k = absurd cc
  awaits (Took pass q d a ∷ es) law p c h t en k =
      awaits_more es (Took pass q d a) p t en (awaits es law.0 p c h t en k)
  awaits (Doubted pass q d ∷ es) law p c h t en k =
      at (q == p) refl (pending es p) refl h (λ h'. awaits es law.0 p c h' t en k)
    where
      at : (b : Bool) → (q == p) ≡ b → (y : Option Command) → pending es p ≡ y → cond b (first_of y (Some d)) y ≡ Some c →
          (pending es p ≡ Some c → Awaits es p t en) → Awaits (Doubted pass q d ∷ es) p t en
      at true is None on h old =
          let same : d ≡ c = cc in
          let now = ask es (Doubted pass q d) pass q d (λ A f. refl) law.1 t en
          (subst (λ (x : Command). asks_of t x ≡ Some en) (sym same) k) in
          subst (λ p. Awaits (Doubted pass q d ∷ es) p t en) (eq_true q p is)
          (record { asked = now.asked; entry = now.entry })
      at true is (Some y) on h old = awaits_more es (Doubted pass q d) p t en (old (on ∙ h))
      at false is y on h old = awaits_more es (Doubted pass q d) p t en (old (on ∙ h))
  awaits (Late q d a ∷ es) law p c h t en k = at (q == p) h (λ h'. awaits es law.0 p c h' t en k)
    where
      at : (b : Bool) → cond b None (pending es p) ≡ Some c → (pending es p ≡ Some c → Awaits es p t en) →
          Awaits (Late q d a ∷ es) p t en
      at true h old = absurd cc
      at false h old = awaits_more es (Late q d a) p t en (old h)
