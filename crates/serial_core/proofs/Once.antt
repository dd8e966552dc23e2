-- A transaction takes effect at most once: where it does is settled by what was asked for it, and it is decided there then.
use Rattle.std.proofs.Common.{◌≡◌, ℕ, ◌==◌, Bool, true, false, cond, ◌&&◌, List, [], ◌∷◌, ◌++◌, Option, Some, None, refl, ap}
use Rattle.std.proofs.Common.{sym, ◌∙◌, subst, IsSome, ◌⊎◌, inl, inr}
use Rattle.std.specs.Prelude.{is_none}
use Rattle.pair_types.specs.declared.slot.Tid.{Tid}
use Rattle.pair_types.specs.PageMaps.{PageMap}
use Rattle.nfs3_types.specs.declared.entry.Entry.{Entry}
use Rattle.page_types.specs.declared.outcome.Outcome.{Outcome}
use Rattle.page_types.specs.declared.outcome.Outcome.TheVariants.{Commit, Abort}
use Rattle.page_types.specs.declared.command.Transaction.{Transaction}
use Rattle.page_types.specs.declared.command.Decision.{Decision}
use Rattle.page_types.specs.declared.command.Command.{Command}
use Rattle.page_types.specs.declared.command.Command.TheVariants.{Fresh, Read, Look, Write, Prepare, Decide, Resolve}
use Rattle.page_types.specs.declared.answer.Answer.{Answer}
use Rattle.page_types.specs.declared.journal.JEntry.{JEntry}
use Rattle.page_types.specs.declared.journal.JEntry.TheVariants.{Took, Doubted, Late}
use Rattle.page_types.specs.Accesses.{is_same}
use Rattle.page_types.specs.Journals.{Origin}
use Rattle.page_types.specs.Asked.{first_of, found_in, Plan, Alone, plan_in, alone_in, plan_asked, alone_asked}
use Rattle.page_types.specs.Stores.{StoreState}
use Rattle.page_types.specs.Obeys.{write_refusal, prepare_refusal, answer_of, after, after_write, after_prepare, after_decide}
use Rattle.serial_rules.specs.Worlds.{World, put, applied, replay, pending}
use Rattle.serial_rules.specs.Lawful.{IsAllowed, IsLawful}
use Rattle.serial_rules.specs.History.{Effect, is_wrote, decision_effect, settled_effect}
use Rattle.serial_rules.specs.Once.{tid_of, TakesEffect, EachOnce}
use Rattle.serial_core.proofs.Basics.{and_true, eq_true, eq_self, same_true, same_self, some_same, found_more}
use Rattle.serial_core.proofs.Basics.{none_some, not_both}
use Rattle.serial_core.proofs.Refusals.{write_free, write_cause}
use Rattle.serial_core.proofs.Asks.{IsAsk, Asks, asks, again_first}
use Rattle.serial_core.proofs.Holds.{ReadyDecision, put_all}
use Rattle.serial_core.proofs.Commands.{alone_at, no_effect}
use Rattle.serial_core.proofs.Law.{law_all, fair_ready}
use Rattle.serial_core.proofs.Serves.{lawful_before}

-- ## Decisions stay

decided_write : (r : Option Answer) (s : StoreState) (x : Transaction) → write_refusal s x ≡ r → (t : Tid) (out : Outcome) →
    s.decided t ≡ Some out → (after_write r s x).decided t ≡ Some out
decided_write (Some a) s x is t out h = h
decided_write None s x is t out h = at (is_same x.tid t) refl
  where
    at : (b : Bool) → is_same x.tid t ≡ b → cond b (Some (Commit x.entry)) (s.decided t) ≡ Some out
    at true same = absurd (none_some
        (subst (λ (u : Tid). s.decided u ≡ None) (same_true x.tid t same) (write_free s x is).decided) h)
    at false same = h

decided_decide : (r : Option Outcome) (s : StoreState) (u : Tid) (o : Outcome) → s.decided u ≡ r → (t : Tid) (out : Outcome) →
    s.decided t ≡ Some out → (after_decide r s u o).decided t ≡ Some out
decided_decide (Some a) s u o is t out h = h
decided_decide None s u o is t out h = at (is_same u t) refl
  where
    at : (b : Bool) → is_same u t ≡ b → cond b (Some o) (s.decided t) ≡ Some out
    at true same = absurd (none_some (subst (λ (v : Tid). s.decided v ≡ None) (same_true u t same) is) h)
    at false same = h

decided_after : (s : StoreState) (c : Command) (t : Tid) (out : Outcome) → s.decided t ≡ Some out →
    (after s c).decided t ≡ Some out
decided_after s Fresh t out h = h
decided_after s (Read n) t out h = h
decided_after s (Look ns) t out h = h
decided_after s (Write x) t out h = decided_write (write_refusal s x) s x refl t out h
decided_after s (Prepare part) t out h = at (prepare_refusal s part)
  where
    at : (r : Option Answer) → (after_prepare r s part).decided t ≡ Some out
    at (Some a) = h
    at None = h
decided_after s (Decide d) t out h = decided_decide (s.decided d.tid) s d.tid d.outcome refl t out h
decided_after s (Resolve r) t out h = h

decided_put : (w : World) (q : ℕ) (c : Command) (p : ℕ) (t : Tid) (out : Outcome) → (w p).decided t ≡ Some out →
    (put w q (after (w q) c) p).decided t ≡ Some out
decided_put w q c p t out h = put_all (λ p s. (w p).decided t ≡ Some out → s.decided t ≡ Some out) w q (after (w q) c)
    (λ h. decided_after (w q) c t out h) (λ p ne h. h) p h

decided_applied : (w : World) (e : JEntry) (p : ℕ) (t : Tid) (out : Outcome) → (w p).decided t ≡ Some out →
    (applied w e p).decided t ≡ Some out
decided_applied w (Took pass q c a) p t out h = decided_put w q c p t out h
decided_applied w (Doubted pass q c) p t out h = h
decided_applied w (Late q c a) p t out h = decided_put w q c p t out h

decided_later : (o : Origin) (later es : List JEntry) (p : ℕ) (t : Tid) (out : Outcome) →
    (replay o es p).decided t ≡ Some out → (replay o (later ++ es) p).decided t ≡ Some out
decided_later o [] es p t out h = h
decided_later o (e ∷ later) es p t out h =
    decided_applied (replay o (later ++ es)) e p t out (decided_later o later es p t out h)

-- ## Where a transaction takes effect

-- what was asked for it says that it is this store
abbrev pub IsPlaced : List JEntry → Tid → ℕ → Type 0
IsPlaced es t p = ((x : Alone) × (alone_asked es t ≡ Some x) × (x.store ≡ p)) ⊎
    ((plan : Plan) × (plan_asked es t ≡ Some plan) × (plan.home ≡ p))

placed_more : (es : List JEntry) (e : JEntry) (t : Tid) (p : ℕ) → IsPlaced es t p → IsPlaced (e ∷ es) t p
placed_more es e t p (inl x) = inl (x.0, found_more (alone_in t) es e x.0 x.1, x.2)
placed_more es e t p (inr x) = inr (x.0, found_more (plan_in t) es e x.0 x.1, x.2)

placed_later : (later es : List JEntry) (t : Tid) (p : ℕ) → IsPlaced es t p → IsPlaced (later ++ es) t p
placed_later [] es t p h = h
placed_later (e ∷ later) es t p h = placed_more (later ++ es) e t p (placed_later later es t p h)

one_place : (es : List JEntry) → Asks es → (t : Tid) (p q : ℕ) → IsPlaced es t p → IsPlaced es t q → p ≡ q
one_place es ak t p q (inl x) (inl y) =
    sym x.2 ∙ (ap (λ (z : Alone). z.store) (some_same (alone_asked es t) x.0 y.0 x.1 y.1) ∙ y.2)
one_place es ak t p q (inl x) (inr y) = absurd (ak.apart t y.0 x.0 y.1 x.1)
one_place es ak t p q (inr x) (inl y) = absurd (ak.apart t x.0 y.0 x.1 y.1)
one_place es ak t p q (inr x) (inr y) =
    sym x.2 ∙ (ap (λ (z : Plan). z.home) (some_same (plan_asked es t) x.0 y.0 x.1 y.1) ∙ y.2)

-- a store that was not decided, and is then
pub record Decides (o : Origin) (es : List JEntry) (e : JEntry) (t : Tid) : Type 0 where
  pub place : ℕ
  pub placed : IsPlaced (e ∷ es) t place
  pub before : (replay o es place).decided t ≡ None
  pub outcome : Outcome
  pub then_is : (replay o (e ∷ es) place).decided t ≡ Some outcome

no_decision : (d : Option Outcome) → is_none d ≡ true → d ≡ None
no_decision None h = refl
no_decision (Some out) h = absurd cc

cond_is : {A : Type 0} (b : Bool) (x : Option A) → IsSome (cond b x None) → b ≡ true
cond_is true x h = refl
cond_is false x h = absurd cc

module _ {S : Type 0} (stands : PageMap → S → Type 0) (next : S → List ℕ → Entry → S → Type 0) (o : Origin) where
  -- a Write that was asked at a store stands there
  alone_here : (es : List JEntry) (e : JEntry) (pass p : ℕ) (c : Command) → IsAsk e p c →
      IsAllowed stands next o es pass p c → (x : Transaction) → c ≡ Write x →
      alone_asked (e ∷ es) x.tid ≡ Some (alone_at p x)
  alone_here es e pass p c in_is f x is =
      let g = subst (λ (c : Command). IsAllowed stands next o es pass p c) is f in
      let found_is : found_in (alone_in x.tid) e ≡ Some (alone_at p x) =
      in_is Alone (alone_in x.tid) ∙ (ap (λ (c : Command). alone_in x.tid p c) is ∙ (rw (same_self x.tid) refl)) in
      rw found_is (again_first (alone_asked es x.tid) (alone_at p x) g.again)

  pending_alone : (es : List JEntry) → IsLawful stands next o es → (p : ℕ) (x : Transaction) →
      pending es p ≡ Some (Write x) → alone_asked es x.tid ≡ Some (alone_at p x)
  pending_alone [] law p x h = absurd cc
  pending_alone (Took pass q c a ∷ es) law p x h =
      found_more (alone_in x.tid) es (Took pass q c a) (alone_at p x) (pending_alone es law.0 p x h)
  pending_alone (Doubted pass q c ∷ es) law p x h =
      at (q == p) refl (pending es p) refl h (λ h'. pending_alone es law.0 p x h')
    where
      at : (b : Bool) → (q == p) ≡ b → (y : Option Command) → pending es p ≡ y → cond b (first_of y (Some c)) y ≡ Some (Write x) →
          (pending es p ≡ Some (Write x) → alone_asked es x.tid ≡ Some (alone_at p x)) →
          alone_asked (Doubted pass q c ∷ es) x.tid ≡ Some (alone_at p x)
      at true is None on h old =
          subst (λ p. alone_asked (Doubted pass q c ∷ es) x.tid ≡ Some (alone_at p x)) (eq_true q p is)
          (alone_here es (Doubted pass q c) pass q c (λ A f. refl) law.1 x cc)
      at true is (Some y) on h old =
          found_more (alone_in x.tid) es (Doubted pass q c) (alone_at p x) (old (on ∙ h))
      at false is y on h old = found_more (alone_in x.tid) es (Doubted pass q c) (alone_at p x) (old (on ∙ h))
  pending_alone (Late q c a ∷ es) law p x h = at (q == p) h (λ h'. pending_alone es law.0 p x h')
    where
      at : (b : Bool) → cond b None (pending es p) ≡ Some (Write x) →
          (pending es p ≡ Some (Write x) → alone_asked es x.tid ≡ Some (alone_at p x)) →
          alone_asked (Late q c a ∷ es) x.tid ≡ Some (alone_at p x)
      at true h old = absurd cc
      at false h old = found_more (alone_in x.tid) es (Late q c a) (alone_at p x) (old h)

  decides_write : (es : List JEntry) (e : JEntry) (p : ℕ) (x : Transaction) (a : Answer) (t : Tid) →
      applied (replay o es) e ≡ put (replay o es) p (after (replay o es p) (Write x)) →
      a ≡ answer_of (replay o es p) (Write x) → alone_asked (e ∷ es) x.tid ≡ Some (alone_at p x) → x.tid ≡ t →
      IsSome (settled_effect o es p (Write x) a) → Decides o es e t
  decides_write es e p x a t applies a_is asked tid effective =
      subst (λ (u : Tid). Decides o es e u) tid (at (write_refusal (replay o es p) x) refl)
    where
      both : (is_wrote a && is_none ((replay o es p).decided x.tid)) ≡ true
      both = cond_is (is_wrote a && is_none ((replay o es p).decided x.tid)) _ effective

      at : (r : Option Answer) → write_refusal (replay o es p) x ≡ r → Decides o es e x.tid
      at (Some y) is =
          let refused = no_effect (replay o es p) x y a (rw is at a_is) (write_cause (replay o es p) x y is) in
          absurd (not_both both refused)
      at None is = record {
        place = p;
        placed = inl (alone_at p x, asked, refl);
        before = no_decision ((replay o es p).decided x.tid) (and_true (is_wrote a) _ both).1;
        outcome = Commit x.entry;
        then_is = rw (applies, eq_self p, is, same_self x.tid) refl;
      }

  decides_commit : (es : List JEntry) (e : JEntry) (p : ℕ) (d : Decision) (a : Answer) (t : Tid) →
      applied (replay o es) e ≡ put (replay o es) p (after (replay o es p) (Decide d)) →
      ReadyDecision es p d.tid d.outcome → d.tid ≡ t → IsSome (settled_effect o es p (Decide d) a) → Decides o es e t
  decides_commit es e p d a t applies ready tid effective =
      subst (λ (u : Tid). Decides o es e u) tid (at d.outcome refl ready effective)
    where
      at : (out : Outcome) → d.outcome ≡ out → ReadyDecision es p d.tid out →
          IsSome (cond (is_none ((replay o es p).decided d.tid)) (decision_effect o es d.tid out) None) → Decides o es e d.tid
      at (Commit en) is ready effective =
          let none = no_decision ((replay o es p).decided d.tid)
          (cond_is (is_none ((replay o es p).decided d.tid)) _ effective) in
          record {
            place = p;
            placed = inr (ready.plan, found_more (plan_in d.tid) es e ready.plan ready.planned, ready.home);
            before = none;
            outcome = d.outcome;
            then_is = rw (applies, eq_self p, none, same_self d.tid) refl;
          }
      at Abort is ready effective = absurd (none_effect (is_none ((replay o es p).decided d.tid)) effective)
        where
          none_effect : (b : Bool) → IsSome (cond {A = Option Effect} b None None) → ⊥
          none_effect true h = cc
          none_effect false h = cc

  decides : (es : List JEntry) (e : JEntry) → IsLawful stands next o (e ∷ es) → (t : Tid) → TakesEffect o es e t →
      Decides o es e t
  decides es (Doubted pass p c) law t k = absurd (let z = k.effective in cc)
  decides es (Took pass p c a) law t k = by c refl k.of_tid k.effective
    where
      by : (d : Command) → c ≡ d → tid_of d ≡ Some t → IsSome (settled_effect o es p d a) → Decides o es (Took pass p c a) t
      by Fresh is tid h = absurd cc
      by (Read n) is tid h = absurd cc
      by (Look ns) is tid h = absurd cc
      by (Prepare part) is tid h = absurd cc
      by (Resolve r) is tid h = absurd cc
      by (Write x) is tid h = decides_write es (Took pass p c a) p x a t
          (ap (λ (d : Command). put (replay o es) p (after (replay o es p) d)) is)
          (law.1.0.given ∙ ap (λ (d : Command). answer_of (replay o es p) d) is)
          (alone_here es (Took pass p c a) pass p c (λ A f. refl) law.1.1 x is) (cc) h
      by (Decide d) is tid h = decides_commit es (Took pass p c a) p d a t
          (ap (λ (d : Command). put (replay o es) p (after (replay o es p) d)) is)
          (fair_ready stands next o es (Took pass p (Decide d) a) pass p (Decide d) (λ A f. refl)
          (subst (λ (d : Command). IsAllowed stands next o es pass p d) is law.1.1)) (cc) h
  decides es (Late p c a) law t k = by c refl k.of_tid k.effective
    where
      by : (d : Command) → c ≡ d → tid_of d ≡ Some t → IsSome (settled_effect o es p d a) → Decides o es (Late p c a) t
      by Fresh is tid h = absurd cc
      by (Read n) is tid h = absurd cc
      by (Look ns) is tid h = absurd cc
      by (Prepare part) is tid h = absurd cc
      by (Resolve r) is tid h = absurd cc
      by (Write x) is tid h = decides_write es (Late p c a) p x a t
          (ap (λ (d : Command). put (replay o es) p (after (replay o es p) d)) is)
          (law.1.given ∙ ap (λ (d : Command). answer_of (replay o es p) d) is)
          (found_more (alone_in x.tid) es (Late p c a) (alone_at p x)
          (pending_alone es law.0 p x (law.1.waited ∙ ap (λ (d : Command). Some d) is))) (cc) h
      by (Decide d) is tid h = decides_commit es (Late p c a) p d a t
          (ap (λ (d : Command). put (replay o es) p (after (replay o es p) d)) is)
          ((law_all stands next o es law.0).waiting p (Decide d) (law.1.waited ∙ ap (λ (d : Command). Some d) is)).0 (cc) h

  pub each_once : (es : List JEntry) → IsLawful stands next o es → EachOnce o es
  each_once es law later e mid first earlier t is one two =
      let whole : IsLawful stands next o (later ++ (e ∷ (mid ++ (first ∷ earlier)))) =
      subst (λ es. IsLawful stands next o es) is law in
      let second = lawful_before stands next o later (e ∷ (mid ++ (first ∷ earlier))) whole in
      let begin = lawful_before stands next o mid (first ∷ earlier) second.0 in
      let a = decides earlier first begin t one in
      let b = decides (mid ++ (first ∷ earlier)) e second t two in
      let there = placed_more (mid ++ (first ∷ earlier)) e t a.place (placed_later mid (first ∷ earlier) t a.place a.placed) in
      let same = one_place (e ∷ (mid ++ (first ∷ earlier))) (asks stands next o (e ∷ (mid ++ (first ∷ earlier))) second) t
      a.place b.place there b.placed in
      let still = decided_later o mid (first ∷ earlier) a.place t a.outcome a.then_is in
      none_some b.before (subst (λ p. (replay o (mid ++ (first ∷ earlier)) p).decided t ≡ Some a.outcome) same still)
