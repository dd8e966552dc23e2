-- What a lawful journal asked: all that was asked of one transaction agrees.
use Rattle.std.proofs.Common.{◌≡◌, ℕ, ◌==◌, ◌&&◌, List, [], ◌∷◌, Option, Some, None, refl, ap, sym}
use Rattle.std.proofs.Common.{◌∙◌, subst}
use Rattle.std.specs.List.{Contains}
use Rattle.pair_types.specs.declared.slot.Tid.{Tid}
use Rattle.pair_types.specs.PageMaps.{PageMap}
use Rattle.nfs3_types.specs.declared.entry.Entry.{Entry}
use Rattle.page_types.specs.declared.command.Part.{Part}
use Rattle.page_types.specs.declared.command.Command.{Command}
use Rattle.page_types.specs.declared.command.Command.TheVariants.{Fresh, Read, Look, Write, Prepare, Decide, Resolve}
use Rattle.page_types.specs.declared.journal.JEntry.{JEntry}
use Rattle.page_types.specs.declared.journal.JEntry.TheVariants.{Took, Doubted, Late}
use Rattle.page_types.specs.Accesses.{is_same, AreAccesses}
use Rattle.page_types.specs.Journals.{Origin}
use Rattle.page_types.specs.Asked.{first_of, found_in, Plan, plan_of, Alone, part_in, plan_in, alone_in, part_asked}
use Rattle.page_types.specs.Asked.{plan_asked, alone_asked}
use Rattle.page_types.specs.Fair.{IsAgain}
use Rattle.serial_rules.specs.Lawful.{IsAllowed, IsLawful}
use Rattle.serial_core.proofs.Basics.{first_end, and_true, cond_some, eq_true, same_true, same_self, found_more}

-- a part that was asked at a store, with its transaction's plan
pub record Agree (es : List JEntry) (t : Tid) (p : ℕ) (part : Part) : Type 0 where
  pub of_tid : part.tid ≡ t
  pub plan_is : plan_asked es t ≡ Some (plan_of part)
  pub here : Contains part.parts p
  pub accesses : AreAccesses part.reads part.writes

pub record Asks (es : List JEntry) : Type 0 where
  pub agree : (t : Tid) (p : ℕ) (part : Part) → part_asked es t p ≡ Some part → Agree es t p part
  pub apart : (t : Tid) (pl : Plan) (x : Alone) → plan_asked es t ≡ Some pl → alone_asked es t ≡ Some x → ⊥

agree_more : (es : List JEntry) (e : JEntry) (t : Tid) (p : ℕ) (part : Part) → Agree es t p part → Agree (e ∷ es) t p part
agree_more es e t p part a = record {
  of_tid = a.of_tid;
  plan_is = found_more (plan_in t) es e (plan_of part) a.plan_is;
  here = a.here;
  accesses = a.accesses;
}

pub again_first : {A : Type 0} (o : Option A) (x : A) → IsAgain o x → first_of o (Some x) ≡ Some x
again_first None x s = refl
again_first (Some y) x s = ap (λ z. Some z) s

-- the entry asks this command here
abbrev pub IsAsk : JEntry → ℕ → Command → Type 1
IsAsk e p c = (A : Type 0) (f : ℕ → Command → Option A) → found_in f e ≡ f p c

module _ {S : Type 0} (stands : PageMap → S → Type 0) (next : S → List ℕ → Entry → S → Type 0) (origin : Origin) where
  -- one more that was asked
  module _ (es : List JEntry) (e : JEntry) (pass p : ℕ) (c : Command) (in_is : IsAsk e p c) (old : Asks es)
      (fair : IsAllowed stands next origin es pass p c) where
    new_agree : (c' : Command) → c' ≡ c → (t : Tid) (q : ℕ) (part : Part) → part_in t q p c' ≡ Some part →
        Agree (e ∷ es) t q part
    new_agree Fresh is t q part h = absurd cc
    new_agree (Read n) is t q part h = absurd cc
    new_agree (Look ns) is t q part h = absurd cc
    new_agree (Write x) is t q part h = absurd cc
    new_agree (Decide d) is t q part h = absurd cc
    new_agree (Resolve r) is t q part h = absurd cc
    new_agree (Prepare x) is t q part h =
        let b = cond_some ((p == q) && is_same x.tid t) x part h in
        let d = and_true (p == q) (is_same x.tid t) b.0 in
        let f = subst (λ y. IsAllowed stands next origin es pass p y) (sym is) fair in
        let here : p ≡ q = eq_true p q d.0 in
        let tid : x.tid ≡ t = same_true x.tid t d.1 in
        let asks : found_in (plan_in x.tid) e ≡ Some (plan_of x) =
        in_is Plan (plan_in x.tid) ∙ (ap (λ y. plan_in x.tid p y) (sym is) ∙ (rw (same_self x.tid) refl)) in
        let planned : plan_asked (e ∷ es) x.tid ≡ Some (plan_of x) =
        rw asks (again_first (plan_asked es x.tid) (plan_of x) f.planned) in
        let whole : Agree (e ∷ es) x.tid p x =
        record { of_tid = refl; plan_is = planned; here = f.here; accesses = f.accesses } in
        subst (λ y. Agree (e ∷ es) y q part) tid
        (subst (λ y. Agree (e ∷ es) x.tid y part) here (subst (λ y. Agree (e ∷ es) x.tid p y) b.1 whole))

    new_apart : (c' : Command) → c' ≡ c → (t : Tid) (pl : Plan) (x : Alone) (o : Option Plan) → plan_asked es t ≡ o →
        (w : Option Alone) → alone_asked es t ≡ w → first_of o (plan_in t p c') ≡ Some pl →
        first_of w (alone_in t p c') ≡ Some x → ⊥
    new_apart c' is t pl x (Some y) o_is (Some z) w_is h k = old.apart t y z o_is w_is
    new_apart (Write y) is t pl x (Some z) o_is None w_is h k =
        let f = subst (λ y. IsAllowed stands next origin es pass p y) (sym is) fair in
        let b = cond_some (is_same y.tid t) (record { store = p; transaction = y }) x k in
        let tid : y.tid ≡ t = same_true y.tid t b.0 in
        let none : plan_asked es t ≡ None = subst (λ (u : Tid). plan_asked es u ≡ None) tid f.not_planned in
        absurd (cc (none, o_is))
    new_apart Fresh is t pl x (Some y) o_is None w_is h k = absurd cc
    new_apart (Read n) is t pl x (Some y) o_is None w_is h k = absurd cc
    new_apart (Look ns) is t pl x (Some y) o_is None w_is h k = absurd cc
    new_apart (Prepare y) is t pl x (Some z) o_is None w_is h k = absurd cc
    new_apart (Decide d) is t pl x (Some y) o_is None w_is h k = absurd cc
    new_apart (Resolve r) is t pl x (Some y) o_is None w_is h k = absurd cc
    new_apart (Prepare y) is t pl x None o_is (Some z) w_is h k =
        let f = subst (λ y. IsAllowed stands next origin es pass p y) (sym is) fair in
        let b = cond_some (is_same y.tid t) (plan_of y) pl h in
        let tid : y.tid ≡ t = same_true y.tid t b.0 in
        let none : alone_asked es t ≡ None = subst (λ (u : Tid). alone_asked es u ≡ None) tid f.not_alone in
        absurd (cc (none, w_is))
    new_apart Fresh is t pl x None o_is w w_is h k = absurd cc
    new_apart (Read n) is t pl x None o_is w w_is h k = absurd cc
    new_apart (Look ns) is t pl x None o_is w w_is h k = absurd cc
    new_apart (Write y) is t pl x None o_is w w_is h k = absurd cc
    new_apart (Decide d) is t pl x None o_is w w_is h k = absurd cc
    new_apart (Resolve r) is t pl x None o_is w w_is h k = absurd cc
    new_apart (Prepare y) is t pl x None o_is None w_is h k = absurd cc

    pub asks_more : Asks (e ∷ es)
    asks_more = record {
      agree = λ t q part h. one t q part (part_asked es t q) refl h;
      apart = λ t pl x h k. new_apart c refl t pl x (plan_asked es t) refl (alone_asked es t) refl
          (rw (← in_is Plan (plan_in t)) h) (rw (← in_is Alone (alone_in t)) k);
    }
      where
        one : (t : Tid) (q : ℕ) (part : Part) (o : Option Part) → part_asked es t q ≡ o →
            first_of o (found_in (part_in t q) e) ≡ Some part → Agree (e ∷ es) t q part
        one t q part (Some y) is h =
            let same : y ≡ part = cc in agree_more es e t q part (old.agree t q part (is ∙ ap (λ z. Some z) same))
        one t q part None is h = new_agree c refl t q part (sym (in_is Part (part_in t q)) ∙ h)

  asks_late : (es : List JEntry) (e : JEntry) → ((A : Type 0) (f : ℕ → Command → Option A) → found_in f e ≡ None) → Asks es →
      Asks (e ∷ es)
  asks_late es e none old = record {
    agree = λ t q part h.
        agree_more es e t q part (old.agree t q part (back (part_asked es t q) _ (none Part (part_in t q)) h));
    apart = λ t pl x h k. old.apart t pl x (back (plan_asked es t) _ (none Plan (plan_in t)) h)
        (back (alone_asked es t) _ (none Alone (alone_in t)) k);
  }
    where
      back : {A : Type 0} {x : A} (o i : Option A) → i ≡ None → first_of o i ≡ Some x → o ≡ Some x
      back o i is h = sym (first_end o) ∙ (ap (first_of o) (sym is) ∙ h)

  pub asks : (es : List JEntry) → IsLawful stands next origin es → Asks es
  asks [] law = record { agree = λ t p part h. absurd cc; apart = λ t pl x h k. cc }
  asks (Took pass p c a ∷ es) law = asks_more es (Took pass p c a) pass p c (λ A f. refl) (asks es law.0) law.1.1
  asks (Doubted pass p c ∷ es) law = asks_more es (Doubted pass p c) pass p c (λ A f. refl) (asks es law.0) law.1
  asks (Late p c a ∷ es) law = asks_late es (Late p c a) (λ A f. refl) (asks es law.0)
