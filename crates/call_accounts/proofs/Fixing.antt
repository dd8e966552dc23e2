-- What a lawful journal says of one transaction: its entries in the history, and what its own pass's entries tell of them.
use Rattle.std.proofs.Common.{◌≡◌, ℕ, suc, ◌==◌, Bool, true, false, cond, ◌&&◌, List, [], ◌∷◌, ◌++◌, Option, Some, None}
use Rattle.std.proofs.Common.{refl, ap, sym, ◌∙◌, subst, ◌⊎◌, inl, inr, arith}
use Rattle.std.specs.Prelude.{is_none, MatchBool}
use Rattle.std.specs.List.{All, Contains}
use Rattle.std.proofs.lemmas.List.Elements.{All-contains}
use Rattle.pair_types.specs.declared.slot.Tid.{Tid}
use Rattle.pair_types.specs.PageMaps.{PageMap, page_of}
use Rattle.nfs3_types.specs.declared.entry.Entry.{Entry}
use Rattle.page_types.specs.declared.outcome.Outcome.{Outcome}
use Rattle.page_types.specs.declared.outcome.Outcome.TheVariants.{Commit, Abort}
use Rattle.page_types.specs.declared.command.Command.{Command}
use Rattle.page_types.specs.declared.command.Command.TheVariants.{Fresh, Read, Look, Write, Prepare, Decide, Resolve}
use Rattle.page_types.specs.declared.answer.Answer.{Answer}
use Rattle.page_types.specs.declared.journal.JEntry.{JEntry}
use Rattle.page_types.specs.declared.journal.JEntry.TheVariants.{Took, Doubted, Late}
use Rattle.page_types.specs.Accesses.{is_same}
use Rattle.page_types.specs.Asked.{Alone, first_of, found, found_in, alone_in, commit_in, entry_of}
use Rattle.page_types.specs.Fair.{IsOwnEntry, root}
use Rattle.page_types.specs.Journals.{Origin, is_of, own}
use Rattle.page_types.specs.Obeys.{answer_of, after}
use Rattle.serial_rules.specs.Worlds.{replay, pending}
use Rattle.serial_rules.specs.Committed.{shown}
use Rattle.serial_rules.specs.Lawful.{IsLawful}
use Rattle.serial_rules.specs.History.{is_wrote, decision_effect, settled_effect, alone_effect, served_by, happened, history}
use Rattle.serial_rules.specs.History.{Happened}
use Rattle.serial_rules.specs.Once.{tid_of}
use Rattle.serial_core.proofs.Basics.{eq_true, eq_self, not_both, none_some, some_same, cond_some}
use Rattle.serial_core.proofs.Asks.{asks}
use Rattle.serial_core.proofs.Own.{only_alone, only_commit, found_own}
use Rattle.two_phase.specs.Commits.{asks_effect, effect_in, told_effect, listed, effects, SettledAgainst}
use Rattle.call_accounts.specs.Asked.{Called, called_in}
use Rattle.call_accounts.specs.Calls.{served_by as call_by, call_in, asks_for, IsAskedFor}
use Rattle.call_accounts.proofs.Fates.{asks_of, commit_at, gains, asks_none, asks_some, told_if, told, Turn, Stays, Takes}
use Rattle.call_accounts.proofs.Fates.{turn, gains_asked}
use Rattle.call_accounts.proofs.Asking.{IsAsked, asked_more, asked_same, ask, awaits}
use Rattle.call_accounts.proofs.Ranges.{IsAt, ones, at_is, not_at}

-- ## What an entry of the journal adds to the history

abbrev served : List ℕ → Option (Option Entry) → List Happened
served page None = []
served page (Some en) = served_by page en

served_is : (o : Origin) (es : List JEntry) (q : ℕ) (c : Command) (a : Answer) (page : List ℕ) →
    a ≡ answer_of (replay o es q) c →
    happened page (settled_effect o es q c a) ≡ served page (gains (replay o es q) c)
served_is o es q Fresh a page is = refl
served_is o es q (Read n) a page is = refl
served_is o es q (Look ns) a page is = refl
served_is o es q (Prepare part) a page is = refl
served_is o es q (Resolve r) a page is = refl
served_is o es q (Write x) a page is =
    rw is (at (is_wrote (answer_of (replay o es q) (Write x)) && is_none ((replay o es q).decided x.tid)))
  where
    at : (b : Bool) →
        happened page (cond b (Some (alone_effect o es (record { store = q; transaction = x }))) None) ≡
        served page (cond b (Some x.entry) None)
    at true = refl
    at false = refl
served_is o es q (Decide d) a page is = at (is_none ((replay o es q).decided d.tid)) d.outcome
  where
    at : (b : Bool) (out : Outcome) →
        happened page (cond b (decision_effect o es d.tid out) None) ≡ served page (cond b (entry_of out) None)
    at true (Commit en) = refl
    at true Abort = refl
    at false out = refl

-- an entry of its own is the transaction's, and no other's
own_ones : (t : Tid) (page : List ℕ) (en : Option Entry) (hs : List Happened) → IsOwnEntry t en →
    ones t.pass t.serial (served_by page en ++ hs) ≡ listed en (ones t.pass t.serial hs)
own_ones t page None hs ok = refl
own_ones t page (Some x) hs ok =
    let low = ok.1 in
    let a : IsAt t.pass t.serial (suc t.serial) x =
    record { pass_is = ok.0; low = omega (arith, low); high = omega (arith, low) } in
    rw (at_is t.pass t.serial (suc t.serial) x a) refl

other_ones : (u t : Tid) (page : List ℕ) (en : Option Entry) (hs : List Happened) → IsOwnEntry u en → (u ≡ t → ⊥) →
    ones t.pass t.serial (served_by page en ++ hs) ≡ ones t.pass t.serial hs
other_ones u t page None hs ok ne = refl
other_ones u t page (Some x) hs ok ne =
    rw (not_at t.pass t.serial (suc t.serial) x (λ a.
    let low = a.low in
    let high = a.high in
    let s : u.serial ≡ t.serial = (let y = ok.1 in omega (arith, low, high, y)) in
    let p : u.pass ≡ t.pass = sym ok.0 ∙ a.pass_is in
    ne (λ i. record { pass = p i; serial = s i }))) refl

abbrev pub commit_of : Origin → List JEntry → ℕ → Tid → Option (Option Entry)
commit_of o es p t = commit_at (replay o es p) t

-- the transaction's entries in the history
abbrev pub mine : Origin → List JEntry → Tid → List Entry
mine o es t = ones t.pass t.serial (history o es)

-- An entry leaves what was committed of the transaction, and its entries in the history; or it commits it at its store.
data Move (o : Origin) (es : List JEntry) (e : JEntry) (t : Tid) : Type 0 where
  Stay : ((p : ℕ) → commit_of o (e ∷ es) p t ≡ commit_of o es p t) → mine o (e ∷ es) t ≡ mine o es t → Move o es e t
  Take : (q : ℕ) (en : Option Entry) → IsAsked (e ∷ es) t q en → commit_of o es q t ≡ None →
      commit_of o (e ∷ es) q t ≡ Some en →
      ((p : ℕ) → (q == p) ≡ false → commit_of o (e ∷ es) p t ≡ commit_of o es p t) →
      mine o (e ∷ es) t ≡ listed en (mine o es t) → Move o es e t

-- It took effect nowhere, and stands nowhere in the history; or at one store, with the entry that it was asked with, which
-- stands there once.
data Whole (o : Origin) (es : List JEntry) (t : Tid) : Type 0 where
  NotYet : ((p : ℕ) → commit_of o es p t ≡ None) → mine o es t ≡ [] → Whole o es t
  Done : (q : ℕ) (en : Option Entry) → IsAsked es t q en → commit_of o es q t ≡ Some en →
      ((p : ℕ) → (q == p) ≡ false → commit_of o es p t ≡ None) → mine o es t ≡ listed en [] → Whole o es t

-- where a command is settled
record IsSettledAt (o : Origin) (es : List JEntry) (e : JEntry) (q : ℕ) (c : Command) : Type 0 where
  at_store : commit_at (replay o (e ∷ es) q) ≡ commit_at (after (replay o es q) c)
  elsewhere : (p : ℕ) → (q == p) ≡ false → replay o (e ∷ es) p ≡ replay o es p
  hist : history o (e ∷ es) ≡
      served (page_of (shown (replay o es) root)) (gains (replay o es q) c) ++ history o es
  asked : (u : Tid) (en : Option Entry) → asks_of u c ≡ Some en → IsAsked (e ∷ es) u q en × IsOwnEntry u en

move_settled : (o : Origin) (es : List JEntry) (e : JEntry) (q : ℕ) (c : Command) → IsSettledAt o es e q c → (t : Tid) →
    Move o es e t
move_settled o es e q c st t = by (turn (replay o es q) c t)
  where
    quiet : (g : Option (Option Entry)) → gains (replay o es q) c ≡ g → (tid_of c ≡ Some t → g ≡ None) →
        ones t.pass t.serial (served (page_of (shown (replay o es) root)) g ++ history o es) ≡ mine o es t
    quiet None is none = refl
    quiet (Some en) is none =
        let u = gains_asked (replay o es q) c en is in
        other_ones u.0 t _ en (history o es) (st.asked u.0 en u.2).1
        (λ same. none_some (none (u.1 ∙ ap (λ (v : Tid). Some v) same)) refl)

    by : Turn (replay o es q) c t → Move o es e t
    by (Stays same none) = Stay (λ p. at p (q == p) refl)
        (ap (λ (hs : List Happened). ones t.pass t.serial hs) st.hist ∙ quiet (gains (replay o es q) c) refl none)
      where
        at : (p : ℕ) (b : Bool) → (q == p) ≡ b → commit_of o (e ∷ es) p t ≡ commit_of o es p t
        at p true is = subst (λ p. commit_of o (e ∷ es) p t ≡ commit_of o es p t) (eq_true q p is)
            (ap (λ (f : Tid → Option (Option Entry)). f t) st.at_store ∙ same)
        at p false is = ap (λ s. commit_at s t) (st.elsewhere p is)
    by (Takes en asked before then_is gained) =
        let a = st.asked t en asked in
        Take q en a.0 before (ap (λ (f : Tid → Option (Option Entry)). f t) st.at_store ∙ then_is)
        (λ p is. ap (λ s. commit_at s t) (st.elsewhere p is))
        (ap (λ (hs : List Happened). ones t.pass t.serial hs) st.hist ∙
        (rw gained (own_ones t (page_of (shown (replay o es) root)) en (history o es) a.1)))

-- ## What asks it

-- an entry asks it for this call
record WasAsked (es : List JEntry) (t : Tid) (x : Entry) : Type 0 where
  entry : JEntry
  among : Contains es entry
  is : asks_for t entry ≡ Some x

found_among : {A : Type 0} (f : ℕ → Command → Option A) (x : A) (es : List JEntry) → found f es ≡ Some x →
    (e : JEntry) × Contains es e × (found_in f e ≡ Some x)
found_among {A = A} f x [] h = absurd cc
found_among {A = A} f x (e ∷ es) h = at (found f es) refl h (λ h'. found_among f x es h')
  where
    later : (e' : JEntry) × Contains es e' × (found_in f e' ≡ Some x) →
        (e' : JEntry) × Contains (e ∷ es) e' × (found_in f e' ≡ Some x)
    later y = (y.0, (let k = y.1 in (suc k.0, (let lt = k.1 in omega (arith, lt)), k.2)), y.2)

    at : (y : Option A) → found f es ≡ y → first_of y (found_in f e) ≡ Some x →
        (found f es ≡ Some x → (e' : JEntry) × Contains es e' × (found_in f e' ≡ Some x)) →
        (e' : JEntry) × Contains (e ∷ es) e' × (found_in f e' ≡ Some x)
    at None is h old = (e, (0, omega arith, refl), h)
    at (Some y) is h old = later (old (is ∙ h))

call_alone : (t : Tid) (q : ℕ) (c : Command) (a : Alone) → alone_in t q c ≡ Some a → call_in t c ≡ a.transaction.entry
call_alone t q Fresh a h = absurd cc
call_alone t q (Read n) a h = absurd cc
call_alone t q (Look ns) a h = absurd cc
call_alone t q (Prepare part) a h = absurd cc
call_alone t q (Decide d) a h = absurd cc
call_alone t q (Resolve r) a h = absurd cc
call_alone t q (Write x) a h =
    let b = cond_some (is_same x.tid t) (record { store = q; transaction = x }) a h in
    rw b.0 (ap (λ (z : Alone). z.transaction.entry) b.1)

asks_alone : (t : Tid) (e : JEntry) (a : Alone) → found_in (alone_in t) e ≡ Some a → asks_for t e ≡ a.transaction.entry
asks_alone t (Took pass q c ans) a h = call_alone t q c a h
asks_alone t (Doubted pass q c) a h = call_alone t q c a h
asks_alone t (Late q c ans) a h = absurd cc

call_commit : (t : Tid) (q : ℕ) (c : Command) (en : Option Entry) → commit_in t q c ≡ Some en → call_in t c ≡ en
call_commit t q Fresh en h = absurd cc
call_commit t q (Read n) en h = absurd cc
call_commit t q (Look ns) en h = absurd cc
call_commit t q (Prepare part) en h = absurd cc
call_commit t q (Write x) en h = absurd cc
call_commit t q (Resolve r) en h = absurd cc
call_commit t q (Decide d) en h = at (is_same d.tid t) d.outcome h
  where
    at : (b : Bool) (out : Outcome) → cond b (entry_of out) None ≡ Some en → cond b (call_by out) None ≡ en
    at true (Commit em) h = cc
    at true Abort h = absurd cc
    at false out h = absurd cc

asks_commit : (t : Tid) (e : JEntry) (en : Option Entry) → found_in (commit_in t) e ≡ Some en → asks_for t e ≡ en
asks_commit t (Took pass q c ans) en h = call_commit t q c en h
asks_commit t (Doubted pass q c) en h = call_commit t q c en h
asks_commit t (Late q c ans) en h = absurd cc

module _ {S : Type 0} (stands : PageMap → S → Type 0) (next : S → List ℕ → Entry → S → Type 0) (o : Origin) where
  settled_took : (es : List JEntry) (pass q : ℕ) (c : Command) (a : Answer) → IsLawful stands next o (Took pass q c a ∷ es) →
      IsSettledAt o es (Took pass q c a) q c
  settled_took es pass q c a law = record {
    at_store = rw (eq_self q) refl;
    elsewhere = λ p is. rw is refl;
    hist = ap (λ (l : List Happened). l ++ history o es)
        (served_is o es q c a (page_of (shown (replay o es) root)) law.1.0.given);
    asked = λ u en h.
        (let n = ask stands next o es (Took pass q c a) pass q c (λ A f. refl) law.1.1 u en h in (n.asked, n.entry));
  }

  settled_late : (es : List JEntry) (q : ℕ) (c : Command) (a : Answer) → IsLawful stands next o (Late q c a ∷ es) →
      IsSettledAt o es (Late q c a) q c
  settled_late es q c a law = record {
    at_store = rw (eq_self q) refl;
    elsewhere = λ p is. rw is refl;
    hist = ap (λ (l : List Happened). l ++ history o es)
        (served_is o es q c a (page_of (shown (replay o es) root)) law.1.given);
    asked = λ u en h.
        (let n = awaits stands next o es law.0 q c law.1.waited u en h in (asked_more es (Late q c a) u q en n.asked, n.entry));
  }

  move : (es : List JEntry) (e : JEntry) → IsLawful stands next o (e ∷ es) → (t : Tid) → Move o es e t
  move es (Took pass q c a) law t = move_settled o es (Took pass q c a) q c (settled_took es pass q c a law) t
  move es (Doubted pass q c) law t = Stay (λ p. refl) refl
  move es (Late q c a) law t = move_settled o es (Late q c a) q c (settled_late es q c a law) t

  whole_more : (es : List JEntry) (e : JEntry) → IsLawful stands next o (e ∷ es) → (t : Tid) → Move o es e t →
      Whole o es t → Whole o (e ∷ es) t
  whole_more es e law t (Stay same mine_is) (NotYet none empty) = NotYet (λ p. same p ∙ none p) (mine_is ∙ empty)
  whole_more es e law t (Stay same mine_is) (Done q en asked now others one) =
      Done q en (asked_more es e t q en asked) (same q ∙ now) (λ p ne. same p ∙ others p ne) (mine_is ∙ one)
  whole_more es e law t (Take q en asked before now others mine_is) (NotYet none empty) =
      Done q en asked now (λ p ne. others p ne ∙ none p) (mine_is ∙ ap (λ (l : List Entry). listed en l) empty)
  whole_more es e law t (Take q en asked before now others mine_is) (Done p em old_asked old_now old_others one) =
      let same = (asked_same (e ∷ es) (asks stands next o (e ∷ es) law) t q p en em asked
      (asked_more es e t p em old_asked)).0 in
      absurd (none_some (subst (λ q. commit_of o es q t ≡ None) same before) old_now)

  whole : (es : List JEntry) → IsLawful stands next o es → (t : Tid) → Whole o es t
  whole [] law t = NotYet (λ p. refl) refl
  whole (e ∷ es) law t = whole_more es e law t (move es e law t) (whole es law.0 t)

  -- ## Where it was answered for

  kept_more : (es : List JEntry) (e : JEntry) (t : Tid) → Move o es e t → (p : ℕ) (v : Option Entry) →
      commit_of o es p t ≡ Some v → commit_of o (e ∷ es) p t ≡ Some v
  kept_more es e t (Stay same mine_is) p v h = same p ∙ h
  kept_more es e t (Take q en asked before now others mine_is) p v h = at (q == p) refl
    where
      at : (b : Bool) → (q == p) ≡ b → commit_of o (e ∷ es) p t ≡ Some v
      at true is = absurd (none_some (subst (λ q. commit_of o es q t ≡ None) (eq_true q p is) before) h)
      at false is = others p is ∙ h

  -- where it is committed at the store at which it was asked, it is with the entry that it was asked with
  commit_is : (es : List JEntry) → IsLawful stands next o es → (t : Tid) (q : ℕ) (v : Option Entry) → IsAsked es t q v →
      (en : Option Entry) → commit_of o es q t ≡ Some en → en ≡ v
  commit_is es law t q v asked en h = by (whole es law t)
    where
      by : Whole o es t → en ≡ v
      by (NotYet none empty) = absurd (none_some (none q) h)
      by (Done p em asked_there now others one) =
          let same = asked_same es (asks stands next o es law) t q p v em asked asked_there in
          some_same (commit_of o es q t) en em h (subst (λ p. commit_of o es p t ≡ Some em) (sym same.0) now) ∙ sym same.1

  told_now : (es : List JEntry) (pass q : ℕ) (c : Command) (a : Answer) → IsLawful stands next o (Took pass q c a ∷ es) →
      (t : Tid) (v : Option Entry) → effect_in t c a ≡ Some v → commit_of o (Took pass q c a ∷ es) q t ≡ Some v
  told_now es pass q c a law t v h =
      by (asks_of t c) refl (commit_at (after (replay o es q) c) t) refl
      (sym (told (replay o es q) c t) ∙ subst (λ (x : Answer). effect_in t c x ≡ Some v) law.1.0.given h)
    where
      by : (x : Option (Option Entry)) → asks_of t c ≡ x → (y : Option (Option Entry)) →
          commit_at (after (replay o es q) c) t ≡ y → told_if x y ≡ Some v →
          commit_of o (Took pass q c a ∷ es) q t ≡ Some v
      by None x_is y y_is h = absurd cc
      by (Some en) x_is None y_is h = absurd cc
      by (Some en) x_is (Some em) y_is h =
          let st = settled_took es pass q c a law in
          let now : commit_of o (Took pass q c a ∷ es) q t ≡ Some em =
          ap (λ (f : Tid → Option (Option Entry)). f t) st.at_store ∙ y_is in
          let v_is : en ≡ v = cc in
          now ∙ ap (λ (z : Option Entry). Some z)
          (commit_is (Took pass q c a ∷ es) law t q en (st.asked t en x_is).0 em now ∙ v_is)

  told_committed : (es : List JEntry) → IsLawful stands next o es → (t : Tid) (v : Option Entry) (vs : List (Option Entry)) →
      effects t (own t.pass es) ≡ v ∷ vs → (p : ℕ) × (commit_of o es p t ≡ Some v)
  told_committed [] law t v vs h = absurd cc
  told_committed (e ∷ es) law t v vs h =
      at (is_of t.pass e) h (λ h'. older (told_committed es law.0 t v vs h'))
    where
      older : (p : ℕ) × (commit_of o es p t ≡ Some v) → (p : ℕ) × (commit_of o (e ∷ es) p t ≡ Some v)
      older x = (x.0, kept_more es e t (move es e law t) x.0 v x.1)

      now : (f : JEntry) → e ≡ f → told_effect t f ≡ Some v → (p : ℕ) × (commit_of o (e ∷ es) p t ≡ Some v)
      now (Took pass q c a) is h = (
        q,
        subst (λ (f : JEntry). commit_of o (f ∷ es) q t ≡ Some v) (sym is)
            (told_now es pass q c a (subst (λ (f : JEntry). IsLawful stands next o (f ∷ es)) is law) t v h),
      )
      now (Doubted pass q c) is h = absurd cc
      now (Late q c a) is h = absurd cc

      by : (x : Option (Option Entry)) → told_effect t e ≡ x → listed x (effects t (own t.pass es)) ≡ v ∷ vs →
          (effects t (own t.pass es) ≡ v ∷ vs → (p : ℕ) × (commit_of o (e ∷ es) p t ≡ Some v)) →
          (p : ℕ) × (commit_of o (e ∷ es) p t ≡ Some v)
      by None is h old = old h
      by (Some en) is h old =
          let same : en ≡ v = cc in now e refl (is ∙ ap (λ (z : Option Entry). Some z) same)

      at : (b : Bool) → effects t (cond b (e ∷ own t.pass es) (own t.pass es)) ≡ v ∷ vs →
          (effects t (own t.pass es) ≡ v ∷ vs → (p : ℕ) × (commit_of o (e ∷ es) p t ≡ Some v)) →
          (p : ℕ) × (commit_of o (e ∷ es) p t ≡ Some v)
      at true h old = by (told_effect t e) refl h old
      at false h old = old h

  -- one that was answered for stands once, with its entry
  pub stands_once : (es : List JEntry) → IsLawful stands next o es → (t : Tid) (x : Entry) →
      effects t (own t.pass es) ≡ Some x ∷ [] → mine o es t ≡ x ∷ []
  stands_once es law t x h =
      let c = told_committed es law t (Some x) [] h in by c.0 c.1 (whole es law t)
    where
      by : (p : ℕ) → commit_of o es p t ≡ Some (Some x) → Whole o es t → mine o es t ≡ x ∷ []
      by p h (NotYet none empty) = absurd (none_some (none p) h)
      by p h (Done q en asked now others one) = at (q == p) refl
        where
          at : (b : Bool) → (q == p) ≡ b → mine o es t ≡ x ∷ []
          at true is =
              let there = subst (λ q. commit_of o es q t ≡ Some en) (eq_true q p is) now in
              one ∙ ap (λ (z : Option Entry). listed z []) (some_same (commit_of o es p t) en (Some x) there h)
          at false is = absurd (none_some (others p is) h)

  -- ## Where it was settled against

  -- it is committed nowhere, and no command that would commit it is pending
  record IsOff (es : List JEntry) (t : Tid) : Type 0 where
    none : (p : ℕ) → commit_of o es p t ≡ None
    awaited : (p : ℕ) (c : Command) → pending es p ≡ Some c → asks_of t c ≡ None

  -- a command that does not ask it leaves it
  idle : (es : List JEntry) (e : JEntry) (q : ℕ) (c : Command) → IsSettledAt o es e q c → (t : Tid) → asks_of t c ≡ None →
      (p : ℕ) → commit_of o (e ∷ es) p t ≡ commit_of o es p t
  idle es e q c st t none p = at (q == p) refl
    where
      here : Turn (replay o es q) c t → commit_of o (e ∷ es) q t ≡ commit_of o es q t
      here (Stays same quiet) = ap (λ (f : Tid → Option (Option Entry)). f t) st.at_store ∙ same
      here (Takes en asked before then_is gained) = absurd (none_some none asked)

      at : (b : Bool) → (q == p) ≡ b → commit_of o (e ∷ es) p t ≡ commit_of o es p t
      at true is = subst (λ p. commit_of o (e ∷ es) p t ≡ commit_of o es p t) (eq_true q p is)
          (here (turn (replay o es q) c t))
      at false is = ap (λ s. commit_at s t) (st.elsewhere p is)

  off_took : (es : List JEntry) (pass q : ℕ) (c : Command) (a : Answer) → IsLawful stands next o (Took pass q c a ∷ es) →
      (t : Tid) → asks_of t c ≡ None → IsOff es t → IsOff (Took pass q c a ∷ es) t
  off_took es pass q c a law t none old = record {
    none = λ p. idle es (Took pass q c a) q c (settled_took es pass q c a law) t none p ∙ old.none p;
    awaited = old.awaited;
  }

  off_doubted : (es : List JEntry) (pass q : ℕ) (c : Command) (t : Tid) → asks_of t c ≡ None → IsOff es t →
      IsOff (Doubted pass q c ∷ es) t
  off_doubted es pass q c t none old = record {
    none = old.none;
    awaited = λ p d h. at p d (q == p) (pending es p) refl h;
  }
    where
      at : (p : ℕ) (d : Command) (b : Bool) (y : Option Command) → pending es p ≡ y →
          cond b (first_of y (Some c)) y ≡ Some d → asks_of t d ≡ None
      at p d true None y_is h = let same : c ≡ d = cc in subst (λ (x : Command). asks_of t x ≡ None) same none
      at p d true (Some y) y_is h = old.awaited p d (y_is ∙ h)
      at p d false y y_is h = old.awaited p d (y_is ∙ h)

  off_late : (es : List JEntry) (q : ℕ) (c : Command) (a : Answer) → IsLawful stands next o (Late q c a ∷ es) → (t : Tid) →
      IsOff es t → IsOff (Late q c a ∷ es) t
  off_late es q c a law t old = record {
    none = λ p. idle es (Late q c a) q c (settled_late es q c a law) t (old.awaited q c law.1.waited) p ∙ old.none p;
    awaited = λ p d h. at p d (q == p) h;
  }
    where
      at : (p : ℕ) (d : Command) (b : Bool) → cond b None (pending es p) ≡ Some d → asks_of t d ≡ None
      at p d true h = absurd cc
      at p d false h = old.awaited p d h

  -- an answer that it did not take effect says that it is committed nowhere
  off_told : (es : List JEntry) (pass q : ℕ) (c : Command) (a : Answer) → IsLawful stands next o (Took pass q c a ∷ es) →
      (t : Tid) (en : Option Entry) → asks_of t c ≡ Some en → effect_in t c a ≡ None → IsOff (Took pass q c a ∷ es) t
  off_told es pass q c a law t en asked h = record {
    none = λ p. all p (whole (Took pass q c a ∷ es) law t);
    awaited = λ p d pend. never p d pend (asks_of t d) refl;
  }
    where
      st : IsSettledAt o es (Took pass q c a) q c
      st = settled_took es pass q c a law

      now : IsAsked (Took pass q c a ∷ es) t q en
      now = (st.asked t en asked).0

      not_told : (y : Option (Option Entry)) → told_if (Some en) y ≡ None → y ≡ None
      not_told None h = refl
      not_told (Some em) h = absurd cc

      here : commit_of o (Took pass q c a ∷ es) q t ≡ None
      here =
          ap (λ (f : Tid → Option (Option Entry)). f t) st.at_store ∙
          not_told (commit_at (after (replay o es q) c) t)
          (ap (λ (x : Option (Option Entry)). told_if x (commit_at (after (replay o es q) c) t)) (sym asked) ∙
          (sym (told (replay o es q) c t) ∙ subst (λ (x : Answer). effect_in t c x ≡ None) law.1.0.given h))

      all : (p : ℕ) → Whole o (Took pass q c a ∷ es) t → commit_of o (Took pass q c a ∷ es) p t ≡ None
      all p (NotYet none empty) = none p
      all p (Done r em there then_is others one) =
          let ak = asks stands next o (Took pass q c a ∷ es) law in
          let same = (asked_same (Took pass q c a ∷ es) ak t q r en em now there).0 in
          absurd (none_some (subst (λ z. commit_of o (Took pass q c a ∷ es) z t ≡ None) same here) then_is)

      never : (p : ℕ) (d : Command) → pending es p ≡ Some d → (x : Option (Option Entry)) → asks_of t d ≡ x → x ≡ None
      never p d pend None is = refl
      never p d pend (Some em) is =
          let w = awaits stands next o es law.0 p d pend t em is in
          let same = (asked_same (Took pass q c a ∷ es) (asks stands next o (Took pass q c a ∷ es) law) t q p en em now
          (asked_more es (Took pass q c a) t p em w.asked)).0 in
          absurd (none_some (subst (λ q. pending es q ≡ None) same law.1.0.waited) pend)

  -- another pass does not ask it
  not_own : (pass : ℕ) (c : Command) (t : Tid) → ((en : Option Entry) → asks_of t c ≡ Some en → t.pass ≡ pass) →
      (pass == t.pass) ≡ false → asks_of t c ≡ None
  not_own pass c t own is = at (asks_of t c) refl
    where
      at : (x : Option (Option Entry)) → asks_of t c ≡ x → x ≡ None
      at None x_is = refl
      at (Some en) x_is = absurd (not_both (subst (λ x. (pass == x) ≡ true) (sym (own en x_is)) (eq_self pass)) is)

  off : (es : List JEntry) → IsLawful stands next o es → (t : Tid) → SettledAgainst (own t.pass es) t → IsOff es t
  off [] law t h = record { none = λ p. refl; awaited = λ p c h. absurd cc }
  off (Late q c a ∷ es) law t h = off_late es q c a law t (off es law.0 t h)
  off (Took pass q c a ∷ es) law t h = at (pass == t.pass) refl h (λ h'. off es law.0 t h')
    where
      by : (b : Bool) → asks_effect t c ≡ b → MatchBool b (effect_in t c a ≡ None) (SettledAgainst (own t.pass es) t) →
          (SettledAgainst (own t.pass es) t → IsOff es t) → IsOff (Took pass q c a ∷ es) t
      by true is h old = let s = asks_some t c is in off_told es pass q c a law t s.0 s.1 h
      by false is h old = off_took es pass q c a law t (asks_none t c is) (old h)

      at : (b : Bool) → (pass == t.pass) ≡ b → SettledAgainst (cond b (Took pass q c a ∷ own t.pass es) (own t.pass es)) t →
          (SettledAgainst (own t.pass es) t → IsOff es t) → IsOff (Took pass q c a ∷ es) t
      at true is h old = by (asks_effect t c) refl h old
      at false is h old = off_took es pass q c a law t
          (not_own pass c t
          (λ en k. (ask stands next o es (Took pass q c a) pass q c (λ A f. refl) law.1.1 t en k).own) is) (old h)
  off (Doubted pass q c ∷ es) law t h = at (pass == t.pass) refl h (λ h'. off es law.0 t h')
    where
      by : (b : Bool) → asks_effect t c ≡ b → MatchBool b ⊥ (SettledAgainst (own t.pass es) t) →
          (SettledAgainst (own t.pass es) t → IsOff es t) → IsOff (Doubted pass q c ∷ es) t
      by true is h old = absurd h
      by false is h old = off_doubted es pass q c t (asks_none t c is) (old h)

      at : (b : Bool) → (pass == t.pass) ≡ b → SettledAgainst (cond b (Doubted pass q c ∷ own t.pass es) (own t.pass es)) t →
          (SettledAgainst (own t.pass es) t → IsOff es t) → IsOff (Doubted pass q c ∷ es) t
      at true is h old = by (asks_effect t c) refl h old
      at false is h old = off_doubted es pass q c t
          (not_own pass c t
          (λ en k. (ask stands next o es (Doubted pass q c) pass q c (λ A f. refl) law.1 t en k).own) is) (old h)

  -- one that was settled against stands nowhere
  pub stands_never : (es : List JEntry) → IsLawful stands next o es → (t : Tid) → SettledAgainst (own t.pass es) t →
      mine o es t ≡ []
  stands_never es law t h = by (off es law t h) (whole es law t)
    where
      by : IsOff es t → Whole o es t → mine o es t ≡ []
      by x (NotYet none empty) = empty
      by x (Done q en asked now others one) = absurd (none_some (x.none q) now)

  -- ## What stands was asked for

  asked_own : (es : List JEntry) → IsLawful stands next o es → (t : Tid) (q : ℕ) (x : Entry) → IsAsked es t q (Some x) →
      WasAsked (own t.pass es) t x
  asked_own es law t q x (inl a) =
      let is = sym (found_own stands next o (alone_in t) t.pass (only_alone t t.pass refl) es law) ∙ a.asked in
      let f = found_among (alone_in t) a.alone (own t.pass es) is in
      record { entry = f.0; among = f.1; is = asks_alone t f.0 a.alone f.2 ∙ a.entry }
  asked_own es law t q x (inr a) =
      let is = sym (found_own stands next o (commit_in t) t.pass (only_commit t t.pass refl) es law) ∙ a.commit in
      let f = found_among (commit_in t) (Some x) (own t.pass es) is in
      record { entry = f.0; among = f.1; is = asks_commit t f.0 (Some x) f.2 }

  -- one that was asked for no call stands nowhere
  pub stands_for_none : (es : List JEntry) → IsLawful stands next o es → (t : Tid) →
      All (λ e. asks_for t e ≡ None) (own t.pass es) → mine o es t ≡ []
  stands_for_none es law t h = by (whole es law t)
    where
      by : Whole o es t → mine o es t ≡ []
      by (NotYet none empty) = empty
      by (Done q None asked now others one) = one
      by (Done q (Some x) asked now others one) =
          let w = asked_own es law t q x asked in
          absurd (none_some (All-contains (λ e. asks_for t e ≡ None) (own t.pass es) w.entry h w.among) w.is)

  -- it stands once at most, for the call that it was asked for
  pub stands_at_most : (es : List JEntry) → IsLawful stands next o es → (t : Tid) (called : Called) →
      IsAskedFor (own t.pass es) t called →
      (mine o es t ≡ []) ⊎ ((x : Entry) × (mine o es t ≡ x ∷ []) × (called_in x ≡ called))
  stands_at_most es law t called h = by (whole es law t)
    where
      by : Whole o es t → (mine o es t ≡ []) ⊎ ((x : Entry) × (mine o es t ≡ x ∷ []) × (called_in x ≡ called))
      by (NotYet none empty) = inl empty
      by (Done q None asked now others one) = inl one
      by (Done q (Some x) asked now others one) =
          let w = asked_own es law t q x asked in
          inr (
            x,
            one,
            All-contains (λ e. (entry : Entry) → asks_for t e ≡ Some entry → called_in entry ≡ called) (own t.pass es) w.entry h
                w.among x w.is,
          )
