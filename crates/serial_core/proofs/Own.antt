-- What a pass knows by its own entries is so in the journal, where the answers are the stores'.
use Rattle.std.proofs.Common.{◌≡◌, ℕ, ◌==◌, Bool, true, false, cond, ◌&&◌, ◌||◌, List, [], ◌∷◌, Option, Some, None, refl, ap}
use Rattle.std.proofs.Common.{sym, ◌∙◌, subst, inl, inr, unwrap_or}
use Rattle.std.specs.Prelude.{⊤}
use Rattle.std.specs.List.{list_any}
use Rattle.pair_types.specs.declared.slot.Tid.{Tid}
use Rattle.pair_types.specs.PageMaps.{PageMap}
use Rattle.nfs3_types.specs.declared.entry.Entry.{Entry}
use Rattle.page_types.specs.declared.hold.Hold.{Hold}
use Rattle.page_types.specs.declared.hold.WriteHold.{WriteHold}
use Rattle.page_types.specs.declared.outcome.Outcome.{Outcome}
use Rattle.page_types.specs.declared.outcome.Outcome.TheVariants.{Commit, Abort}
use Rattle.page_types.specs.declared.command.Part.{Part}
use Rattle.page_types.specs.declared.command.Command.{Command}
use Rattle.page_types.specs.declared.command.Command.TheVariants.{Fresh, Read, Look, Write, Prepare, Decide, Resolve}
use Rattle.page_types.specs.declared.answer.Answer.{Answer}
use Rattle.page_types.specs.declared.answer.Answer.TheVariants as answer
use Rattle.page_types.specs.declared.journal.JEntry.{JEntry}
use Rattle.page_types.specs.declared.journal.JEntry.TheVariants.{Took, Doubted, Late}
use Rattle.page_types.specs.Accesses.{is_same}
use Rattle.page_types.specs.Journals.{Origin, is_of, own}
use Rattle.page_types.specs.Asked.{first_of, found, found_in, Plan, plan_of, entry_of, part_in, plan_in, alone_in, commit_in}
use Rattle.page_types.specs.Asked.{part_asked, plan_asked, Names, busy_plan, plan_met}
use Rattle.page_types.specs.Fair.{told_by, told_in, told_first, seen, DecisionFair, IsFairBy}
use Rattle.page_types.specs.Stores.{StoreState}
use Rattle.page_types.specs.Obeys.{busy_by, page_answer, held_by, first_held, versions_of, as_wrote, refused_write}
use Rattle.page_types.specs.Obeys.{write_refusal, write_answer, prepare_refusal, answer_of}
use Rattle.serial_rules.specs.Worlds.{replay}
use Rattle.serial_rules.specs.Contents.{first_at, content_at}
use Rattle.serial_rules.specs.Lawful.{Answered, IsAllowed, IsMet, IsLawful}
use Rattle.serial_core.proofs.Basics.{first_end, and_true, and_false, cond_some, eq_true, eq_self, same_true, found_more}
use Rattle.serial_core.proofs.Basics.{or_true, or_right, not_both}
use Rattle.serial_core.proofs.Refusals.{IsHeld, Cause, write_cause, prepare_cause}
use Rattle.serial_core.proofs.Refusals.{IsDecided as decided_before, IsEnded, IsOwn, IsBusy, IsConflict}
use Rattle.serial_core.proofs.Asks.{asks, again_first}
use Rattle.serial_core.proofs.Moves.{first_now}
use Rattle.serial_core.proofs.Slots.{SlotOk}
use Rattle.serial_core.proofs.Law.{law_all}

-- ## What only one pass asks

-- a command of a transaction's own pass
abbrev IsOwnDecision : Tid → Outcome → ℕ → Type 0
IsOwnDecision t (Commit en) pass = t.pass ≡ pass
IsOwnDecision t Abort pass = ⊤

abbrev pub IsOwnCommand : Command → ℕ → Type 0
IsOwnCommand (Write x) pass = x.tid.pass ≡ pass
IsOwnCommand (Prepare part) pass = part.tid.pass ≡ pass
IsOwnCommand (Decide d) pass = IsOwnDecision d.tid d.outcome pass
IsOwnCommand c pass = ⊤

-- what is found in commands of this pass alone
abbrev pub IsOnly : {A : Type 0} → (ℕ → Command → Option A) → ℕ → Type 0
IsOnly f who = (pass q : ℕ) (c : Command) → IsOwnCommand c pass → (pass ≡ who → ⊥) → f q c ≡ None

apart_pass : (t u : Tid) (pass who : ℕ) → u.pass ≡ pass → t.pass ≡ who → (pass ≡ who → ⊥) → (b : Bool) →
    is_same u t ≡ b → b ≡ false
apart_pass t u pass who a b ne true is = absurd (ne (sym a ∙ (ap (λ (x : Tid). x.pass) (same_true u t is) ∙ b)))
apart_pass t u pass who a b ne false is = refl

pub only_part : (t : Tid) (q who : ℕ) → t.pass ≡ who → IsOnly (part_in t q) who
only_part t q who is pass p Fresh tid ne = refl
only_part t q who is pass p (Read n) tid ne = refl
only_part t q who is pass p (Look ns) tid ne = refl
only_part t q who is pass p (Write x) tid ne = refl
only_part t q who is pass p (Prepare part) tid ne =
    rw (apart_pass t part.tid pass who tid is ne (is_same part.tid t) refl, and_false (p == q)) refl
only_part t q who is pass p (Decide d) tid ne = refl
only_part t q who is pass p (Resolve r) tid ne = refl

pub only_plan : (t : Tid) (who : ℕ) → t.pass ≡ who → IsOnly (plan_in t) who
only_plan t who is pass p Fresh tid ne = refl
only_plan t who is pass p (Read n) tid ne = refl
only_plan t who is pass p (Look ns) tid ne = refl
only_plan t who is pass p (Write x) tid ne = refl
only_plan t who is pass p (Prepare part) tid ne =
    rw (apart_pass t part.tid pass who tid is ne (is_same part.tid t) refl) refl
only_plan t who is pass p (Decide d) tid ne = refl
only_plan t who is pass p (Resolve r) tid ne = refl

pub only_alone : (t : Tid) (who : ℕ) → t.pass ≡ who → IsOnly (alone_in t) who
only_alone t who is pass p Fresh tid ne = refl
only_alone t who is pass p (Read n) tid ne = refl
only_alone t who is pass p (Look ns) tid ne = refl
only_alone t who is pass p (Write x) tid ne =
    rw (apart_pass t x.tid pass who tid is ne (is_same x.tid t) refl) refl
only_alone t who is pass p (Prepare part) tid ne = refl
only_alone t who is pass p (Decide d) tid ne = refl
only_alone t who is pass p (Resolve r) tid ne = refl

pub only_commit : (t : Tid) (who : ℕ) → t.pass ≡ who → IsOnly (commit_in t) who
only_commit t who is pass p Fresh tid ne = refl
only_commit t who is pass p (Read n) tid ne = refl
only_commit t who is pass p (Look ns) tid ne = refl
only_commit t who is pass p (Write x) tid ne = refl
only_commit t who is pass p (Prepare part) tid ne = refl
only_commit t who is pass p (Decide d) tid ne = at d.outcome tid (is_same d.tid t) refl
  where
    at : (out : Outcome) → IsOwnDecision d.tid out pass → (b : Bool) → is_same d.tid t ≡ b →
        cond b (entry_of out) None ≡ None
    at (Commit en) own true same = absurd (not_both same (apart_pass t d.tid pass who own is ne (is_same d.tid t) refl))
    at (Commit en) own false same = refl
    at Abort own true same = refl
    at Abort own false same = refl
only_commit t who is pass p (Resolve r) tid ne = refl

-- ## What a Busy names

same_hold : (n m : ℕ) (hold : Hold) (t : Tid) (home : ℕ) (parts : List ℕ) → busy_by n hold ≡ answer.Busy m t home parts →
    hold ≡ record { tid = t; home = home; parts = parts }
same_hold n m hold t home parts is =
    let a : hold.tid ≡ t = cc in
    let b : hold.home ≡ home = cc in
    let c : hold.parts ≡ parts = cc in
    λ i. record { tid = a i; home = b i; parts = c i }

-- the hold that a Busy names stands in the store
abbrev pub Stands : StoreState → Tid → ℕ → List ℕ → Type 0
Stands s t home parts = (m : ℕ) × IsHeld (s.slot m) (record { tid = t; home = home; parts = parts })

stands_by : (s : StoreState) (m n k : ℕ) (hold : Hold) (t : Tid) (home : ℕ) (parts : List ℕ) → IsHeld (s.slot m) hold →
    busy_by n hold ≡ answer.Busy k t home parts → Stands s t home parts
stands_by s m n k hold t home parts held is =
    (m, subst (λ (x : Hold). IsHeld (s.slot m) x) (same_hold n k hold t home parts is) held)

first_held_some : (s : StoreState) (ns : List ℕ) (a : Answer) → first_held s ns ≡ Some a →
    (n : ℕ) × (held_by n (s.slot n).writer ≡ Some a)
first_held_some s [] a h = absurd cc
first_held_some s (n ∷ ns) a h = at (held_by n (s.slot n).writer) refl h (first_held_some s ns a)
  where
    at : (o : Option Answer) → held_by n (s.slot n).writer ≡ o → first_of o (first_held s ns) ≡ Some a →
        (first_held s ns ≡ Some a → (n : ℕ) × (held_by n (s.slot n).writer ≡ Some a)) →
        (n : ℕ) × (held_by n (s.slot n).writer ≡ Some a)
    at None is h rest = rest h
    at (Some x) is h rest = (n, is ∙ h)

module _ (s : StoreState) (n : ℕ) (t : Tid) (home : ℕ) (parts : List ℕ) where
  read_busy : (k : ℕ) (o : Option WriteHold) → (s.slot k).writer ≡ o →
      page_answer k (s.slot k) o ≡ answer.Busy n t home parts → Stands s t home parts
  read_busy k None w_is is = absurd cc
  read_busy k (Some w) w_is is = stands_by s k k n w.hold t home parts (inl (w, w_is, refl)) is

  held_busy : (k : ℕ) (o : Option WriteHold) → (s.slot k).writer ≡ o → held_by k o ≡ Some (answer.Busy n t home parts) →
      Stands s t home parts
  held_busy k None w_is is = absurd cc
  held_busy k (Some w) w_is is = stands_by s k k n w.hold t home parts (inl (w, w_is, refl)) cc

  look_busy : (ns : List ℕ) (o : Option Answer) → first_held s ns ≡ o →
      unwrap_or o (answer.Versions (versions_of s ns)) ≡ answer.Busy n t home parts → Stands s t home parts
  look_busy ns None o_is is = absurd cc
  look_busy ns (Some a) o_is is =
      let f = first_held_some s ns (answer.Busy n t home parts) (o_is ∙ ap (λ (x : Answer). Some x) is) in
      held_busy f.0 (s.slot f.0).writer refl f.1

  wrote_busy : (o : Outcome) → as_wrote o ≡ answer.Busy n t home parts → ⊥
  wrote_busy (Commit en) is = cc
  wrote_busy Abort is = cc

  write_busy : (u : Tid) (a : Answer) → refused_write a ≡ answer.Busy n t home parts → Cause s u a → Stands s t home parts
  write_busy u a is (decided_before o d a_is) = absurd (wrote_busy o (sym (ap refused_write a_is) ∙ is))
  write_busy u a is (IsEnded a_is) = absurd (let z = sym (ap refused_write a_is) ∙ is in cc)
  write_busy u a is (IsOwn m h a_is) = absurd (let z = sym (ap refused_write a_is) ∙ is in cc)
  write_busy u a is (IsBusy m hold h a_is) = stands_by s m m n hold t home parts h (sym (ap refused_write a_is) ∙ is)
  write_busy u a is (IsConflict m v by a_is) = absurd (let z = sym (ap refused_write a_is) ∙ is in cc)

  prepare_busy : (u : Tid) (a : Answer) → a ≡ answer.Busy n t home parts → Cause s u a → Stands s t home parts
  prepare_busy u a is (decided_before o d a_is) = absurd (let z = sym a_is ∙ is in cc)
  prepare_busy u a is (IsEnded a_is) = absurd (let z = sym a_is ∙ is in cc)
  prepare_busy u a is (IsOwn m h a_is) = absurd (let z = sym a_is ∙ is in cc)
  prepare_busy u a is (IsBusy m hold h a_is) = stands_by s m m n hold t home parts h (sym a_is ∙ is)
  prepare_busy u a is (IsConflict m v by a_is) = absurd (let z = sym a_is ∙ is in cc)

  pub busy_stands : (c : Command) → answer_of s c ≡ answer.Busy n t home parts → Stands s t home parts
  busy_stands Fresh is = absurd cc
  busy_stands (Read k) is = read_busy k (s.slot k).writer refl is
  busy_stands (Look ns) is = look_busy ns (first_held s ns) refl is
  busy_stands (Write x) is = at (write_refusal s x) refl is
    where
      at : (r : Option Answer) → write_refusal s x ≡ r → write_answer r ≡ answer.Busy n t home parts → Stands s t home parts
      at None r_is is = absurd cc
      at (Some a) r_is is = write_busy x.tid a is (write_cause s x a r_is)
  busy_stands (Prepare part) is = at (prepare_refusal s part) refl is
    where
      at : (r : Option Answer) → prepare_refusal s part ≡ r → unwrap_or r answer.Prepared ≡ answer.Busy n t home parts →
          Stands s t home parts
      at None r_is is = absurd cc
      at (Some a) r_is is = prepare_busy part.tid a is (prepare_cause s part a r_is)
  busy_stands (Decide d) is = absurd cc
  busy_stands (Resolve r) is = absurd cc

-- ## What a Page tells

pub record IsTold (s : StoreState) (p n v q : ℕ) (x : Option (List ℕ)) : Type 0 where
  pub store : q ≡ p
  pub version : (s.slot n).version ≡ v
  pub content : Some (s.slot n).content ≡ x

told_held : (s : StoreState) (p n v q : ℕ) (c : Command) (a : Answer) (x : Option (List ℕ)) → a ≡ answer_of s c →
    told_by p n v q c a ≡ Some x → IsTold s p n v q x
told_held s p n v q Fresh a x is h = absurd cc
told_held s p n v q (Look ns) a x is h = absurd cc
told_held s p n v q (Write y) a x is h = absurd cc
told_held s p n v q (Prepare part) a x is h = absurd cc
told_held s p n v q (Decide d) a x is h = absurd cc
told_held s p n v q (Resolve r) a x is h = absurd cc
told_held s p n v q (Read m) a x is h =
    at (s.slot m).writer (subst (λ (y : Answer). told_by p n v q (Read m) y ≡ Some x) is h)
  where
    at : (o : Option WriteHold) → told_by p n v q (Read m) (page_answer m (s.slot m) o) ≡ Some x → IsTold s p n v q x
    at None h =
        let a = cond_some ((q == p) && ((m == n) && ((s.slot m).version == v))) (Some (s.slot m).content) x h in
        let b = and_true (q == p) ((m == n) && ((s.slot m).version == v)) a.0 in
        let d = and_true (m == n) ((s.slot m).version == v) b.1 in
        let same : m ≡ n = eq_true m n d.0 in
        record {
          store = eq_true q p b.0;
          version = subst (λ k. (s.slot k).version ≡ v) same (eq_true (s.slot m).version v d.1);
          content = subst (λ k. Some (s.slot k).content ≡ x) same a.1;
        }
    at (Some w) h = absurd cc

first_more : (o : Origin) (es : List JEntry) (e : JEntry) (p n v : ℕ) (x : Option (List ℕ)) → first_at o es p n v ≡ Some x →
    first_at o (e ∷ es) p n v ≡ Some x
first_more o es e p n v x h = rw h refl

answered_before : (o : Origin) (es : List JEntry) (e : JEntry) → Answered o (e ∷ es) → Answered o es
answered_before o es (Took pass p c a) ans = ans.0
answered_before o es (Doubted pass p c) ans = ans
answered_before o es (Late p c a) ans = ans.0

told_now : (o : Origin) (es : List JEntry) (e : JEntry) (p n v : ℕ) (x : Option (List ℕ)) → Answered o (e ∷ es) →
    told_in p n v e ≡ Some x → first_at o es p n v ≡ Some x
told_now o es (Doubted pass q c) p n v x ans h = absurd cc
told_now o es (Late q c a) p n v x ans h = absurd cc
told_now o es (Took pass q c a) p n v x ans h =
    let t = told_held (replay o es q) p n v q c a x ans.1.given h in
    let now : first_at o es q n v ≡ Some x =
    subst (λ u. first_at o es q n u ≡ Some (Some ((replay o es q).slot n).content)) t.version (first_now o es q n) ∙
    ap (λ (y : Option (List ℕ)). Some y) t.content in
    subst (λ q. first_at o es q n v ≡ Some x) t.store now

told_found : (o : Origin) (who : ℕ) (es : List JEntry) → Answered o es → (p n v : ℕ) (x : Option (List ℕ)) →
    told_first p n v (own who es) ≡ Some x → first_at o es p n v ≡ Some x
told_found o who [] ans p n v x h = absurd cc
told_found o who (e ∷ es) ans p n v x h =
    at (is_of who e) h (λ h'. told_found o who es (answered_before o es e ans) p n v x h')
  where
    two : (y : Option (Option (List ℕ))) → told_first p n v (own who es) ≡ y → first_of y (told_in p n v e) ≡ Some x →
        (told_first p n v (own who es) ≡ Some x → first_at o es p n v ≡ Some x) → first_at o es p n v ≡ Some x
    two None is h rest = told_now o es e p n v x ans h
    two (Some y) is h rest = rest (is ∙ h)

    at : (b : Bool) → told_first p n v (cond b (e ∷ own who es) (own who es)) ≡ Some x →
        (told_first p n v (own who es) ≡ Some x → first_at o es p n v ≡ Some x) → first_at o (e ∷ es) p n v ≡ Some x
    at true h rest = first_more o es e p n v x (two (told_first p n v (own who es)) refl h rest)
    at false h rest = first_more o es e p n v x (rest h)

pub seen_found : (o : Origin) (who : ℕ) (es : List JEntry) → Answered o es → (p n v : ℕ) (x : Option (List ℕ)) →
    seen (own who es) p n v ≡ Some x → content_at o es p n v ≡ Some x
seen_found o who es ans p n v x h = at (v == 0) h
  where
    at : (b : Bool) → cond b (Some None) (told_first p n v (own who es)) ≡ Some x →
        cond b (Some None) (first_at o es p n v) ≡ Some x
    at true h = h
    at false h = told_found o who es ans p n v x h

-- what one's own entries show is in the journal
pub any_own : (f : JEntry → Bool) (who : ℕ) (es : List JEntry) → list_any f (own who es) ≡ true → list_any f es ≡ true
any_own f who [] h = h
any_own f who (e ∷ es) h = at (is_of who e) h (λ h'. any_own f who es h')
  where
    at : (b : Bool) → list_any f (cond b (e ∷ own who es) (own who es)) ≡ true →
        (list_any f (own who es) ≡ true → list_any f es ≡ true) → (f e || list_any f es) ≡ true
    at true h rest = elim (or_true (f e) (list_any f (own who es)) h) [
      | inl a ↦ rw a refl
      | inr b ↦ rw (rest b) (or_right (f e))
    ]
    at false h rest = rw (rest h) (or_right (f e))

module _ {S : Type 0} (stands : PageMap → S → Type 0) (next : S → List ℕ → Entry → S → Type 0) (o : Origin) where
  own_command : (known : ℕ → ℕ → ℕ → Option (Option (List ℕ))) (Plans : Tid → Plan → Type 0) (es : List JEntry) (pass p : ℕ)
      (c : Command) → IsFairBy stands next o.stores known Plans es pass p c → IsOwnCommand c pass
  own_command known Plans es pass p Fresh f = tt
  own_command known Plans es pass p (Read n) f = tt
  own_command known Plans es pass p (Look ns) f = tt
  own_command known Plans es pass p (Write x) f = f.of_pass.own
  own_command known Plans es pass p (Prepare part) f = f.of_pass.own
  own_command known Plans es pass p (Decide d) f = at d.outcome f
    where
      at : (out : Outcome) → DecisionFair stands next known Plans es pass p d.tid out →
          IsOwnDecision d.tid out pass
      at (Commit en) f = f.of_pass.own
      at Abort f = tt
  own_command known Plans es pass p (Resolve r) f = tt

  -- an entry of another pass has nothing of it
  not_found : {A : Type 0} (f : ℕ → Command → Option A) (who : ℕ) → IsOnly f who → (es : List JEntry) (e : JEntry) →
      IsMet stands next o es e → is_of who e ≡ false → found_in f e ≡ None
  not_found f who only es (Took pass p c a) met is =
      only pass p c (own_command (content_at o es) _ es pass p c met.1)
      (λ same. not_both (subst (λ x. (pass == x) ≡ true) same (eq_self pass)) is)
  not_found f who only es (Doubted pass p c) met is =
      only pass p c (own_command (content_at o es) _ es pass p c met)
      (λ same. not_both (subst (λ x. (pass == x) ≡ true) same (eq_self pass)) is)
  not_found f who only es (Late p c a) met is = refl

  pub found_own : {A : Type 0} (f : ℕ → Command → Option A) (who : ℕ) → IsOnly f who → (es : List JEntry) →
      IsLawful stands next o es → found f es ≡ found f (own who es)
  found_own f who only [] law = refl
  found_own f who only (e ∷ es) law =
      at (is_of who e) (not_found f who only es e law.1) (found_own f who only es law.0)
    where
      at : (b : Bool) → (b ≡ false → found_in f e ≡ None) → found f es ≡ found f (own who es) →
          first_of (found f es) (found_in f e) ≡ found f (cond b (e ∷ own who es) (own who es))
      at true none rest = ap (λ x. first_of x (found_in f e)) rest
      at false none rest = ap (first_of (found f es)) (none refl) ∙ (first_end (found f es) ∙ rest)

  -- ## A plan that one's own entries name is the plan that was asked

  planned_by : (es : List JEntry) (pass p : ℕ) (t : Tid) (plan : Plan) (c : Command) → plan_in t p c ≡ Some plan →
      IsAllowed stands next o es pass p c → first_of (plan_asked es t) (plan_in t p c) ≡ Some plan
  planned_by es pass p t plan Fresh h f = absurd cc
  planned_by es pass p t plan (Read n) h f = absurd cc
  planned_by es pass p t plan (Look ns) h f = absurd cc
  planned_by es pass p t plan (Write x) h f = absurd cc
  planned_by es pass p t plan (Prepare part) h f =
      let b = cond_some (is_same part.tid t) (plan_of part) plan h in
      let tid : part.tid ≡ t = same_true part.tid t b.0 in
      let again : first_of (plan_asked es t) (Some (plan_of part)) ≡ Some (plan_of part) =
      subst (λ (x : Tid). first_of (plan_asked es x) (Some (plan_of part)) ≡ Some (plan_of part)) tid
      (again_first (plan_asked es part.tid) (plan_of part) f.planned) in
      rw h (subst (λ (y : Plan). first_of (plan_asked es t) (Some y) ≡ Some y) b.1 again)
  planned_by es pass p t plan (Decide d) h f = absurd cc
  planned_by es pass p t plan (Resolve r) h f = absurd cc

  planned_now : (es : List JEntry) (e : JEntry) → IsMet stands next o es e → (t : Tid) (plan : Plan) →
      found_in (plan_in t) e ≡ Some plan → plan_asked (e ∷ es) t ≡ Some plan
  planned_now es (Late p c a) met t plan h = absurd cc
  planned_now es (Took pass p c a) met t plan h = planned_by es pass p t plan c h met.1
  planned_now es (Doubted pass p c) met t plan h = planned_by es pass p t plan c h met

  -- the plan of a transaction whose hold stands
  plan_held : (es : List JEntry) → IsLawful stands next o es → (p m : ℕ) (hold : Hold) →
      IsHeld ((replay o es p).slot m) hold →
      plan_asked es hold.tid ≡ Some (record { home = hold.home; parts = hold.parts })
  plan_held es law p m hold held = elim held [
    | inl w ↦ (let f = ok.writer w.0 w.1 in
        by f.ask (subst (λ (x : Hold). part_asked es x.tid p ≡ Some f.ask) w.2 f.is) (f.hold_is ∙ w.2))
    | inr within ↦ (let f = ok.reader hold within in by f.ask f.is f.hold_is)
  ]
    where
      ok : SlotOk es p m ((replay o es p).slot m)
      ok = (law_all stands next o es law).kept.slots p m

      by : (ask : Part) → part_asked es hold.tid p ≡ Some ask →
          record { tid = ask.tid; home = ask.home; parts = ask.parts } ≡ hold →
          plan_asked es hold.tid ≡ Some (record { home = hold.home; parts = hold.parts })
      by ask is same =
          ((asks stands next o es law).agree hold.tid p ask is).plan_is ∙
          ap (λ (x : Hold). Some (record { home = x.home; parts = x.parts })) same

  met_now : (es : List JEntry) (e : JEntry) → IsLawful stands next o es → IsMet stands next o es e → (t : Tid) (plan : Plan) →
      plan_met t e ≡ Some plan → plan_asked es t ≡ Some plan
  met_now es (Doubted pass p c) law met t plan h = absurd cc
  met_now es (Late p c a) law met t plan h = absurd cc
  met_now es (Took pass p c a) law met t plan h = by a h met.0.given
    where
      by : (a : Answer) → busy_plan t a ≡ Some plan → a ≡ answer_of (replay o es p) c → plan_asked es t ≡ Some plan
      by (answer.Fresh n) h is = absurd cc
      by (answer.Busy n holder home parts) h is =
          let b = cond_some (is_same holder t) (record { home = home; parts = parts }) plan h in
          let s = busy_stands (replay o es p) n holder home parts c (sym is) in
          let asked = plan_held es law p s.0 (record { tid = holder; home = home; parts = parts }) s.1 in
          subst (λ (x : Tid). plan_asked es x ≡ Some plan) (same_true holder t b.0) (asked ∙ ap (λ (x : Plan). Some x) b.1)
      by (answer.Page v content) h is = absurd cc
      by (answer.Versions vs) h is = absurd cc
      by answer.Wrote h is = absurd cc
      by (answer.Decided out) h is = absurd cc
      by answer.Ended h is = absurd cc
      by (answer.Conflict n v w) h is = absurd cc
      by answer.Prepared h is = absurd cc
      by answer.Resolved h is = absurd cc

  pub names_plan : (es : List JEntry) → IsLawful stands next o es → (who : ℕ) (t : Tid) (plan : Plan) →
      Names (own who es) t plan → plan_asked es t ≡ Some plan
  names_plan [] law who t plan h = absurd h
  names_plan (e ∷ es) law who t plan h = at (is_of who e) h (λ h'. names_plan es law.0 who t plan h')
    where
      at : (b : Bool) → Names (cond b (e ∷ own who es) (own who es)) t plan →
          (Names (own who es) t plan → plan_asked es t ≡ Some plan) → plan_asked (e ∷ es) t ≡ Some plan
      at true (inl h) rest = found_more (plan_in t) es e plan (rest h)
      at true (inr (inl h)) rest = planned_now es e law.1 t plan h
      at true (inr (inr h)) rest = found_more (plan_in t) es e plan (met_now es e law.0 law.1 t plan h)
      at false h rest = found_more (plan_in t) es e plan (rest h)
