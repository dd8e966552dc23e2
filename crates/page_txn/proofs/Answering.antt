-- What is answered to a transaction's commands, and that what is in the way is counted once it is finished.
use Rattle.std.proofs.Common.{◌≡◌, ℕ, ◌+◌, ◌≤◌, ◌==◌, Bool, true, false, cond, List, [], ◌∷◌, ◌++◌}
use Rattle.std.proofs.Common.{length, Option, Some, None, unwrap_or}
use Rattle.std.proofs.Common.{Result, Ok, Err, refl, ap, sym, ◌∙◌, subst, arith}
use Rattle.std.specs.Prelude.{All, Contains}
use Rattle.std.proofs.lemmas.List.Elements.{All-weaker, Contains-append_left, Contains-push}
use Rattle.std.proofs.lemmas.List.Folds.{list_any_none}
use Rattle.nfs3_types.specs.Count.{Rose}
use Rattle.pair_types.specs.declared.slot.Slot.{Slot}
use Rattle.pair_types.specs.declared.slot.Tid.{Tid}
use Rattle.pair_types.specs.declared.fault.Cross.{Cross}
use Rattle.pair_types.specs.declared.fault.PageFault.{PageFault}
use Rattle.pair_types.specs.declared.fault.PageFault.TheVariants.{Crossed, Step}
use Rattle.pair_types.specs.declared.fault.StepFault.{StepFault}
use Rattle.pair_types.specs.declared.fault.StepFault.TheVariants.{Doubt, NoMemory, Stopped}
use Rattle.pair_types.specs.PageState.{no_memory}
use Rattle.page_types.specs.declared.hold.WriteHold.{WriteHold}
use Rattle.page_types.specs.declared.command.Command.{Command}
use Rattle.page_types.specs.declared.command.Command.TheVariants.{Read, Look}
use Rattle.page_types.specs.declared.answer.Answer.{Answer}
use Rattle.page_types.specs.declared.answer.Answer.TheVariants.{Page, Versions}
use Rattle.page_types.specs.declared.journal.JEntry.{JEntry}
use Rattle.page_types.specs.declared.journal.JEntry.TheVariants.{Took, Doubted}
use Rattle.page_types.specs.Journals.{Origin}
use Rattle.page_types.specs.Asked.{first_of}
use Rattle.page_types.specs.Stores.{Kept}
use Rattle.page_types.specs.Obeys.{page_answer, held_by}
use Rattle.page_types.specs.Fair.{told_in, told_first, seen}
use Rattle.page_types.specs.Ports.{PortState, IsAnswer, IsWithin}
use Rattle.two_phase.specs.Tries.{IsCause, Retries, doubted, Tried}
use Rattle.two_phase.specs.Endings.{Asks as AsksFor}
use Rattle.two_phase.specs.Parts.{is_of_tid, carries}
use Rattle.two_phase.specs.Commits.{IsMet, Meets}
use Rattle.two_phase.proofs.Basics.{eq_self}
use Rattle.two_phase.proofs.Onwards.{onward_none, onward_on}
use Rattle.two_phase.proofs.Ended.{asks_tried, asks_fault, cause_of, cause_after}
use Rattle.two_phase.proofs.Meeting.{is_met}
use Rattle.steady_port.specs.Steady.{IsSteady}
use Rattle.page_txn.specs.declared.row.Row.{Row}
use Rattle.page_txn.specs.Causes.{crossings, tells_cross}
use Rattle.page_txn.specs.Since.{WasAnswered, answers_version}
use Rattle.page_txn.specs.Asking.{IsPageAnswer, is_page, is_versions, content_read, AreForeign, IsCounted}
use Rattle.page_txn.specs.Asking.{Asks, Refuses, IsRead}
use Rattle.page_txn.proofs.Counting.{counted_once}
use Rattle.page_txn.proofs.Finishing.{is_hindrance, told_cross, asks_other, others_foreign}
use Rattle.page_txn.proofs.Growing.{foreign_on}

-- ## Answers of a store

busy_or_page : (number : ℕ) (kept : Kept) (o : Option WriteHold) → is_page (page_answer number kept o) ≡ false →
    is_hindrance (page_answer number kept o) ≡ true
unfolding is_hindrance
busy_or_page number kept None h = absurd cc
busy_or_page number kept (Some w) h = refl

-- what is answered to a Read, and is no page, is in the way
pub read_hindered : (n number : ℕ) (a : Answer) → IsAnswer n (Read number) a → is_page a ≡ false → is_hindrance a ≡ true
read_hindered n number a g h =
    subst (λ (x : Answer). is_hindrance x ≡ true) g.given
    (busy_or_page number (g.state.slot number) (g.state.slot number).writer
    (subst (λ (x : Answer). is_page x ≡ false) (sym g.given) h))

-- what is answered to a Look at one page that a writer may hold
abbrev looked_one : ℕ → Option WriteHold → ℕ → Answer
looked_one number o version = unwrap_or (first_of (held_by number o) None) (Versions (version ∷ []))

busy_or_versions : (number : ℕ) (o : Option WriteHold) (version : ℕ) → is_versions (looked_one number o version) ≡ false →
    is_hindrance (looked_one number o version) ≡ true
unfolding is_hindrance
busy_or_versions number None version h = absurd cc
busy_or_versions number (Some w) version h = refl

pub look_hindered : (n number : ℕ) (a : Answer) → IsAnswer n (Look (number ∷ [])) a → is_versions a ≡ false →
    is_hindrance a ≡ true
look_hindered n number a g h =
    subst (λ (x : Answer). is_hindrance x ≡ true) g.given
    (busy_or_versions number (g.state.slot number).writer (g.state.slot number).version
    (subst (λ (x : Answer). is_versions x ≡ false) (sym g.given) h))

one_version : (number : ℕ) (o : Option WriteHold) (version : ℕ) (vs : List ℕ) → looked_one number o version ≡ Versions vs →
    length vs ≡ 1
one_version number None version vs is = let same : version ∷ [] ≡ vs = cc in subst (λ (l : List ℕ). length l ≡ 1) same refl
one_version number (Some w) version vs is = absurd cc

pub look_one_version : (n number : ℕ) (a : Answer) → IsAnswer n (Look (number ∷ [])) a → (vs : List ℕ) → a ≡ Versions vs →
    length vs ≡ 1
look_one_version n number a g vs is =
    one_version number (g.state.slot number).writer (g.state.slot number).version vs (g.given ∙ is)

-- ## Causes

pub counted_cause : (own : Tid) (old new : PortState) (f : StepFault) (part : List JEntry) → IsCause old new f part →
    IsCounted own old new (Step f)
counted_cause own old new Doubt part c apart = c.rose
counted_cause own old new NoMemory part c apart = absurd (apart refl)
counted_cause own old new Stopped part c apart = c

all_foreign : (own : Tid) (Here : ℕ → Type 0) (c : Command) (part : List JEntry) → is_of_tid own c ≡ false →
    All (AsksFor Here c) part → AreForeign own part
all_foreign own Here c part other h =
    list_any_none (carries own) part
    (All-weaker (AsksFor Here c) (λ e. carries own e ≡ false) (λ e x. asks_other own Here c e other x) part h)

module _ {A : Type 0} (Given : A → List JEntry → Type 0) (own : Tid) (old mid : PortState) (p : ℕ) (c : Command)
    (other : is_of_tid own c ≡ false) where
  pub tried_foreign : (a : Answer) (part : List JEntry) → Tried old.pass p c a part → AreForeign own part
  tried_foreign a part t =
      all_foreign own (λ s. s ≡ p) c part other (asks_tried (λ s. s ≡ p) old.pass p c a part refl t)

  -- the command was not answered
  pub asks_missed : (f : StepFault) → Retries old mid p c (Err f) → Asks Given own old mid (Err (Step f))
  asks_missed f r = record {
    part = r.part;
    onward = r.onward;
    foreign = all_foreign own (λ s. s ≡ p) c r.part other (asks_fault (λ s. s ≡ p) old mid p c f r.part refl r.ends);
    ends = counted_cause own old mid f r.part (cause_of old mid p c f r.part r.ends);
  }

  -- it was answered what is in the way, which was finished
  module _ (a : Answer) (r : Retries old mid p c (Ok a)) where
    pub may_finish : IsMet mid a
    may_finish = is_met mid old.pass p c a [] (doubted r.ends.0.times (Doubted old.pass p c) ++ old.mine)
        (r.onward.mine ∙ ap (λ (l : List JEntry). l ++ old.mine) r.ends.0.is)
        (subst (λ (o : Origin). IsWithin o.stores a) (sym r.onward.origin) r.ends.1.within)

    crossed_counted : (new : PortState) (crossed : Cross) (part : List JEntry) → new.mine ≡ part ++ mid.mine →
        tells_cross own crossed part p a ≡ true → IsCounted own old new (Crossed crossed)
    crossed_counted new crossed part is tells apart =
        let before : List JEntry = doubted r.ends.0.times (Doubted old.pass p c) in
        let whole : new.mine ≡ part ++ (Took old.pass p c a ∷ (before ++ old.mine)) =
        is ∙ ap (λ (l : List JEntry). part ++ l) (r.onward.mine ∙ ap (λ (l : List JEntry). l ++ old.mine) r.ends.0.is) in
        let once : 1 + crossings own crossed [] old.mine ≤ crossings own crossed [] new.mine =
        subst (λ (l : List JEntry). 1 + crossings own crossed [] old.mine ≤ crossings own crossed [] l) (sym whole)
        (counted_once own crossed part before old.mine old.pass p c a tells) in
        risen (crossings own crossed [] old.mine) (crossings own crossed [] new.mine) once
      where
        risen : (x y : ℕ) → 1 + x ≤ y → Rose x y
        risen x y h = omega (arith, h)

    pub asks_refused : (new : PortState) (fault : PageFault) → is_hindrance a ≡ true → Refuses mid new own p a fault →
        Asks Given own old new (Err fault)
    asks_refused new fault hindered x = record {
      part = x.part ++ r.part;
      onward = onward_on old mid new r.part x.part r.onward x.onward;
      foreign = foreign_on own x.part r.part x.foreign (tried_foreign a r.part r.ends.0);
      ends = at fault x;
    }
      where
        at : (fault : PageFault) → Refuses mid new own p a fault → IsCounted own old new fault
        at (Crossed crossed) x =
            let tells = told_cross own mid.pass p a x.part hindered x.ends.1 in
            crossed_counted new crossed x.part x.onward.mine
            (subst (λ (k : Cross). tells_cross own k x.part p a ≡ true) (sym x.ends.0) tells)
        at (Step f) x = counted_cause own old new f (x.part ++ r.part)
            (cause_after old mid new f r.part x.part r.onward x.ends)

-- ## What was read

first_in : (e : JEntry) (es : List JEntry) → Contains (e ∷ es) e
first_in e es = Contains-append_left (e ∷ []) es e (Contains-push [] e)

-- the answer to the newest command is that the slot has this version
answered_now : (s : Slot) (version pass : ℕ) (c : Command) (a : Answer) (before : List JEntry) →
    answers_version s version (Took pass s.store c a) ≡ true → WasAnswered s version (Took pass s.store c a ∷ before)
answered_now s version pass c a before h = rw h refl

module _ (own : Tid) (old new : PortState) (s : Slot) (a : Answer) where
  told_now : (row : Row) (content : List ℕ) → told_in s.store s.number row.version
      (Took old.pass s.store (Read s.number) (Page row.version content)) ≡ Some (Some content)
  told_now row content = rw (eq_self s.store, eq_self s.number, eq_self row.version) refl

  seen_now : (row : Row) (content : List ℕ) (es : List JEntry) →
      IsSteady (Took old.pass s.store (Read s.number) (Page row.version content) ∷ es) →
      row.content ≡ content_read row.version content →
      seen (Took old.pass s.store (Read s.number) (Page row.version content) ∷ es) s.store s.number row.version
      ≡ Some row.content
  seen_now row content es steady is = at (row.version == 0) is
    where
      at : (b : Bool) → row.content ≡ cond b None (Some content) →
          cond b (Some None) (first_of (told_first s.store s.number row.version es) (told_in s.store s.number row.version
          (Took old.pass s.store (Read s.number) (Page row.version content)))) ≡ Some row.content
      at true same = ap Some (sym same)
      at false same =
          steady.same (Took old.pass s.store (Read s.number) (Page row.version content))
          (first_in (Took old.pass s.store (Read s.number) (Page row.version content)) es) s.store s.number row.version
          (Some content) (told_now row content)
          ∙ ap Some (sym same)

  -- the page that was answered is known from now on
  pub asks_read : (row : Row) → Retries old new s.store (Read s.number) (Ok a) → IsPageAnswer a row → IsSteady new.mine →
      Asks (IsRead new.mine s) own old new (Ok row)
  asks_read row r page steady = record {
    part = r.part;
    onward = r.onward;
    foreign = tried_foreign (IsRead new.mine s) own old new s.store (Read s.number) refl a r.part r.ends.0;
    ends = record {
      unwritten = page.unwritten;
      answered = subst (λ (l : List JEntry). WasAnswered s row.version l) (sym whole)
          (answered_now s row.version old.pass (Read s.number) (Page row.version page.content) before
          (rw (eq_self s.store, eq_self s.number, eq_self row.version) refl));
      known_as = subst (λ (l : List JEntry). seen l s.store s.number row.version ≡ Some row.content) (sym mine)
          (seen_now row page.content (before ++ old.mine) (subst (λ (l : List JEntry). IsSteady l) mine steady)
          page.content_is);
    };
  }
    where
      before : List JEntry
      before = doubted r.ends.0.times (Doubted old.pass s.store (Read s.number))

      whole : r.part ≡ Took old.pass s.store (Read s.number) (Page row.version page.content)
          ∷ doubted r.ends.0.times (Doubted old.pass s.store (Read s.number))
      whole = r.ends.0.is ∙ ap (λ (x : Answer). Took old.pass s.store (Read s.number) x
          ∷ doubted r.ends.0.times (Doubted old.pass s.store (Read s.number))) page.is

      mine : new.mine ≡ Took old.pass s.store (Read s.number) (Page row.version page.content)
          ∷ (doubted r.ends.0.times (Doubted old.pass s.store (Read s.number)) ++ old.mine)
      mine = r.onward.mine ∙ ap (λ (l : List JEntry). l ++ old.mine) whole

  -- the version that was answered was answered
  pub asks_looked : (version : ℕ) → Retries old new s.store (Look (s.number ∷ [])) (Ok a) → a ≡ Versions (version ∷ []) →
      Asks (WasAnswered s) own old new (Ok version)
  asks_looked version r is = record {
    part = r.part;
    onward = r.onward;
    foreign = tried_foreign (WasAnswered s) own old new s.store (Look (s.number ∷ [])) refl a r.part r.ends.0;
    ends = subst (λ (l : List JEntry). WasAnswered s version l) (sym whole)
        (answered_now s version old.pass (Look (s.number ∷ [])) (Versions (version ∷ []))
        (doubted r.ends.0.times (Doubted old.pass s.store (Look (s.number ∷ []))))
        (rw (eq_self s.store, eq_self s.number, eq_self version) refl));
  }
    where
      whole : r.part ≡ Took old.pass s.store (Look (s.number ∷ [])) (Versions (version ∷ []))
          ∷ doubted r.ends.0.times (Doubted old.pass s.store (Look (s.number ∷ [])))
      whole = r.ends.0.is ∙ ap (λ (x : Answer). Took old.pass s.store (Look (s.number ∷ [])) x
          ∷ doubted r.ends.0.times (Doubted old.pass s.store (Look (s.number ∷ [])))) is

-- nothing is known of what was drawn
pub asks_drawn : {A : Type 0} (Given : A → List JEntry → Type 0) (own : Tid) (old new : PortState) (p : ℕ) (c : Command)
    (a : Answer) (x : A) → is_of_tid own c ≡ false → ((part : List JEntry) → Given x part) → Retries old new p c (Ok a) →
    Asks Given own old new (Ok x)
asks_drawn Given own old new p c a x other given r = record {
  part = r.part;
  onward = r.onward;
  foreign = tried_foreign Given own old new p c other a r.part r.ends.0;
  ends = given r.part;
}

-- ## What is in the way

module _ (old new : PortState) (own : Tid) (p : ℕ) (a : Answer) where
  pub refuses_ok : (crossed : Cross) → Meets old new own p a (Ok crossed) → Refuses old new own p a (Crossed crossed)
  refuses_ok crossed m =
      record { part = m.part; onward = m.onward; foreign = others_foreign own m.part m.asks; ends = m.ends }

  pub refuses_err : (f : StepFault) → Meets old new own p a (Err f) → Refuses old new own p a (Step f)
  refuses_err f m =
      record { part = m.part; onward = m.onward; foreign = others_foreign own m.part m.asks; ends = m.ends }

-- ## Calls

pub asks_lacking : {A : Type 0} (Given : A → List JEntry → Type 0) (own : Tid) (old : PortState) →
    Asks Given own old old (Err no_memory)
asks_lacking Given own old =
    record { part = []; onward = onward_none old; foreign = refl; ends = λ apart. absurd (apart refl) }

module _ {A : Type 0} (Given : A → List JEntry → Type 0) (own : Tid) (old mid : PortState) (s : Slot) where
  -- a Read
  module _ (a : Answer) (r : Retries old mid s.store (Read s.number) (Ok a)) where
    pub read_met : (b : Answer) → b ≡ a → IsMet mid b
    read_met b is = subst (λ (x : Answer). IsMet mid x) (sym is)
        (may_finish Given own old mid s.store (Read s.number) refl a r)

    pub read_refused : (new : PortState) (b : Answer) (fault : PageFault) → b ≡ a → is_page a ≡ false →
        Refuses mid new own s.store b fault → Asks Given own old new (Err fault)
    read_refused new b fault is no_page x =
        asks_refused Given own old mid s.store (Read s.number) refl a r new fault
        (read_hindered old.origin.stores s.number a r.ends.1 no_page)
        (subst (λ (y : Answer). Refuses mid new own s.store y fault) is x)

  pub read_missed : (f : StepFault) → Retries old mid s.store (Read s.number) (Err f) → Asks Given own old mid (Err (Step f))
  read_missed f r = asks_missed Given own old mid s.store (Read s.number) refl f r

  -- a Look at one page
  module _ (c : Command) (c_is : c ≡ Look (s.number ∷ [])) where
    looks : (result : Result Answer StepFault) → Retries old mid s.store c result →
        Retries old mid s.store (Look (s.number ∷ [])) result
    looks result r = subst (λ (k : Command). Retries old mid s.store k result) c_is r

    pub look_missed : (f : StepFault) → Retries old mid s.store c (Err f) → Asks Given own old mid (Err (Step f))
    look_missed f r = asks_missed Given own old mid s.store (Look (s.number ∷ [])) refl f (looks (Err f) r)

    module _ (a : Answer) (r : Retries old mid s.store c (Ok a)) where
      pub look_lengths : (vs : List ℕ) → a ≡ Versions vs → length vs ≡ 1
      look_lengths vs is = look_one_version old.origin.stores s.number a (looks (Ok a) r).ends.1 vs is

      pub look_met : (b : Answer) → b ≡ a → IsMet mid b
      look_met b is = subst (λ (x : Answer). IsMet mid x) (sym is)
          (may_finish Given own old mid s.store (Look (s.number ∷ [])) refl a (looks (Ok a) r))

      pub look_refused : (new : PortState) (b : Answer) (fault : PageFault) → b ≡ a → is_versions a ≡ false →
          Refuses mid new own s.store b fault → Asks Given own old new (Err fault)
      look_refused new b fault is no_versions x =
          asks_refused Given own old mid s.store (Look (s.number ∷ [])) refl a (looks (Ok a) r) new fault
          (look_hindered old.origin.stores s.number a (looks (Ok a) r).ends.1 no_versions)
          (subst (λ (y : Answer). Refuses mid new own s.store y fault) is x)

      pub look_answered : (version : ℕ) → a ≡ Versions (version ∷ []) → Asks (WasAnswered s) own old mid (Ok version)
      look_answered version is = asks_looked own old mid s a version (looks (Ok a) r) is
