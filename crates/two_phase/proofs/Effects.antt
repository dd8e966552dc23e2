-- What a pass's own entries tell of a transaction's effect.
use Rattle.std.proofs.Common.{◌≡◌, ℕ, zero, suc, ◌&&◌, Bool, true, false, List, [], ◌∷◌, ◌++◌, Option, Some, None, refl, ap}
use Rattle.std.proofs.Common.{sym, ◌∙◌, subst, cond, Err}
use Rattle.std.specs.Prelude.{⊤}
use Rattle.std.specs.List.{list_any, All}
use Rattle.std.proofs.lemmas.List.Elements.{All-head, All-tail}
use Rattle.pair_types.specs.declared.slot.Tid.{Tid}
use Rattle.pair_types.specs.declared.fault.StepFault.{StepFault}
use Rattle.pair_types.specs.declared.fault.StepFault.TheVariants as fault
use Rattle.nfs3_types.specs.declared.entry.Entry.{Entry}
use Rattle.page_types.specs.declared.outcome.Outcome.{Outcome}
use Rattle.page_types.specs.declared.outcome.Outcome.TheVariants.{Commit, Abort}
use Rattle.page_types.specs.declared.command.Transaction.{Transaction}
use Rattle.page_types.specs.declared.command.Decision.{Decision}
use Rattle.page_types.specs.declared.command.Command.{Command}
use Rattle.page_types.specs.declared.command.Command.TheVariants.{Fresh, Read, Look, Write, Prepare, Decide, Resolve}
use Rattle.page_types.specs.declared.answer.Answer.{Answer}
use Rattle.page_types.specs.declared.answer.Answer.TheVariants.{Wrote, Decided}
use Rattle.page_types.specs.declared.journal.JEntry.{JEntry}
use Rattle.page_types.specs.declared.journal.JEntry.TheVariants.{Took, Doubted, Late}
use Rattle.page_types.specs.Accesses.{is_same}
use Rattle.page_types.specs.Asked.{is_commit}
use Rattle.page_types.specs.Ports.{PortState}
use Rattle.two_phase.specs.Tries.{doubted, Tried, Ends}
use Rattle.two_phase.specs.Parts.{is_of_tid, carries}
use Rattle.two_phase.specs.Commits.{asks_effect, wrote_entry, decided_entry, effect_in, told_effect, listed, effects}
use Rattle.two_phase.specs.Commits.{AnsweredFor, SettledAgainst}
use Rattle.two_phase.proofs.Basics.{or_false, same_self}

listed_join : {A : Type 0} (o : Option A) (xs ys : List A) → listed o (xs ++ ys) ≡ listed o xs ++ ys
listed_join None xs ys = refl
listed_join (Some x) xs ys = refl

module _ (tid : Tid) where
  pub effects_join : (xs ys : List JEntry) → effects tid (xs ++ ys) ≡ effects tid xs ++ effects tid ys
  effects_join [] ys = refl
  effects_join (e ∷ xs) ys =
      ap (λ (l : List (Option Entry)). listed (told_effect tid e) l) (effects_join xs ys)
      ∙ listed_join (told_effect tid e) (effects tid xs) (effects tid ys)

  -- ## Entries of other transactions

  pub no_effect : (e : JEntry) → carries tid e ≡ false → told_effect tid e ≡ None
  no_effect (Took pass p Fresh a) h = refl
  no_effect (Took pass p (Read n) a) h = refl
  no_effect (Took pass p (Look ns) a) h = refl
  no_effect (Took pass p (Write x) a) h = rw h refl
  no_effect (Took pass p (Prepare x) a) h = refl
  no_effect (Took pass p (Decide d) a) h = rw h refl
  no_effect (Took pass p (Resolve r) a) h = refl
  no_effect (Doubted pass p c) h = refl
  no_effect (Late p c a) h = refl

  pub none_carried : (es : List JEntry) → list_any (carries tid) es ≡ false → effects tid es ≡ []
  none_carried [] h = refl
  none_carried (e ∷ es) h =
      let b = or_false (carries tid e) (list_any (carries tid) es) h in
      rw (no_effect e b.0) (none_carried es b.1)

  asks_none : (c : Command) → is_of_tid tid c ≡ false → asks_effect tid c ≡ false
  asks_none Fresh h = refl
  asks_none (Read n) h = refl
  asks_none (Look ns) h = refl
  asks_none (Write x) h = h
  asks_none (Prepare x) h = refl
  asks_none (Decide d) h = rw h refl
  asks_none (Resolve r) h = refl

  pub settled_before : (es : List JEntry) → list_any (carries tid) es ≡ false → SettledAgainst es tid
  settled_before [] h = tt
  settled_before (Took pass p c a ∷ es) h =
      let b = or_false (is_of_tid tid c) (list_any (carries tid) es) h in
      rw (asks_none c b.0) (settled_before es b.1)
  settled_before (Doubted pass p c ∷ es) h =
      let b = or_false (is_of_tid tid c) (list_any (carries tid) es) h in
      rw (asks_none c b.0) (settled_before es b.1)
  settled_before (Late p c a ∷ es) h =
      let b = or_false (is_of_tid tid c) (list_any (carries tid) es) h in settled_before es b.1

  pub doubts_none : (times pass p : ℕ) (c : Command) (es : List JEntry) →
      effects tid (doubted times (Doubted pass p c) ++ es) ≡ effects tid es
  doubts_none zero pass p c es = refl
  doubts_none (suc times) pass p c es = doubts_none times pass p c es

-- ## Entries that ask nothing of the transaction's effect

-- the entry asks nothing that may make the transaction take effect
abbrev pub Idle : Tid → JEntry → Type 0
Idle tid (Took pass p c a) = asks_effect tid c ≡ false
Idle tid (Doubted pass p c) = asks_effect tid c ≡ false
Idle tid (Late p c a) = ⊤

none_decided : (a : Answer) → decided_entry Abort a ≡ None
none_decided (Decided (Commit e)) = refl
none_decided (Decided Abort) = refl
none_decided a = refl

quiet_decide : (b : Bool) (out : Outcome) (a : Answer) → (b && is_commit out) ≡ false →
    cond b (decided_entry out a) None ≡ None
quiet_decide true (Commit e) a h = absurd cc
quiet_decide true Abort a h = none_decided a
quiet_decide false out a h = refl

quiet : (tid : Tid) (c : Command) (a : Answer) → asks_effect tid c ≡ false → effect_in tid c a ≡ None
quiet tid Fresh a h = refl
quiet tid (Read n) a h = refl
quiet tid (Look ns) a h = refl
quiet tid (Write x) a h = rw h refl
quiet tid (Prepare x) a h = refl
quiet tid (Decide d) a h = quiet_decide (is_same d.tid tid) d.outcome a h
quiet tid (Resolve r) a h = refl

told_idle : (tid : Tid) (e : JEntry) → Idle tid e → told_effect tid e ≡ None
told_idle tid (Took pass p c a) h = quiet tid c a h
told_idle tid (Doubted pass p c) h = refl
told_idle tid (Late p c a) h = refl

module _ (tid : Tid) where
  pub effects_idle : (part es : List JEntry) → All (Idle tid) part → effects tid (part ++ es) ≡ effects tid es
  effects_idle [] es h = refl
  effects_idle (e ∷ part) es h =
      rw (told_idle tid e (All-head (Idle tid) e part h)) (effects_idle part es (All-tail (Idle tid) e part h))

  pub settled_idle : (part es : List JEntry) → All (Idle tid) part → SettledAgainst es tid → SettledAgainst (part ++ es) tid
  settled_idle [] es h s = s
  settled_idle (Took pass p c a ∷ part) es h s =
      let idle : asks_effect tid c ≡ false = All-head (Idle tid) (Took pass p c a) part h in
      rw idle (settled_idle part es (All-tail (Idle tid) (Took pass p c a) part h) s)
  settled_idle (Doubted pass p c ∷ part) es h s =
      let idle : asks_effect tid c ≡ false = All-head (Idle tid) (Doubted pass p c) part h in
      rw idle (settled_idle part es (All-tail (Idle tid) (Doubted pass p c) part h) s)
  settled_idle (Late p c a ∷ part) es h s =
      settled_idle part es (All-tail (Idle tid) (Late p c a) part h) s

  -- a command that was never taken has no effect yet
  pub faulted_none : (old new : PortState) (p : ℕ) (c : Command) (f : StepFault) (part es : List JEntry) →
      Ends old new p c (Err f) part → effects tid (part ++ es) ≡ effects tid es
  faulted_none old new p c fault.Doubt part es x =
      ap (λ (l : List JEntry). effects tid (l ++ es)) x.0 ∙ doubts_none tid 8 old.pass p c es
  faulted_none old new p c fault.NoMemory part es x =
      ap (λ (l : List JEntry). effects tid (l ++ es)) x.is ∙ doubts_none tid x.times old.pass p c es
  faulted_none old new p c fault.Stopped part es x =
      ap (λ (l : List JEntry). effects tid (l ++ es)) x.0.is ∙ doubts_none tid x.0.times old.pass p c es

-- ## A transaction of one store

-- a Write that was answered Wrote is answered for, where nothing was before
pub answered_alone : (pass p : ℕ) (x : Transaction) (part es : List JEntry) → effects x.tid es ≡ [] →
    Tried pass p (Write x) Wrote part → AnsweredFor (part ++ es) x.tid x.entry
answered_alone pass p x part es none t =
    subst (λ (l : List JEntry). AnsweredFor (l ++ es) x.tid x.entry) (sym t.is)
    (rw (same_self x.tid)
    (ap (λ (l : List (Option Entry)). x.entry ∷ l) (doubts_none x.tid t.times pass p (Write x) es ∙ none)))

-- one that was refused is settled against
pub settled_alone : (pass p : ℕ) (x : Transaction) (a : Answer) (part es : List JEntry) → wrote_entry x.entry a ≡ None →
    Tried pass p (Write x) a part → SettledAgainst (part ++ es) x.tid
settled_alone pass p x a part es refused t =
    subst (λ (l : List JEntry). SettledAgainst (l ++ es) x.tid) (sym t.is) (rw (same_self x.tid) refused)

pub none_alone : (pass p : ℕ) (x : Transaction) (a : Answer) (part es : List JEntry) → effects x.tid es ≡ [] →
    wrote_entry x.entry a ≡ None → Tried pass p (Write x) a part → effects x.tid (part ++ es) ≡ []
none_alone pass p x a part es none refused t =
    subst (λ (l : List JEntry). effects x.tid (l ++ es) ≡ []) (sym t.is)
    (rw (same_self x.tid, refused) (doubts_none x.tid t.times pass p (Write x) es ∙ none))

-- ## A transaction of several stores

abbrev pub commit_of : Tid → Option Entry → Decision
commit_of tid served = record { tid = tid; outcome = Commit served }

module _ (pass home : ℕ) (tid : Tid) (served : Option Entry) (out : Outcome) (part es : List JEntry)
    (t : Tried pass home (Decide (commit_of tid served)) (Decided out) part) where
  pub answered_decide : is_commit out ≡ true → effects tid es ≡ [] → AnsweredFor (part ++ es) tid served
  answered_decide committed none =
      subst (λ (l : List JEntry). AnsweredFor (l ++ es) tid served) (sym t.is)
      (rw (same_self tid, committed)
      (ap (λ (l : List (Option Entry)). served ∷ l)
      (doubts_none tid t.times pass home (Decide (commit_of tid served)) es ∙ none)))

  pub none_aborted : is_commit out ≡ false → effects tid es ≡ [] → effects tid (part ++ es) ≡ []
  none_aborted aborted none =
      subst (λ (l : List JEntry). effects tid (l ++ es) ≡ []) (sym t.is)
      (rw (same_self tid, aborted) (doubts_none tid t.times pass home (Decide (commit_of tid served)) es ∙ none))

  pub settled_aborted : is_commit out ≡ false → SettledAgainst (part ++ es) tid
  settled_aborted aborted =
      subst (λ (l : List JEntry). SettledAgainst (l ++ es) tid) (sym t.is) (rw (same_self tid, aborted) refl)
