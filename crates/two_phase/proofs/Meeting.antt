-- What is in the way of a transaction, and that it is finished first.
use Rattle.std.proofs.Common.{◌≡◌, ℕ, ◌&&◌, Bool, true, false, List, [], ◌∷◌, ◌++◌, Ok, Err}
use Rattle.std.proofs.Common.{refl, sym, subst, inl, inr}
use Rattle.std.specs.Prelude.{All, Contains}
use Rattle.std.proofs.lemmas.List.Elements.{All-nil, All-weaker}
use Rattle.pair_types.specs.declared.slot.Tid.{Tid}
use Rattle.pair_types.specs.declared.fault.StepFault.{StepFault}
use Rattle.pair_types.specs.declared.fault.Cross.{Cross}
use Rattle.pair_types.specs.declared.fault.Cross.TheVariants as cross
use Rattle.page_types.specs.declared.command.Command.{Command}
use Rattle.page_types.specs.declared.command.Command.TheVariants.{Decide, Resolve}
use Rattle.page_types.specs.declared.answer.Answer.{Answer}
use Rattle.page_types.specs.declared.answer.Answer.TheVariants.{Busy, Conflict}
use Rattle.page_types.specs.declared.journal.JEntry.{JEntry}
use Rattle.page_types.specs.declared.journal.JEntry.TheVariants.{Took, Doubted, Late}
use Rattle.page_types.specs.Accesses.{is_same}
use Rattle.page_types.specs.Asked.{Plan, Names}
use Rattle.page_types.specs.Ports.{PortState, IsWithin}
use Rattle.two_phase.specs.Endings.{Asks, IsEnd, Finishes, abort_of, end_of}
use Rattle.two_phase.specs.Parts.{is_of_tid, carries}
use Rattle.two_phase.specs.Commits.{asks_effect, is_later, IsOfOther, IsMet, FinishesOther, Meets, cross_of, FinishedFirst}
use Rattle.two_phase.specs.Commits.{goes_on, GoesOn}
use Rattle.two_phase.proofs.Basics.{same_self}
use Rattle.two_phase.proofs.Onwards.{onward_none}
use Rattle.two_phase.proofs.Ended.{names_later}
use Rattle.two_phase.proofs.Effects.{Idle}

-- ## Entries by their command

module _ (Here : ℕ → Type 0) (tid : Tid) (c : Command) where
  pub idle_asks : (e : JEntry) → asks_effect tid c ≡ false → Asks Here c e → Idle tid e
  idle_asks (Took pass p d a) h x = subst (λ (k : Command). asks_effect tid k ≡ false) (sym x.1) h
  idle_asks (Doubted pass p d) h x = subst (λ (k : Command). asks_effect tid k ≡ false) (sym x.1) h
  idle_asks (Late p d a) h x = absurd x

  pub carries_asks : (e : JEntry) → is_of_tid tid c ≡ true → Asks Here c e → carries tid e ≡ true
  carries_asks (Took pass p d a) h x = subst (λ (k : Command). is_of_tid tid k ≡ true) (sym x.1) h
  carries_asks (Doubted pass p d) h x = subst (λ (k : Command). is_of_tid tid k ≡ true) (sym x.1) h
  carries_asks (Late p d a) h x = absurd x

  pub goes_asks : (e : JEntry) → goes_on tid c ≡ true → Asks Here c e → GoesOn tid e
  goes_asks (Took pass p d a) h x = subst (λ (k : Command). goes_on tid k ≡ true) (sym x.1) h
  goes_asks (Doubted pass p d) h x = subst (λ (k : Command). goes_on tid k ≡ true) (sym x.1) h
  goes_asks (Late p d a) h x = absurd x

and_false : (b : Bool) → (b && false) ≡ false
and_false true = refl
and_false false = refl

pub idle_end : (tid holder : Tid) (plan : Plan) (e : JEntry) → IsEnd holder plan e → Idle tid e
idle_end tid holder plan e (inl x) =
    idle_asks (λ s. s ≡ plan.home) tid (Decide (abort_of holder)) e (and_false (is_same holder tid)) x
idle_end tid holder plan e (inr x) = idle_asks (Contains plan.parts) tid (Resolve (end_of holder x.0)) e refl x.1

pub carries_end : (tid : Tid) (plan : Plan) (e : JEntry) → IsEnd tid plan e → carries tid e ≡ true
carries_end tid plan e (inl x) = carries_asks (λ s. s ≡ plan.home) tid (Decide (abort_of tid)) e (same_self tid) x
carries_end tid plan e (inr x) = carries_asks (Contains plan.parts) tid (Resolve (end_of tid x.0)) e (same_self tid) x.1

pub idle_other : (tid : Tid) (e : JEntry) → IsOfOther tid e → Idle tid e
idle_other tid e x = idle_end tid x.0 x.1 e x.2.1

-- ## A Busy that was answered

names_met : (pass p : ℕ) (c : Command) (n : ℕ) (holder : Tid) (home : ℕ) (parts : List ℕ) (es : List JEntry) →
    Names (Took pass p c (Busy n holder home parts) ∷ es) holder (record { home = home; parts = parts })
names_met pass p c n holder home parts es = inr (inr (rw (same_self holder) refl))

-- what a Busy names that was answered is known, whatever was done since
pub is_met : (s : PortState) (pass p : ℕ) (c : Command) (a : Answer) (later es : List JEntry) →
    s.mine ≡ later ++ (Took pass p c a ∷ es) → IsWithin s.origin.stores a → IsMet s a
is_met s pass p c (Busy n holder home parts) later es is w = record {
  names = subst (λ (l : List JEntry). Names l holder (record { home = home; parts = parts })) (sym is)
      (names_later later (Took pass p c (Busy n holder home parts) ∷ es) holder (record { home = home; parts = parts })
      (names_met pass p c n holder home parts es));
  home = w.0;
  parts = w.1;
}
is_met s pass p c a later es is w = tt

-- ## Finishing it

module _ (old new : PortState) (tid holder : Tid) (plan : Plan) where
  pub not_finished : is_later tid holder ≡ true → FinishesOther old old tid holder plan (Ok tt)
  not_finished later =
      record { part = []; onward = onward_none old; asks = All-nil (IsOfOther tid); ends = rw later refl }

  of_other : is_later tid holder ≡ false → (part : List JEntry) → All (IsEnd holder plan) part → All (IsOfOther tid) part
  of_other older part h =
      All-weaker (IsEnd holder plan) (IsOfOther tid) (λ e x. (holder, plan, (older, x))) part h

  pub other_finished : is_later tid holder ≡ false → (commit : Bool) → Finishes old new holder plan (Ok commit) →
      FinishesOther old new tid holder plan (Ok tt)
  other_finished older commit x = record {
    part = x.part;
    onward = x.onward;
    asks = of_other older x.part x.asks;
    ends = rw older (commit, x.ended);
  }

  pub other_faulted : is_later tid holder ≡ false → (f : StepFault) → Finishes old new holder plan (Err f) →
      FinishesOther old new tid holder plan (Err f)
  other_faulted older f x = record {
    part = x.part;
    onward = x.onward;
    asks = of_other older x.part x.asks;
    ends = x.ended;
  }

-- ## Meeting it

pub meets_none : (old : PortState) (tid : Tid) (p : ℕ) (a : Answer) (crossed : Cross) → crossed ≡ cross_of tid p a →
    FinishedFirst old.pass tid a [] → Meets old old tid p a (Ok crossed)
meets_none old tid p a crossed is finished =
    record { part = []; onward = onward_none old; asks = All-nil (IsOfOther tid); ends = (is, finished) }

pub aborted_cross : (tid : Tid) (p pass : ℕ) (a : Answer) → ((n v : ℕ) (by : Tid) → a ≡ Conflict n v by → ⊥) →
    ((n : ℕ) (holder : Tid) (home : ℕ) (parts : List ℕ) → a ≡ Busy n holder home parts → ⊥) →
    (cross.Aborted tid ≡ cross_of tid p a) × FinishedFirst pass tid a []
aborted_cross tid p pass (Conflict n v by) no_conflict no_busy = absurd (no_conflict n v by refl)
aborted_cross tid p pass (Busy n holder home parts) no_conflict no_busy = absurd (no_busy n holder home parts refl)
aborted_cross tid p pass a no_conflict no_busy = (refl, refl)

module _ (old new : PortState) (tid : Tid) (p n : ℕ) (holder : Tid) (home : ℕ) (parts : List ℕ) where
  pub meets_busy : (done : Unit) → FinishesOther old new tid holder (record { home = home; parts = parts }) (Ok done) →
      Meets old new tid p (Busy n holder home parts) (Ok (cross_of tid p (Busy n holder home parts)))
  meets_busy done x = record { part = x.part; onward = x.onward; asks = x.asks; ends = (refl, x.ends) }

  pub meets_fault : (f : StepFault) → FinishesOther old new tid holder (record { home = home; parts = parts }) (Err f) →
      Meets old new tid p (Busy n holder home parts) (Err f)
  meets_fault f x = record { part = x.part; onward = x.onward; asks = x.asks; ends = x.ends }
