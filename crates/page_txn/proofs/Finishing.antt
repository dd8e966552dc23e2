-- What was finished counts as a crossing, and nothing of it is the transaction's own.
use Rattle.std.proofs.Common.{◌≡◌, ℕ, ◌==◌, ◌||◌, Bool, true, false, List, [], ◌++◌, nat_lt}
use Rattle.std.proofs.Common.{refl, sym, ◌∙◌, subst, arith, inl, inr, get_or}
use Rattle.std.specs.Prelude.{All, Contains, MatchBool}
use Rattle.std.specs.List.{list_any, list_all}
use Rattle.std.proofs.lemmas.Bool.Decides.{nat_tests}
use Rattle.std.proofs.lemmas.List.Elements.{All-weaker, Contains-append_left, Contains-get_or}
use Rattle.std.proofs.lemmas.List.Folds.{list_any_none, list_any-from_Any}
use Rattle.std.proofs.lemmas.List.Sums.{list_all-from_AllPass}
use Rattle.pair_types.specs.declared.slot.Tid.{Tid}
use Rattle.page_types.specs.declared.command.Command.{Command}
use Rattle.page_types.specs.declared.command.Command.TheVariants.{Decide, Resolve}
use Rattle.page_types.specs.declared.answer.Answer.{Answer}
use Rattle.page_types.specs.declared.answer.Answer.TheVariants.{Busy, Conflict, Resolved}
use Rattle.page_types.specs.declared.journal.JEntry.{JEntry}
use Rattle.page_types.specs.declared.journal.JEntry.TheVariants.{Took, Doubted, Late}
use Rattle.page_types.specs.Accesses.{is_same}
use Rattle.page_types.specs.Asked.{Plan}
use Rattle.two_phase.specs.Endings.{Asks as AsksFor, IsEnd, Finished, end_of, abort_of}
use Rattle.two_phase.specs.Parts.{is_of_tid, carries}
use Rattle.two_phase.specs.Commits.{is_later, IsOfOther, cross_of, FinishedFirst}
use Rattle.two_phase.proofs.Basics.{eq_self, eq_true, same_self}
use Rattle.page_txn.specs.Causes.{ends_part, are_ended, tells_cross}
use Rattle.page_txn.specs.Asking.{AreForeign}
use Rattle.page_txn.proofs.Counting.{and_true}

-- ## What was finished is counted

any_in : (f : JEntry → Bool) (es : List JEntry) (e : JEntry) → Contains es e → f e ≡ true → list_any f es ≡ true
any_in f es e has is = list_any-from_Any f es (has.0, e, has.1, has.2, is)

all_in : (p : ℕ → Bool) (xs : List ℕ) → ((x : ℕ) → Contains xs x → p x ≡ true) → list_all p xs ≡ true
all_in p xs h = list_all-from_AllPass p xs (λ k d below. h (get_or xs k d) (Contains-get_or xs k d below))

-- a transaction that was finished has all its parts ended
finished_ended : (pass : ℕ) (holder : Tid) (plan : Plan) (commit : Bool) (part : List JEntry) →
    Finished pass holder plan commit part → are_ended holder plan.parts part ≡ true
finished_ended pass holder plan commit part f =
    all_in (λ here. list_any (ends_part holder here) part) plan.parts (λ here has.
    let e : JEntry = Took pass here (Resolve (end_of holder commit)) Resolved in
    let there : Contains (f.later ++ f.first) e = Contains-append_left f.later f.first e (f.ended here has) in
    let in_part : Contains part e = subst (λ (l : List JEntry). Contains l e) (sym f.is) there in
    any_in (ends_part holder here) part e in_part (rw (eq_self here, same_self holder) refl))

unfoldable pub is_hindrance : Answer → Bool
is_hindrance (Busy number holder home parts) = true
is_hindrance (Conflict number version by) = true
is_hindrance answer = false

module _ (own : Tid) (pass store : ℕ) where
  later_or : (holder : Tid) (plan : Plan) (part : List JEntry) (b : Bool) → is_later own holder ≡ b →
      MatchBool b (part ≡ []) ((commit : Bool) × Finished pass holder plan commit part) →
      (b || are_ended holder plan.parts part) ≡ true
  later_or holder plan part true is f = refl
  later_or holder plan part false is f = finished_ended pass holder plan f.0 part f.1

  -- what an answer tells is counted once it is finished
  pub told_cross : (answer : Answer) (part : List JEntry) → is_hindrance answer ≡ true →
      FinishedFirst pass own answer part → tells_cross own (cross_of own store answer) part store answer ≡ true
  unfolding is_hindrance
  told_cross (Busy number holder home parts) part h f =
      rw (
        eq_self store,
        eq_self number,
        same_self holder,
        later_or holder (record { home = home; parts = parts }) part (is_later own holder) refl f,
      ) refl
  told_cross (Conflict number version by) part h f = rw (eq_self store, eq_self number, eq_self version, same_self by) refl
  told_cross answer part h f = absurd cc

-- ## What was finished is another's

not_later : (own holder : Tid) → is_later own holder ≡ false → is_same holder own ≡ false
not_later own holder older = by_same (is_same holder own) refl
  where
    by_same : (b : Bool) → is_same holder own ≡ b → is_same holder own ≡ false
    by_same false is = is
    by_same true is = absurd (let both = and_true (holder.pass == own.pass) (holder.serial == own.serial) is in
        let serial : holder.serial ≡ own.serial = eq_true holder.serial own.serial both.1 in
        let below : nat_lt holder.serial own.serial ≡ false = rw serial (grind (arith, nat_tests)) in
        let later : is_later own holder ≡ true = rw (both.0, below) refl in
        (let no : true ≡ false = sym later ∙ older in cc))

pub asks_other : (own : Tid) (Here : ℕ → Type 0) (c : Command) (e : JEntry) → is_of_tid own c ≡ false → AsksFor Here c e →
    carries own e ≡ false
asks_other own Here c (Took pass p d a) h x = subst (λ (k : Command). is_of_tid own k ≡ false) (sym x.1) h
asks_other own Here c (Doubted pass p d) h x = subst (λ (k : Command). is_of_tid own k ≡ false) (sym x.1) h
asks_other own Here c (Late p d a) h x = absurd x

other_foreign : (own : Tid) (e : JEntry) → IsOfOther own e → carries own e ≡ false
other_foreign own e x = at x.2.1
  where
    apart : is_same x.0 own ≡ false
    apart = not_later own x.0 x.2.0

    at : IsEnd x.0 x.1 e → carries own e ≡ false
    at (inl y) = asks_other own (λ s. s ≡ x.1.home) (Decide (abort_of x.0)) e apart y
    at (inr y) = asks_other own (Contains x.1.parts) (Resolve (end_of x.0 y.0)) e apart y.1

-- nothing of what ends other transactions is asked for this one
pub others_foreign : (own : Tid) (part : List JEntry) → All (IsOfOther own) part → AreForeign own part
others_foreign own part h =
    list_any_none (carries own) part (All-weaker (IsOfOther own) (λ e. carries own e ≡ false) (other_foreign own) part h)
