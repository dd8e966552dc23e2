-- What a step leaves of a store and its log.
use Rattle.std.proofs.Common.{◌≡◌, ℕ, ◌+◌, Bool, true, false, List, [], ◌∷◌, ◌++◌, length, Option, Some, None, Result, Ok, Err}
use Rattle.std.proofs.Common.{unwrap_or, refl, ap, sym, ◌∙◌, subst, arith}
use Rattle.std.specs.Prelude.{OnOk, OnErr, IsTrue}
use Rattle.page_types.specs.declared.command.Command.{Command}
use Rattle.page_types.specs.declared.answer.Answer.{Answer}
use Rattle.page_types.specs.Stores.{StoreState}
use Rattle.page_types.specs.Obeys.{after, after_all, IsFormed}
use Rattle.page_store.specs.declared.store.Store.{Store}
use Rattle.page_store.specs.Shown.{state_of, obeyed_of, after_maybe, number_of, AreFormed}
use Rattle.paxos_group.specs.declared.fault.Appended.{Appended}
use Rattle.paxos_group.specs.declared.fault.GroupFault.{GroupFault}
use Rattle.paxos_group.specs.Formed.{list_of}
use Rattle.paxos_group.specs.Ledger.{Ledger, IsSettledNow, InDoubt, IsUnasked}
use Rattle.store_group.specs.declared.adopting.Settled.{Settled}
use Rattle.store_group.specs.Adopted.{AdoptsBoth, AdoptsLate}
use Rattle.store_group.proofs.Folding.{folds_late, folds_both, counts_late, counts_both}

-- a store that obeyed this log, from a first state
pub record Obeyed (first : StoreState) (store : Store) (log : List Command) : Type 0 where
  pub state : state_of store ≡ after_all first log
  pub count : obeyed_of store ≡ length log

pub at_ok : (own : Result (Unit {0}) GroupFault) (u : Unit {0}) (P : Type 0) → own ≡ Ok u → OnOk own P → P
at_ok own u P is h = subst (λ r. OnOk r P) is h

pub at_err : (own : Result (Unit {0}) GroupFault) (f : GroupFault) (P : Type 0) → own ≡ Err f → OnErr own P → P
at_err own f P is h = subst (λ r. OnErr r P) is h

pub both_obeyed : (first : StoreState) (old new : Store) (before now : Ledger Command) (late : Option Command) (c : Command)
    (a : Appended)
    (settled : Settled) → IsSettledNow before now c a → late ≡ before.pending → Obeyed first old before.log →
    AdoptsBoth old new late c settled → Obeyed first new now.log
both_obeyed first old new before now late c a settled is same o adopts = record {
  state = folds_both first (state_of old) (state_of new) before.log now.log before.pending c is.log o.state
      (adopts.state ∙ ap (λ d. after (after_maybe (state_of old) d) c) same);
  count = counts_both (obeyed_of old) (obeyed_of new) before.log now.log before.pending c is.log o.count
      (adopts.obeyed ∙ ap (λ d. obeyed_of old + number_of d + 1) same);
}

-- what a doubted command, or none, leaves of the log
abbrev pub LogAfter : Bool → Ledger Command → Ledger Command → Type 0
LogAfter true before now = now.log ≡ before.log ++ list_of before.pending
LogAfter false before now = now.log ≡ before.log

doubt_log : (late : Bool) (before now : Ledger Command) (c : Command) → InDoubt late before now c → LogAfter late before now
doubt_log true before now c d = d.log
doubt_log false before now c d = d.log

pub err_log : (doubted : Bool) (a : Appended) (before now : Ledger Command) (c : Command) →
    (IsTrue doubted → InDoubt a.late before now c) → (doubted ≡ false → IsUnasked before now a) → LogAfter a.late before now
err_log true a before now c d u = doubt_log a.late before now c (d refl)
err_log false a before now c d u =
    let none = u refl in
    subst (λ l. LogAfter l before now) (sym none.late) (ap (λ (l : Ledger Command). l.log) none.same)

pub late_obeyed : (settled : Bool) (first : StoreState) (old new : Store) (before now : Ledger Command) (late : Option Command)
    (result : Option (Command × Answer)) → LogAfter settled before now → late ≡ before.pending → Obeyed first old before.log →
    AdoptsLate old new late settled result → Obeyed first new now.log
late_obeyed true first old new before now late result is same o adopts = record {
  state = folds_late first (state_of old) (state_of new) before.log now.log before.pending is o.state
      (adopts.1 ∙ ap (λ d. after_maybe (state_of old) d) same);
  count = counts_late (obeyed_of old) (obeyed_of new) before.log now.log before.pending is o.count
      (adopts.2 ∙ ap (λ d. obeyed_of old + number_of d) same);
}
late_obeyed false first old new before now late result is same o adopts = record {
  state = adopts.1 ∙ (o.state ∙ ap (λ l. after_all first l) (sym is));
  count = adopts.2 ∙ (o.count ∙ ap (λ (l : List Command). length l) (sym is));
}

-- what is pending is formed
both_formed : (d : Option Command) (c : Command) → AreFormed d → IsFormed c → IsFormed (unwrap_or d c)
both_formed None c h k = k
both_formed (Some x) c h k = h

doubt_formed : (late : Bool) (before now : Ledger Command) (c : Command) → InDoubt late before now c → AreFormed before.pending →
    IsFormed c → AreFormed now.pending
doubt_formed true before now c d h k = subst AreFormed (sym d.pending) k
doubt_formed false before now c d h k = subst AreFormed (sym d.pending) (both_formed before.pending c h k)

pub err_formed : (doubted : Bool) (a : Appended) (before now : Ledger Command) (c : Command) →
    (IsTrue doubted → InDoubt a.late before now c) → (doubted ≡ false → IsUnasked before now a) → AreFormed before.pending →
    IsFormed c → AreFormed now.pending
err_formed true a before now c d u h k = doubt_formed a.late before now c (d refl) h k
err_formed false a before now c d u h k = subst AreFormed (sym (ap (λ (l : Ledger Command). l.pending) (u refl).same)) h
