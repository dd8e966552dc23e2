-- What a command does at its store to a transaction, and what its answer tells of that.
use Rattle.std.proofs.Common.{◌≡◌, Bool, true, false, cond, ◌&&◌, Option, Some, None, refl, ap, sym, ◌∙◌, subst, is_some}
use Rattle.std.proofs.Common.{is_none, unwrap_or}
use Rattle.pair_types.specs.declared.slot.Tid.{Tid}
use Rattle.nfs3_types.specs.declared.entry.Entry.{Entry}
use Rattle.page_types.specs.declared.outcome.Outcome.{Outcome}
use Rattle.page_types.specs.declared.outcome.Outcome.TheVariants.{Commit, Abort}
use Rattle.page_types.specs.declared.command.Transaction.{Transaction}
use Rattle.page_types.specs.declared.command.Command.{Command}
use Rattle.page_types.specs.declared.command.Command.TheVariants.{Fresh, Read, Look, Write, Prepare, Decide, Resolve}
use Rattle.page_types.specs.declared.answer.Answer.{Answer}
use Rattle.page_types.specs.declared.answer.Answer.TheVariants as answer
use Rattle.page_types.specs.Accesses.{is_same}
use Rattle.page_types.specs.Asked.{entry_of, is_commit}
use Rattle.page_types.specs.Stores.{StoreState}
use Rattle.page_types.specs.Obeys.{write_refusal, refused_write, write_answer, prepare_refusal, answer_of, after, after_write}
use Rattle.page_types.specs.Obeys.{after_prepare, after_decide}
use Rattle.serial_rules.specs.History.{is_wrote}
use Rattle.serial_rules.specs.Once.{tid_of}
use Rattle.serial_core.proofs.Basics.{same_true, same_self, not_both, none_some}
use Rattle.serial_core.proofs.Refusals.{write_free, Cause, write_cause}
use Rattle.serial_core.proofs.Refusals.{IsDecided, IsEnded, IsOwn, IsBusy, IsConflict}
use Rattle.serial_core.proofs.Commands.{no_effect}
use Rattle.two_phase.specs.Commits.{asks_effect, wrote_entry, decided_entry, effect_in}
use Rattle.call_accounts.specs.Calls.{served_by, call_in}

-- ## What a command asks for a transaction, and what was committed

-- with which entry it is to take effect, where the command asks that it do
abbrev pub asks_of : Tid → Command → Option (Option Entry)
asks_of t (Write x) = cond (is_same x.tid t) (Some x.entry) None
asks_of t (Decide d) = cond (is_same d.tid t) (entry_of d.outcome) None
asks_of t c = None

abbrev pub entry_at : Option Outcome → Option (Option Entry)
entry_at None = None
entry_at (Some out) = entry_of out

-- with which entry it was committed at the store
abbrev pub commit_at : StoreState → Tid → Option (Option Entry)
commit_at s t = entry_at (s.decided t)

-- with which entry a command's own transaction takes effect, in this state
abbrev pub gains : StoreState → Command → Option (Option Entry)
gains s (Write x) = cond (is_wrote (answer_of s (Write x)) && is_none (s.decided x.tid)) (Some x.entry) None
gains s (Decide d) = cond (is_none (s.decided d.tid)) (entry_of d.outcome) None
gains s c = None

abbrev pub joined : Option (Option Entry) → Option Entry
joined None = None
joined (Some en) = en

pub asks_is : (t : Tid) (c : Command) → asks_effect t c ≡ is_some (asks_of t c)
asks_is t Fresh = refl
asks_is t (Read n) = refl
asks_is t (Look ns) = refl
asks_is t (Write x) = at (is_same x.tid t)
  where
    at : (b : Bool) → b ≡ is_some (cond b (Some x.entry) None)
    at true = refl
    at false = refl
asks_is t (Prepare part) = refl
asks_is t (Decide d) = at (is_same d.tid t) d.outcome
  where
    at : (b : Bool) (out : Outcome) → (b && is_commit out) ≡ is_some (cond b (entry_of out) None)
    at true (Commit en) = refl
    at true Abort = refl
    at false out = refl
asks_is t (Resolve r) = refl

is_some_not : {A : Type 0} (o : Option A) → is_some o ≡ false → o ≡ None
is_some_not None h = refl
is_some_not (Some x) h = absurd cc

is_some_yes : {A : Type 0} (o : Option A) → is_some o ≡ true → (x : A) × (o ≡ Some x)
is_some_yes None h = absurd cc
is_some_yes (Some x) h = (x, refl)

pub asks_none : (t : Tid) (c : Command) → asks_effect t c ≡ false → asks_of t c ≡ None
asks_none t c h = is_some_not (asks_of t c) (sym (asks_is t c) ∙ h)

pub asks_some : (t : Tid) (c : Command) → asks_effect t c ≡ true → (en : Option Entry) × (asks_of t c ≡ Some en)
asks_some t c h = is_some_yes (asks_of t c) (sym (asks_is t c) ∙ h)

pub call_is : (t : Tid) (c : Command) → call_in t c ≡ joined (asks_of t c)
call_is t Fresh = refl
call_is t (Read n) = refl
call_is t (Look ns) = refl
call_is t (Write x) = at (is_same x.tid t)
  where
    at : (b : Bool) → cond b x.entry None ≡ joined (cond b (Some x.entry) None)
    at true = refl
    at false = refl
call_is t (Prepare part) = refl
call_is t (Decide d) = at (is_same d.tid t) d.outcome
  where
    at : (b : Bool) (out : Outcome) → cond b (served_by out) None ≡ joined (cond b (entry_of out) None)
    at true (Commit en) = refl
    at true Abort = refl
    at false out = refl
call_is t (Resolve r) = refl

-- ## What the answer tells

-- what was asked, where the transaction is committed
abbrev pub told_if : Option (Option Entry) → Option (Option Entry) → Option (Option Entry)
told_if None committed = None
told_if (Some en) None = None
told_if (Some en) (Some other) = Some en

told_write : (s : StoreState) (x : Transaction) →
    wrote_entry x.entry (answer_of s (Write x)) ≡ told_if (Some x.entry) (commit_at (after s (Write x)) x.tid)
told_write s x = by (s.decided x.tid) refl
  where
    refused : (a : Answer) → s.decided x.tid ≡ None → Cause s x.tid a →
        wrote_entry x.entry (refused_write a) ≡ told_if (Some x.entry) (commit_at s x.tid)
    refused a none (IsDecided o d is) = absurd (none_some none d)
    refused a none (IsEnded is) = rw (is, none) refl
    refused a none (IsOwn n h is) = rw (is, none) refl
    refused a none (IsBusy n hold h is) = rw (is, none) refl
    refused a none (IsConflict n v u is) = rw (is, none) refl

    at : (r : Option Answer) → write_refusal s x ≡ r → s.decided x.tid ≡ None →
        wrote_entry x.entry (write_answer r) ≡ told_if (Some x.entry) (commit_at (after_write r s x) x.tid)
    at None is none = rw (same_self x.tid) refl
    at (Some a) is none = refused a none (write_cause s x a is)

    by : (d : Option Outcome) → s.decided x.tid ≡ d →
        wrote_entry x.entry (answer_of s (Write x)) ≡ told_if (Some x.entry) (commit_at (after s (Write x)) x.tid)
    by None is = at (write_refusal s x) refl is
    by (Some (Commit en)) is = rw is (rw is refl)
    by (Some Abort) is = rw is (rw is refl)

pub told : (s : StoreState) (c : Command) (t : Tid) →
    effect_in t c (answer_of s c) ≡ told_if (asks_of t c) (commit_at (after s c) t)
told s Fresh t = refl
told s (Read n) t = refl
told s (Look ns) t = refl
told s (Write x) t = at (is_same x.tid t) refl
  where
    at : (b : Bool) → is_same x.tid t ≡ b →
        cond b (wrote_entry x.entry (answer_of s (Write x))) None ≡
        told_if (cond b (Some x.entry) None) (commit_at (after s (Write x)) t)
    at true is =
        subst (λ (u : Tid). wrote_entry x.entry (answer_of s (Write x)) ≡
        told_if (Some x.entry) (commit_at (after s (Write x)) u)) (same_true x.tid t is) (told_write s x)
    at false is = refl
told s (Prepare part) t = refl
told s (Decide d) t = at (is_same d.tid t) refl
  where
    own : (o : Option Outcome) (out : Outcome) → s.decided d.tid ≡ o →
        decided_entry out (answer.Decided (unwrap_or o out)) ≡
        told_if (entry_of out) (commit_at (after_decide o s d.tid out) d.tid)
    own None (Commit en) is = rw (same_self d.tid) refl
    own None Abort is = refl
    own (Some (Commit en)) (Commit em) is = rw is refl
    own (Some (Commit en)) Abort is = refl
    own (Some Abort) (Commit em) is = rw is refl
    own (Some Abort) Abort is = refl

    at : (b : Bool) → is_same d.tid t ≡ b →
        cond b (decided_entry d.outcome (answer_of s (Decide d))) None ≡
        told_if (cond b (entry_of d.outcome) None) (commit_at (after s (Decide d)) t)
    at true is =
        subst (λ (u : Tid). decided_entry d.outcome (answer_of s (Decide d)) ≡
        told_if (entry_of d.outcome) (commit_at (after s (Decide d)) u)) (same_true d.tid t is)
        (own (s.decided d.tid) d.outcome refl)
    at false is = refl
told s (Resolve r) t = refl

-- ## What changes

-- A command leaves what was committed of the transaction, and then it does not take effect; or it commits it.
pub data Turn (s : StoreState) (c : Command) (t : Tid) : Type 0 where
  Stays : commit_at (after s c) t ≡ commit_at s t → (tid_of c ≡ Some t → gains s c ≡ None) → Turn s c t
  Takes : (en : Option Entry) → asks_of t c ≡ Some en → commit_at s t ≡ None → commit_at (after s c) t ≡ Some en →
      gains s c ≡ Some en → Turn s c t

-- the other transactions
apart : (u t : Tid) → is_same u t ≡ false → Some u ≡ Some t → ⊥
apart u t is same =
    let one : u ≡ t = cc in not_both (subst (λ (v : Tid). is_same u v ≡ true) one (same_self u)) is

turn_write : (s : StoreState) (x : Transaction) → Turn s (Write x) x.tid
turn_write s x = at (write_refusal s x) refl
  where
    at : (r : Option Answer) → write_refusal s x ≡ r → Turn s (Write x) x.tid
    at None is =
        let none = (write_free s x is).decided in
        Takes x.entry (rw (same_self x.tid) refl) (rw none refl) (rw (is, same_self x.tid) refl) (rw (is, none) refl)
    at (Some a) is = Stays (rw is refl)
        (λ _. rw (no_effect s x a (answer_of s (Write x)) (rw is refl) (write_cause s x a is)) refl)

turn_decide : (s : StoreState) (u : Tid) (out : Outcome) → Turn s (Decide (record { tid = u; outcome = out })) u
turn_decide s u out = at (s.decided u) refl out
  where
    at : (o : Option Outcome) → s.decided u ≡ o → (out : Outcome) → Turn s (Decide (record { tid = u; outcome = out })) u
    at None is (Commit en) =
        Takes en (rw (same_self u) refl) (rw is refl) (rw (is, same_self u) refl) (rw is refl)
    at None is Abort = Stays (rw (is, same_self u) refl) (λ _. rw is refl)
    at (Some o) is out = Stays (rw is (ap entry_at is)) (λ _. rw is refl)

pub turn : (s : StoreState) (c : Command) (t : Tid) → Turn s c t
turn s Fresh t = Stays refl (λ _. refl)
turn s (Read n) t = Stays refl (λ _. refl)
turn s (Look ns) t = Stays refl (λ _. refl)
turn s (Write x) t = at (is_same x.tid t) refl
  where
    other : (r : Option Answer) → is_same x.tid t ≡ false → commit_at (after_write r s x) t ≡ commit_at s t
    other None is = rw is refl
    other (Some a) is = refl

    at : (b : Bool) → is_same x.tid t ≡ b → Turn s (Write x) t
    at true is = subst (λ (u : Tid). Turn s (Write x) u) (same_true x.tid t is) (turn_write s x)
    at false is = Stays (other (write_refusal s x) is) (λ same. absurd (apart x.tid t is same))
turn s (Prepare part) t = Stays (at (prepare_refusal s part)) (λ _. refl)
  where
    at : (r : Option Answer) → commit_at (after_prepare r s part) t ≡ commit_at s t
    at None = refl
    at (Some a) = refl
turn s (Decide d) t = at (is_same d.tid t) refl
  where
    other : (o : Option Outcome) → is_same d.tid t ≡ false → commit_at (after_decide o s d.tid d.outcome) t ≡ commit_at s t
    other None is = rw is refl
    other (Some a) is = refl

    at : (b : Bool) → is_same d.tid t ≡ b → Turn s (Decide d) t
    at true is = subst (λ (u : Tid). Turn s (Decide d) u) (same_true d.tid t is) (turn_decide s d.tid d.outcome)
    at false is = Stays (other (s.decided d.tid) is) (λ same. absurd (apart d.tid t is same))
turn s (Resolve r) t = Stays refl (λ _. refl)

-- what takes effect was asked to
pub gains_asked : (s : StoreState) (c : Command) (en : Option Entry) → gains s c ≡ Some en →
    (u : Tid) × (tid_of c ≡ Some u) × (asks_of u c ≡ Some en)
gains_asked s Fresh en h = absurd cc
gains_asked s (Read n) en h = absurd cc
gains_asked s (Look ns) en h = absurd cc
gains_asked s (Prepare part) en h = absurd cc
gains_asked s (Resolve r) en h = absurd cc
gains_asked s (Write x) en h = (x.tid, refl, at (is_wrote (answer_of s (Write x)) && is_none (s.decided x.tid)) h)
  where
    at : (b : Bool) → cond b (Some x.entry) None ≡ Some en → cond (is_same x.tid x.tid) (Some x.entry) None ≡ Some en
    at true h = rw (same_self x.tid) h
    at false h = absurd cc
gains_asked s (Decide d) en h = (d.tid, refl, at (is_none (s.decided d.tid)) h)
  where
    at : (b : Bool) → cond b (entry_of d.outcome) None ≡ Some en →
        cond (is_same d.tid d.tid) (entry_of d.outcome) None ≡ Some en
    at true h = rw (same_self d.tid) h
    at false h = absurd cc
