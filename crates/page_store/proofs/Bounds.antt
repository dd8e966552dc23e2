-- No version and no next number rises by more than one at a command.
use Rattle.std.proofs.Common.{◌≡◌, ℕ, ◌+◌, ◌≤◌, ◌<◌, ◌^◌, Bool, true, false, cond, List, Option, Some, None, refl, arith, sym}
use Rattle.std.proofs.Common.{subst}
use Rattle.std.specs.Prelude.{if◌then◌else◌}
use Rattle.pair_types.specs.declared.slot.Tid.{Tid}
use Rattle.page_types.specs.declared.hold.Hold.{Hold}
use Rattle.page_types.specs.declared.hold.WriteHold.{WriteHold}
use Rattle.page_types.specs.declared.outcome.Outcome.{Outcome}
use Rattle.page_types.specs.declared.command.Transaction.{Transaction}
use Rattle.page_types.specs.declared.command.Part.{Part}
use Rattle.page_types.specs.declared.command.Decision.{Decision}
use Rattle.page_types.specs.declared.command.Resolution.{Resolution}
use Rattle.page_types.specs.declared.command.Command.{Command}
use Rattle.page_types.specs.declared.command.Command.TheVariants.{Fresh, Read, Look, Write, Prepare, Decide, Resolve}
use Rattle.page_types.specs.declared.answer.Answer.{Answer}
use Rattle.page_types.specs.Accesses.{is_same, read_at, written_at}
use Rattle.page_types.specs.Stores.{Kept, StoreState}
use Rattle.page_types.specs.Obeys.{after, after_write, after_prepare, after_decide, after_resolve, write_refusal, prepare_refusal}
use Rattle.page_types.specs.Obeys.{written, holding, hold_of, releasing, resolving, without}
use Rattle.page_store.specs.Keeps.{IsBounded}
use Rattle.page_store.specs.Shown.{after_maybe, number_of}

pub more : (k : ℕ) (s : StoreState) → IsBounded k s → IsBounded (k + 1) s
more k s b = record { versions = λ n. let v = b.versions n in omega arith; next = let v = b.next in omega arith }

written_by : (k : ℕ) (tid : Tid) (page : Option (List ℕ)) (kept : Kept) → kept.version ≤ k
    → (written tid page kept).version ≤ k + 1
written_by k tid None kept h = omega arith
written_by k tid (Some page) kept h = omega arith

wrote : (k : ℕ) (refusal : Option Answer) (s : StoreState) (x : Transaction) → IsBounded k s
    → IsBounded (k + 1) (after_write refusal s x)
wrote k (Some a) s x b = more k s b
wrote k None s x b = record {
  versions = λ n. written_by k x.tid (written_at x.writes n) (s.slot n) (b.versions n);
  next = let v = b.next in omega arith;
}

holding_by : (k : ℕ) (hold : Hold) (page : Option (List ℕ)) (version : Option ℕ) (kept : Kept) → kept.version ≤ k
    → (holding hold page version kept).version ≤ k + 1
holding_by k hold (Some page) version kept h = omega arith
holding_by k hold None (Some version) kept h = omega arith
holding_by k hold None None kept h = omega arith

prepared : (k : ℕ) (refusal : Option Answer) (s : StoreState) (part : Part) → IsBounded k s
    → IsBounded (k + 1) (after_prepare refusal s part)
prepared k (Some a) s part b = more k s b
prepared k None s part b = record {
  versions = λ n. holding_by k (hold_of part) (written_at part.writes n) (read_at part.reads n) (s.slot n) (b.versions n);
  next = let v = b.next in omega arith;
}

decided : (k : ℕ) (o : Option Outcome) (s : StoreState) (tid : Tid) (p : Outcome) → IsBounded k s
    → IsBounded (k + 1) (after_decide o s tid p)
decided k (Some a) s tid p b = more k s b
decided k None s tid p b = record { versions = λ n. let v = b.versions n in omega arith; next = let v = b.next in omega arith }

released_by : (k : ℕ) (tid : Tid) (own commit : Bool) (content : List ℕ) (kept : Kept) → kept.version ≤ k →
    (if own then releasing tid commit content kept else record kept { readers = without tid kept.readers }).version ≤ k + 1
released_by k tid true true content kept h = omega arith
released_by k tid true false content kept h = omega arith
released_by k tid false commit content kept h = omega arith

resolving_by : (k : ℕ) (tid : Tid) (commit : Bool) (w : Option WriteHold) (kept : Kept) → kept.version ≤ k
    → (resolving tid commit w kept).version ≤ k + 1
resolving_by k tid commit None kept h = omega arith
resolving_by k tid commit (Some w) kept h = released_by k tid (is_same w.hold.tid tid) commit w.content kept h

-- after one command
pub after_one : (k : ℕ) (s : StoreState) (command : Command) → IsBounded k s → IsBounded (k + 1) (after s command)
after_one k s Fresh b = record { versions = λ n. let v = b.versions n in omega arith; next = let v = b.next in omega arith }
after_one k s (Read number) b = more k s b
after_one k s (Look numbers) b = more k s b
after_one k s (Write x) b = wrote k (write_refusal s x) s x b
after_one k s (Prepare part) b = prepared k (prepare_refusal s part) s part b
after_one k s (Decide d) b = decided k (s.decided d.tid) s d.tid d.outcome b
after_one k s (Resolve r) b = record {
  versions = λ n. resolving_by k r.tid r.commit (s.slot n).writer (s.slot n) (b.versions n);
  next = let v = b.next in omega arith;
}

-- after a command, where there is one
pub after_first : (k : ℕ) (s : StoreState) (first : Option Command) → IsBounded (k + 1) s → IsBounded ((k + number_of first) + 1)
    (after_maybe s first)
after_first k s None b = record { versions = λ n. let v = b.versions n in omega arith; next = let v = b.next in omega arith }
after_first k s (Some command) b = after_one (k + 1) s command b

pub wider : (k l : ℕ) (s : StoreState) → k ≤ l → IsBounded k s → IsBounded l s
wider k l s le b = record { versions = λ n. let v = b.versions n in omega arith; next = let v = b.next in omega arith }

pub first_few : (k : ℕ) (first : Option Command) → k < 2 ^ 63 → (k + number_of first) + 1 ≤ 2 ^ 63 + 1
first_few k None few = omega arith
first_few k (Some command) few = omega arith
