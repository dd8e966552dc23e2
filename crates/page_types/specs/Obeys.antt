-- What a store obeys: the answer to each command, and what the store keeps after it. Where several answers fit, the first
-- in the order in which they stand here is given.
use Rattle.std.specs.Prelude.{ℕ, ◌+◌, ◌==◌, ◌&&◌, ◌||◌, if◌then◌else◌, Bool, true, false, List, [], ◌∷◌, map, Option, Some}
use Rattle.std.specs.Prelude.{None, is_some, unwrap_or, nat_lt, ⊤}
use Rattle.pair_types.specs.declared.slot.Tid.{Tid}
use Rattle.page_types.specs.declared.hold.Hold.{Hold}
use Rattle.page_types.specs.declared.hold.WriteHold.{WriteHold}
use Rattle.page_types.specs.declared.outcome.Outcome.{Outcome}
use Rattle.page_types.specs.declared.outcome.Outcome.TheVariants.{Commit, Abort}
use Rattle.page_types.specs.declared.versions.PageRead.{PageRead}
use Rattle.page_types.specs.declared.versions.PageWrite.{PageWrite}
use Rattle.page_types.specs.declared.command.Transaction.{Transaction}
use Rattle.page_types.specs.declared.command.Part.{Part}
use Rattle.page_types.specs.declared.command.Command.{Command}
use Rattle.page_types.specs.declared.command.Command.TheVariants.{Fresh, Read, Look, Write, Prepare, Decide, Resolve}
use Rattle.page_types.specs.declared.answer.Answer.{Answer}
use Rattle.page_types.specs.declared.answer.Answer.TheVariants as answer
use Rattle.page_types.specs.declared.answer.Answer.TheVariants.{Decided}
use Rattle.page_types.specs.Accesses.{is_same, read_at, written_at, AreAccesses}
use Rattle.page_types.specs.Asked.{first_of}
use Rattle.page_types.specs.Stores.{Kept, StoreState}

-- The reads and writes of a command, where it has some, are as accesses have to be.
abbrev pub IsFormed : Command → Type 0
IsFormed (Write x) = AreAccesses x.reads x.writes
IsFormed (Prepare part) = AreAccesses part.reads part.writes
IsFormed command = ⊤

-- ## Refusals: each is an answer where it fits, and none where it does not

-- what is answered first over what a command read, in rising number
abbrev pub first_over : (ℕ → ℕ → Option Answer) → List PageRead → Option Answer
first_over refused [] = None
first_over refused (r ∷ rs) = first_of (refused r.number r.version) (first_over refused rs)

abbrev pub busy_by : ℕ → Hold → Answer
busy_by number hold = answer.Busy number hold.tid hold.home hold.parts

-- a writer's hold of another transaction
abbrev pub other_writer : Tid → ℕ → Option WriteHold → Option Answer
other_writer tid number None = None
other_writer tid number (Some w) = if is_same w.hold.tid tid then None else Some (busy_by number w.hold)

-- transactions are in order by pass, and those of one pass by serial
abbrev pub is_before : Tid → Tid → Bool
is_before s t = nat_lt s.pass t.pass || ((s.pass == t.pass) && nat_lt s.serial t.serial)

abbrev pub sooner : Hold → Option Hold → Hold
sooner hold None = hold
sooner hold (Some other) = if is_before other.tid hold.tid then other else hold

-- among the readers' holds of other transactions, that of the least
abbrev pub other_reader : Tid → List Hold → Option Hold
other_reader tid [] = None
other_reader tid (hold ∷ holds) =
    if is_same hold.tid tid then other_reader tid holds else Some (sooner hold (other_reader tid holds))

abbrev pub busy_reader : ℕ → Option Hold → Option Answer
busy_reader number None = None
busy_reader number (Some hold) = Some (busy_by number hold)

-- another's writer's hold, or, where the page is to be written, another's reader's hold
abbrev pub busy_at : Tid → List PageWrite → ℕ → Kept → Option Answer
busy_at tid writes number kept =
    first_of (other_writer tid number kept.writer)
    (if is_some (written_at writes number) then busy_reader number (other_reader tid kept.readers) else None)

-- a hold of another transaction stands in the way, at the least number
abbrev pub busy : StoreState → Tid → List PageRead → List PageWrite → Option Answer
busy state tid reads writes = first_over (λ number version. busy_at tid writes number (state.slot number)) reads

abbrev pub conflict_at : ℕ → ℕ → Kept → Option Answer
conflict_at number version kept =
    if kept.version == version then None else Some (answer.Conflict number kept.version kept.by)

-- a page is not of the version that was read, at the least number
abbrev pub conflict : StoreState → List PageRead → Option Answer
conflict state reads = first_over (λ number version. conflict_at number version (state.slot number)) reads

abbrev pub decided_answer : Option Outcome → Option Answer
decided_answer None = None
decided_answer (Some outcome) = Some (answer.Decided outcome)

-- the transaction was decided here, or its part has ended
abbrev pub settled : StoreState → Tid → Option Answer
settled state tid = first_of (decided_answer (state.decided tid)) (if state.ended tid then Some answer.Ended else None)

-- ## Pages and versions

abbrev pub page_answer : ℕ → Kept → Option WriteHold → Answer
page_answer number kept None = answer.Page kept.version kept.content
page_answer number kept (Some w) = busy_by number w.hold

abbrev pub held_by : ℕ → Option WriteHold → Option Answer
held_by number None = None
held_by number (Some w) = Some (busy_by number w.hold)

-- the first of these numbers with a writer's hold
abbrev pub first_held : StoreState → List ℕ → Option Answer
first_held state [] = None
first_held state (number ∷ numbers) = first_of (held_by number (state.slot number).writer) (first_held state numbers)

abbrev pub versions_of : StoreState → List ℕ → List ℕ
versions_of state numbers = map (λ number. (state.slot number).version) numbers

abbrev pub look_answer : StoreState → List ℕ → Answer
look_answer state numbers = unwrap_or (first_held state numbers) (answer.Versions (versions_of state numbers))

-- ## A transaction of one store

-- why a Write changes nothing
abbrev pub write_refusal : StoreState → Transaction → Option Answer
write_refusal state x =
    first_of (settled state x.tid) (first_of (busy state x.tid x.reads x.writes) (conflict state x.reads))

-- a transaction that was committed here is answered again as it was
abbrev pub as_wrote : Outcome → Answer
as_wrote (Commit entry) = answer.Wrote
as_wrote Abort = answer.Decided Abort

abbrev pub refused_write : Answer → Answer
refused_write (Decided outcome) = as_wrote outcome
refused_write other = other

abbrev pub write_answer : Option Answer → Answer
write_answer None = answer.Wrote
write_answer (Some refusal) = refused_write refusal

abbrev pub written : Tid → Option (List ℕ) → Kept → Kept
written tid None kept = kept
written tid (Some page) kept = record kept { version = kept.version + 1; content = page; by = tid }

-- the decisions, with this one
abbrev pub deciding : (Tid → Option Outcome) → Tid → Outcome → Tid → Option Outcome
deciding decided tid outcome other = if is_same tid other then Some outcome else decided other

abbrev pub after_write : Option Answer → StoreState → Transaction → StoreState
after_write (Some refusal) state x = state
after_write None state x =
    record state {
      slot = λ number. written x.tid (written_at x.writes number) (state.slot number);
      decided = deciding state.decided x.tid (Commit x.entry);
    }

-- ## A part of a transaction of several stores

abbrev pub has_reader : Tid → List Hold → Bool
has_reader tid [] = false
has_reader tid (hold ∷ holds) = is_same hold.tid tid || has_reader tid holds

abbrev pub has_writer : Tid → Option WriteHold → Bool
has_writer tid None = false
has_writer tid (Some w) = is_same w.hold.tid tid

abbrev pub has_hold : Tid → Kept → Bool
has_hold tid kept = has_writer tid kept.writer || has_reader tid kept.readers

-- the transaction has a hold on a page that it reads here: it is prepared already
abbrev pub own_hold : StoreState → Tid → List PageRead → Option Answer
own_hold state tid reads =
    first_over (λ number version. if has_hold tid (state.slot number) then Some answer.Prepared else None) reads

-- why a Prepare changes nothing
abbrev pub prepare_refusal : StoreState → Part → Option Answer
prepare_refusal state part =
    first_of (settled state part.tid)
    (first_of (own_hold state part.tid part.reads)
    (first_of (busy state part.tid part.reads part.writes) (conflict state part.reads)))

abbrev pub hold_of : Part → Hold
hold_of part = record { tid = part.tid; home = part.home; parts = part.parts }

-- a writer's hold on what is written, a reader's on what is only read
abbrev pub holding : Hold → Option (List ℕ) → Option ℕ → Kept → Kept
holding hold (Some page) version kept = record kept { writer = Some (record { hold = hold; content = page }) }
holding hold None (Some version) kept = record kept { readers = hold ∷ kept.readers }
holding hold None None kept = kept

abbrev pub after_prepare : Option Answer → StoreState → Part → StoreState
after_prepare (Some refusal) state part = state
after_prepare None state part =
    record state {
      slot = λ number.
          holding (hold_of part) (written_at part.writes number) (read_at part.reads number) (state.slot number);
    }

-- ## Decisions

abbrev pub after_decide : Option Outcome → StoreState → Tid → Outcome → StoreState
after_decide (Some earlier) state tid outcome = state
after_decide None state tid outcome = record state { decided = deciding state.decided tid outcome }

-- ## The end of a part

-- the readers' holds of other transactions
abbrev pub without : Tid → List Hold → List Hold
without tid [] = []
without tid (hold ∷ holds) = if is_same hold.tid tid then without tid holds else hold ∷ without tid holds

-- the transaction's writer's hold goes: where it was committed the page is written
abbrev pub releasing : Tid → Bool → List ℕ → Kept → Kept
releasing tid true page kept =
    record kept {
      version = kept.version + 1;
      content = page;
      by = tid;
      readers = without tid kept.readers;
      writer = None;
    }
releasing tid false page kept = record kept { readers = without tid kept.readers; writer = None }

abbrev pub resolving : Tid → Bool → Option WriteHold → Kept → Kept
resolving tid commit None kept = record kept { readers = without tid kept.readers }
resolving tid commit (Some w) kept =
    if is_same w.hold.tid tid then releasing tid commit w.content kept
    else record kept { readers = without tid kept.readers }

abbrev pub ending : (Tid → Bool) → Tid → Tid → Bool
ending ended tid other = is_same tid other || ended other

abbrev pub after_resolve : StoreState → Tid → Bool → StoreState
after_resolve state tid commit =
    record state {
      slot = λ number. resolving tid commit (state.slot number).writer (state.slot number);
      ended = ending state.ended tid;
    }

-- ## The rule

-- what a command is answered
abbrev pub answer_of : StoreState → Command → Answer
answer_of state Fresh = answer.Fresh state.next
answer_of state (Read number) = page_answer number (state.slot number) (state.slot number).writer
answer_of state (Look numbers) = look_answer state numbers
answer_of state (Write x) = write_answer (write_refusal state x)
answer_of state (Prepare part) = unwrap_or (prepare_refusal state part) answer.Prepared
answer_of state (Decide d) = answer.Decided (unwrap_or (state.decided d.tid) d.outcome)
answer_of state (Resolve r) = answer.Resolved

-- what a store keeps after a command
abbrev pub after : StoreState → Command → StoreState
after state Fresh = record state { next = state.next + 1 }
after state (Read number) = state
after state (Look numbers) = state
after state (Write x) = after_write (write_refusal state x) state x
after state (Prepare part) = after_prepare (prepare_refusal state part) state part
after state (Decide d) = after_decide (state.decided d.tid) state d.tid d.outcome
after state (Resolve r) = after_resolve state r.tid r.commit

-- what a store keeps after commands, the oldest first
abbrev pub after_all : StoreState → List Command → StoreState
after_all state [] = state
after_all state (command ∷ commands) = after_all (after state command) commands
