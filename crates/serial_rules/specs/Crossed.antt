-- Where other transactions crossed those of a pass, by its own entries, newest first.
use Rattle.std.specs.Prelude.{ℕ, ◌==◌, ◌&&◌, ◌||◌, not, if◌then◌else◌, Bool, true, false, List, [], ◌∷◌, ◌++◌, Option, Some, None}
use Rattle.std.specs.List.{list_any}
use Rattle.pair_types.specs.declared.slot.Tid.{Tid}
use Rattle.pair_types.specs.declared.fault.Cross.{Cross}
use Rattle.pair_types.specs.declared.fault.Cross.TheVariants as cross
use Rattle.page_types.specs.declared.outcome.Outcome.{Outcome}
use Rattle.page_types.specs.declared.outcome.Outcome.TheVariants.{Commit, Abort}
use Rattle.page_types.specs.declared.command.Command.{Command}
use Rattle.page_types.specs.declared.command.Command.TheVariants.{Read, Look, Write, Prepare, Decide, Resolve}
use Rattle.page_types.specs.declared.answer.Answer.{Answer}
use Rattle.page_types.specs.declared.answer.Answer.TheVariants.{Busy, Page, Versions, Decided, Ended, Conflict}
use Rattle.page_types.specs.declared.journal.JEntry.{JEntry}
use Rattle.page_types.specs.declared.journal.JEntry.TheVariants.{Took, Doubted}
use Rattle.page_types.specs.Accesses.{is_same, read_at}

-- what a command read of a page, where it is a Write or a Prepare
abbrev pub asked_version : Command → ℕ → Option ℕ
asked_version (Write x) number = read_at x.reads number
asked_version (Prepare part) number = read_at part.reads number
asked_version command number = None

-- the page at this version is among those that were looked at
abbrev pub looked : List ℕ → List ℕ → ℕ → ℕ → Bool
looked [] versions number version = false
looked (n ∷ ns) [] number version = false
looked (n ∷ ns) (v ∷ vs) number version = ((n == number) && (v == version)) || looked ns vs number version

abbrev pub answers_version : ℕ → ℕ → Command → Answer → Bool
answers_version number version (Read n) (Page v content) = (n == number) && (v == version)
answers_version number version (Look numbers) (Versions versions) = looked numbers versions number version
answers_version number version command answer = false

-- a Read or a Look was answered that the page is of this version
abbrev pub tells_version : ℕ → ℕ → ℕ → JEntry → Bool
tells_version here number version (Took pass store command answer) =
    (store == here) && answers_version number version command answer
tells_version here number version e = false

abbrev pub was_told : ℕ → ℕ → Option ℕ → List JEntry → Bool
was_told store number None es = false
was_told store number (Some version) es = list_any (tells_version store number version) es

abbrev pub is_busy_of : Tid → Cross → Bool
is_busy_of tid (cross.Busy slot holder) = is_same holder tid
is_busy_of tid other = false

abbrev pub ends_in : Tid → Command → Bool
ends_in tid (Decide d) = is_same d.tid tid && is_abort d.outcome
  where
    is_abort : Outcome → Bool
    is_abort (Commit entry) = false
    is_abort Abort = true
ends_in tid (Resolve r) = is_same r.tid tid
ends_in tid command = false

-- the pass asked an Abort or a Resolve of the transaction
abbrev pub ends : Tid → JEntry → Bool
ends tid (Took pass store command answer) = ends_in tid command
ends tid (Doubted pass store command) = ends_in tid command
ends tid e = false

-- the answer says that the command's own transaction was ended
abbrev pub ended_in : Command → Answer → Option Tid
ended_in (Prepare part) Ended = Some part.tid
ended_in (Prepare part) (Decided Abort) = Some part.tid
ended_in (Decide d) (Decided Abort) = commit_tid d.tid d.outcome
  where
    commit_tid : Tid → Outcome → Option Tid
    commit_tid tid (Commit entry) = Some tid
    commit_tid tid Abort = None
ended_in command answer = None

-- The crosses so far, the newest first, and the entries since the last of them.
pub record Crossing : Type 0 where
  pub crosses : List Cross
  pub since : List JEntry

abbrev pub aborted : Option Tid → List JEntry → Option Cross
aborted None earlier = None
aborted (Some tid) earlier = if list_any (ends tid) earlier then None else Some (cross.Aborted tid)

-- A cross by an answer that a pass got. Of another's transaction a Conflict counts where the version that was asked for had
-- been answered since the last cross, and a Busy once. That one's own transaction was ended counts where the pass did not
-- ask its end before.
abbrev pub cross_by : ℕ → List JEntry → Crossing → ℕ → Command → Answer → Option Cross
cross_by pass earlier c store command (Conflict number version by) =
    if not (by.pass == pass) && was_told store number (asked_version command number) c.since
    then Some (cross.Conflict (record { store = store; number = number }) version by) else None
cross_by pass earlier c store command (Busy number tid home parts) =
    if not (tid.pass == pass) && not (list_any (is_busy_of tid) c.crosses)
    then Some (cross.Busy (record { store = store; number = number }) tid) else None
cross_by pass earlier c store command answer = aborted (ended_in command answer) earlier

abbrev pub cross_in : ℕ → List JEntry → Crossing → JEntry → Option Cross
cross_in pass earlier c (Took asker store command answer) = cross_by pass earlier c store command answer
cross_in pass earlier c e = None

abbrev pub with_cross : Option Cross → JEntry → Crossing → Crossing
with_cross None e c = record c { since = e ∷ c.since }
with_cross (Some x) e c = record { crosses = x ∷ c.crosses; since = [] }

-- over a part of a pass's own entries, which follows these earlier ones
abbrev pub crossing : ℕ → List JEntry → List JEntry → Crossing
crossing pass earlier [] = record { crosses = []; since = [] }
crossing pass earlier (e ∷ part) =
    with_cross (cross_in pass (part ++ earlier) (crossing pass earlier part) e) e (crossing pass earlier part)

abbrev pub crossings : ℕ → List JEntry → List JEntry → List Cross
crossings pass earlier part = (crossing pass earlier part).crosses
