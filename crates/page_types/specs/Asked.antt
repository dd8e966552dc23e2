-- What a journal tells of transactions: what was asked for them first, and what was answered. Newest entry first.
use Rattle.std.specs.Prelude.{◌≡◌, ℕ, ◌==◌, ◌&&◌, not, if◌then◌else◌, Bool, true, false, List, [], ◌∷◌, Option, Some}
use Rattle.std.specs.Prelude.{None, ◌⊎◌}
use Rattle.std.specs.List.{list_any}
use Rattle.pair_types.specs.declared.slot.Tid.{Tid}
use Rattle.nfs3_types.specs.declared.entry.Entry.{Entry}
use Rattle.page_types.specs.declared.outcome.Outcome.{Outcome}
use Rattle.page_types.specs.declared.outcome.Outcome.TheVariants.{Commit, Abort}
use Rattle.page_types.specs.declared.command.Transaction.{Transaction}
use Rattle.page_types.specs.declared.command.Part.{Part}
use Rattle.page_types.specs.declared.command.Command.{Command}
use Rattle.page_types.specs.declared.command.Command.TheVariants.{Write, Prepare, Decide}
use Rattle.page_types.specs.declared.answer.Answer.{Answer}
use Rattle.page_types.specs.declared.answer.Answer.TheVariants.{Prepared, Decided, Busy}
use Rattle.page_types.specs.declared.journal.JEntry.{JEntry}
use Rattle.page_types.specs.declared.journal.JEntry.TheVariants.{Took, Doubted, Late}
use Rattle.page_types.specs.Accesses.{is_same}

-- the earlier of two, where there is one
abbrev pub first_of : {A : Type 0} → Option A → Option A → Option A
first_of None later = later
first_of (Some x) later = Some x

-- what f finds in a command that was asked at a store
abbrev pub found_in : {A : Type 0} → (ℕ → Command → Option A) → JEntry → Option A
found_in f (Took pass store command answer) = f store command
found_in f (Doubted pass store command) = f store command
found_in f (Late store command answer) = None

-- what it finds first
abbrev pub found : {A : Type 0} → (ℕ → Command → Option A) → List JEntry → Option A
found f [] = None
found f (e ∷ es) = first_of (found f es) (found_in f e)

-- the stores of a transaction, and the one at which it is decided
pub record Plan : Type 0 where
  pub home : ℕ
  pub parts : List ℕ

abbrev pub plan_of : Part → Plan
plan_of part = record { home = part.home; parts = part.parts }

-- a transaction that a store was asked to commit alone
pub record Alone : Type 0 where
  pub store : ℕ
  pub transaction : Transaction

abbrev pub part_in : Tid → ℕ → ℕ → Command → Option Part
part_in tid here store (Prepare part) = if (store == here) && is_same part.tid tid then Some part else None
part_in tid here store command = None

abbrev pub plan_in : Tid → ℕ → Command → Option Plan
plan_in tid store (Prepare part) = if is_same part.tid tid then Some (plan_of part) else None
plan_in tid store command = None

abbrev pub alone_in : Tid → ℕ → Command → Option Alone
alone_in tid store (Write x) = if is_same x.tid tid then Some (record { store = store; transaction = x }) else None
alone_in tid store command = None

abbrev pub entry_of : Outcome → Option (Option Entry)
entry_of (Commit entry) = Some entry
entry_of Abort = None

abbrev pub commit_in : Tid → ℕ → Command → Option (Option Entry)
commit_in tid store (Decide d) = if is_same d.tid tid then entry_of d.outcome else None
commit_in tid store command = None

-- the part that was asked of a store, the plan of a transaction, what one store was asked alone, and what a decision to
-- commit carried: the first time
abbrev pub part_asked : List JEntry → Tid → ℕ → Option Part
part_asked es tid store = found (part_in tid store) es

abbrev pub plan_asked : List JEntry → Tid → Option Plan
plan_asked es tid = found (plan_in tid) es

abbrev pub alone_asked : List JEntry → Tid → Option Alone
alone_asked es tid = found (alone_in tid) es

abbrev pub commit_asked : List JEntry → Tid → Option (Option Entry)
commit_asked es tid = found (commit_in tid) es

abbrev pub is_prepare_of : Tid → Command → Bool
is_prepare_of tid (Prepare part) = is_same part.tid tid
is_prepare_of tid command = false

abbrev pub is_decide_of : Tid → Command → Bool
is_decide_of tid (Decide decision) = is_same decision.tid tid
is_decide_of tid command = false

abbrev pub is_prepared : Answer → Bool
is_prepared Prepared = true
is_prepared answer = false

abbrev pub is_commit : Outcome → Bool
is_commit (Commit entry) = true
is_commit Abort = false

abbrev pub tells : Bool → Answer → Bool
tells true (Decided outcome) = is_commit outcome
tells false (Decided outcome) = not (is_commit outcome)
tells commit answer = false

-- the transaction's own pass was answered that the part is prepared
abbrev pub is_prepared_at : Tid → ℕ → JEntry → Bool
is_prepared_at tid here (Took pass store command answer) =
    (pass == tid.pass) && ((store == here) && (is_prepare_of tid command && is_prepared answer))
is_prepared_at tid here e = false

-- the pass was told at the home how the transaction was decided
abbrev pub is_told_at : ℕ → Tid → ℕ → Bool → JEntry → Bool
is_told_at who tid home commit (Took pass store command answer) =
    (pass == who) && ((store == home) && (is_decide_of tid command && tells commit answer))
is_told_at who tid home commit e = false

abbrev pub WasPrepared : List JEntry → Tid → ℕ → Type 0
WasPrepared es tid store = list_any (is_prepared_at tid store) es ≡ true

abbrev pub WasTold : List JEntry → ℕ → Tid → ℕ → Bool → Type 0
WasTold es pass tid home commit = list_any (is_told_at pass tid home commit) es ≡ true

abbrev pub busy_plan : Tid → Answer → Option Plan
busy_plan tid (Busy number holder home parts) =
    if is_same holder tid then Some (record { home = home; parts = parts }) else None
busy_plan tid answer = None

abbrev pub plan_met : Tid → JEntry → Option Plan
plan_met tid (Took pass store command answer) = busy_plan tid answer
plan_met tid e = None

-- These entries name this plan of a transaction: a Prepare of it, or a Busy that was answered. Two need not agree.
abbrev pub Names : List JEntry → Tid → Plan → Type 0
Names [] tid plan = ⊥
Names (e ∷ es) tid plan = Names es tid plan ⊎ ((found_in (plan_in tid) e ≡ Some plan) ⊎ (plan_met tid e ≡ Some plan))
