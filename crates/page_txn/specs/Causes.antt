-- How often each fault was answered, by a pass's own entries and counts. Newest entry first.
use Rattle.std.specs.Prelude.{ℕ, ◌+◌, ◌==◌, ◌&&◌, ◌||◌, Bool, false, if◌then◌else◌, List, [], ◌∷◌, None}
use Rattle.std.specs.List.{list_any, list_all}
use Rattle.pair_types.specs.declared.slot.Tid.{Tid}
use Rattle.pair_types.specs.declared.fault.Cross.{Cross}
use Rattle.pair_types.specs.declared.fault.Cross.TheVariants as cross
use Rattle.pair_types.specs.declared.fault.PageFault.{PageFault}
use Rattle.pair_types.specs.declared.fault.PageFault.TheVariants.{Crossed, Step}
use Rattle.pair_types.specs.declared.fault.StepFault.{StepFault}
use Rattle.pair_types.specs.declared.fault.StepFault.TheVariants.{Doubt, NoMemory, Stopped}
use Rattle.pair_types.specs.PageState.{PageState}
use Rattle.page_types.specs.declared.command.Command.{Command}
use Rattle.page_types.specs.declared.command.Command.TheVariants.{Resolve}
use Rattle.page_types.specs.declared.answer.Answer.{Answer}
use Rattle.page_types.specs.declared.answer.Answer.TheVariants.{Busy, Conflict}
use Rattle.page_types.specs.declared.journal.JEntry.{JEntry}
use Rattle.page_types.specs.declared.journal.JEntry.TheVariants.{Took}
use Rattle.page_types.specs.Accesses.{is_same}
use Rattle.page_types.specs.Ports.{PortState}
use Rattle.two_phase.specs.Commits.{is_later}
use Rattle.page_txn.specs.Rows.{Rows, reads_of, writes_of}

-- the entry ended the transaction's part at this store
abbrev pub ends_by : Tid → ℕ → ℕ → Command → Bool
ends_by tid here store (Resolve r) = (store == here) && is_same r.tid tid
ends_by tid here store command = false

abbrev pub ends_part : Tid → ℕ → JEntry → Bool
ends_part tid here (Took pass store command answer) = ends_by tid here store command
ends_part tid here e = false

-- each of these parts was ended in the entries
abbrev pub are_ended : Tid → List ℕ → List JEntry → Bool
are_ended tid parts es = list_all (λ here. list_any (ends_part tid here) es) parts

-- The answer tells that this was in the way, and a transaction that a Busy names was ended in the later entries, but for one
-- of the same pass that is not older, which no store names.
abbrev pub tells_cross : Tid → Cross → List JEntry → ℕ → Answer → Bool
tells_cross own (cross.Busy s tid) later store (Busy number holder home parts) =
    (s.store == store) && ((s.number == number) && (is_same tid holder
    && (is_later own holder || are_ended holder parts later)))
tells_cross own (cross.Conflict s version by) later store (Conflict number v writer) =
    (s.store == store) && ((s.number == number) && ((version == v) && is_same by writer))
tells_cross own crossed later store answer = false

abbrev pub is_crossing : Tid → Cross → List JEntry → JEntry → Bool
is_crossing own crossed later (Took pass store command answer) = tells_cross own crossed later store answer
is_crossing own crossed later e = false

-- how often it was answered, and then finished, in the entries; some later ones are known
abbrev pub crossings : Tid → Cross → List JEntry → List JEntry → ℕ
crossings own crossed later [] = 0
crossings own crossed later (e ∷ es) =
    (if is_crossing own crossed later e then 1 else 0) + crossings own crossed (e ∷ later) es

-- a crossing is counted where a command was answered so, and what was in the way was finished; a fault where a step was
abbrev pub step_faults : PortState → StepFault → ℕ
step_faults p Doubt = p.doubts
step_faults p NoMemory = 0
step_faults p Stopped = p.stops

abbrev pub faults_of : Tid → PortState → PageFault → ℕ
faults_of own p (Crossed crossed) = crossings own crossed [] p.mine
faults_of own p (Step fault) = step_faults p fault

-- what a transaction has read and written
abbrev pub state_by : Tid → PortState → Rows → PageState
state_by own p rows = record {
  stores = p.origin.stores;
  below = None;
  reads = reads_of rows;
  writes = writes_of rows;
  faults = faults_of own p;
}
