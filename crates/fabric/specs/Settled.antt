-- What a journal, newest entry first, tells of one store: the commands that it obeyed; and how many steps were taken.
use Rattle.std.specs.Prelude.{ℕ, ◌+◌, ◌-◌, ◌^◌, ◌==◌, min, if◌then◌else◌, Bool, true, false, List, [], ◌∷◌, Result, Ok, Err}
use Rattle.pair_types.specs.declared.fault.StepFault.{StepFault}
use Rattle.pair_types.specs.declared.fault.StepFault.TheVariants as fault
use Rattle.page_types.specs.declared.command.Command.{Command}
use Rattle.page_types.specs.declared.answer.Answer.{Answer}
use Rattle.page_types.specs.declared.journal.JEntry.{JEntry}
use Rattle.page_types.specs.declared.journal.JEntry.TheVariants.{Took, Doubted, Late}

-- the commands that were settled at a store, the newest first
abbrev pub settled : List JEntry → ℕ → List Command
settled [] here = []
settled (Took pass store command answer ∷ es) here = if store == here then command ∷ settled es here else settled es here
settled (Doubted pass store command ∷ es) here = settled es here
settled (Late store command answer ∷ es) here = if store == here then command ∷ settled es here else settled es here

-- how many steps passes took
abbrev pub steps : List JEntry → ℕ
steps [] = 0
steps (Took pass store command answer ∷ es) = steps es + 1
steps (Doubted pass store command ∷ es) = steps es + 1
steps (Late store command answer ∷ es) = steps es

-- whether a step is counted as one, and whether it answered a doubt
abbrev pub taken : Result Answer StepFault → Bool → ℕ
taken (Ok answer) doubted = 1
taken (Err f) true = 1
taken (Err f) false = 0

abbrev pub doubts_in : Result Answer StepFault → ℕ
doubts_in (Ok answer) = 0
doubts_in (Err fault.Doubt) = 1
doubts_in (Err fault.NoMemory) = 0
doubts_in (Err fault.Stopped) = 0

-- a count of stops after a step that answered so
abbrev pub stops_after : ℕ → Result Answer StepFault → ℕ
stops_after count (Ok answer) = count
stops_after count (Err fault.Doubt) = count
stops_after count (Err fault.NoMemory) = count
stops_after count (Err fault.Stopped) = min (count + 1) (2 ^ 64 - 1)
