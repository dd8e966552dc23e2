-- What calls of several steps at the stores leave of a pass's own entries, and steps that are tried again.
use Rattle.std.specs.Prelude.{◌≡◌, ℕ, zero, suc, ◌<◌, ◌≤◌, Bool, true, false, List, [], ◌∷◌, ◌++◌, Result, Ok, Err, ⊤}
use Rattle.std.specs.List.{list_any}
use Rattle.pair_types.specs.declared.fault.StepFault.{StepFault}
use Rattle.pair_types.specs.declared.fault.StepFault.TheVariants as fault
use Rattle.nfs3_types.specs.Count.{Rose}
use Rattle.page_types.specs.declared.command.Command.{Command}
use Rattle.page_types.specs.declared.answer.Answer.{Answer}
use Rattle.page_types.specs.declared.journal.JEntry.{JEntry}
use Rattle.page_types.specs.declared.journal.JEntry.TheVariants.{Took, Doubted}
use Rattle.page_types.specs.Ports.{PortState, IsPort, IsAnswer, Grew}

abbrev pub is_doubted : JEntry → Bool
is_doubted (Doubted pass store command) = true
is_doubted e = false

-- From one moment to a later one a way to the stores is the same way, and this part of the pass's entries is new, the
-- newest first. Doubts are counted only where a command was doubted.
pub record Onward (old new : PortState) (part : List JEntry) : Type 0 where
  pub mine : new.mine ≡ part ++ old.mine
  pub formed : IsPort old → IsPort new
  pub origin : new.origin ≡ old.origin
  pub pass : new.pass ≡ old.pass
  pub journal : Grew old.journal new.journal
  pub doubts : old.doubts ≤ new.doubts
  pub quiet : list_any is_doubted part ≡ false → new.doubts ≡ old.doubts
  pub stops : old.stops ≤ new.stops

-- so many doubts of one command
abbrev pub doubted : ℕ → JEntry → List JEntry
doubted zero e = []
doubted (suc times) e = e ∷ doubted times e

-- A command was doubted less than eight times, and then it was taken: these are its entries.
pub record Tried (pass store : ℕ) (command : Command) (answer : Answer) (part : List JEntry) : Type 0 where
  pub times : ℕ
  pub few : times < 8
  pub is : part ≡ Took pass store command answer ∷ doubted times (Doubted pass store command)

-- it was doubted so often, or less, and never taken
pub record Missed (most pass store : ℕ) (command : Command) (part : List JEntry) : Type 0 where
  pub times : ℕ
  pub few : times ≤ most
  pub is : part ≡ doubted times (Doubted pass store command)

-- What comes of up to eight steps of one command, which end at the first that is not a doubt: a doubt is answered exactly
-- after eight in a row. Memory may lack in a step that is doubted too.
abbrev pub Ends : PortState → PortState → ℕ → Command → Result Answer StepFault → List JEntry → Type 0
Ends old new store command (Ok answer) part =
    Tried old.pass store command answer part × IsAnswer old.origin.stores command answer
Ends old new store command (Err fault.Doubt) part =
    (part ≡ doubted 8 (Doubted old.pass store command)) × Rose old.doubts new.doubts
Ends old new store command (Err fault.NoMemory) part = Missed 8 old.pass store command part
Ends old new store command (Err fault.Stopped) part =
    Missed 7 old.pass store command part × Rose old.stops new.stops

-- Up to eight steps of one command: what comes of them, and that nothing else is asked.
pub record Retries (old new : PortState) (store : ℕ) (command : Command) (result : Result Answer StepFault) : Type 0 where
  pub part : List JEntry
  pub onward : Onward old new part
  pub ends : Ends old new store command result part

-- a command was doubted eight times in a row, in the newest entries of a part
pub record DoubtedOut (old new : PortState) (part : List JEntry) : Type 0 where
  pub store : ℕ
  pub command : Command
  pub earlier : List JEntry
  pub is : part ≡ doubted 8 (Doubted old.pass store command) ++ earlier
  pub rose : Rose old.doubts new.doubts

-- Why a call of several steps gave up: one command was doubted eight times in a row, memory lacked, or a step was stopped.
abbrev pub IsCause : PortState → PortState → StepFault → List JEntry → Type 0
IsCause old new fault.Doubt part = DoubtedOut old new part
IsCause old new fault.NoMemory part = ⊤
IsCause old new fault.Stopped part = Rose old.stops new.stops
