-- A store behind a group, and what a step leaves of it.
use Rattle.std.specs.Prelude.{◌≡◌, Bool, true, false, List, [], ◌∷◌, ◌++◌, Option, Some, None, IsSome, unwrap_or, Result, Ok, Err}
use Rattle.page_types.specs.declared.command.Command.{Command}
use Rattle.page_types.specs.declared.answer.Answer.{Answer}
use Rattle.pair_types.specs.declared.fault.StepFault.{StepFault}
use Rattle.pair_types.specs.declared.fault.StepFault.TheVariants as step
use Rattle.paxos_group.specs.declared.fault.GroupFault.{GroupFault}
use Rattle.paxos_group.specs.declared.fault.GroupFault.TheVariants as group
use Rattle.page_types.specs.Stores.{StoreState}
use Rattle.page_types.specs.Obeys.{answer_of, after}
use Rattle.page_store.specs.Shown.{after_maybe}

-- what the store keeps, and the command that may be settled already
pub record Behind : Type 0 where
  pub state : StoreState
  pub pending : Option Command

-- a command with its answer, where there is one
abbrev pub late_of : StoreState → Option Command → Option (Command × Answer)
late_of s None = None
late_of s (Some command) = Some (command, answer_of s command)

-- the commands that a step settles, the oldest first: the late one, and its own, where it is answered
abbrev pub late_command : Option (Command × Answer) → List Command
late_command None = []
late_command (Some l) = l.0 ∷ []

abbrev pub own_command : Result Answer StepFault → Command → List Command
own_command (Ok answer) command = command ∷ []
own_command (Err fault) command = []

abbrev pub settled_by : Option (Command × Answer) → Result Answer StepFault → Command → List Command
settled_by late own command = late_command late ++ own_command own command

-- the pending command, where there is one, and then this one were settled and obeyed
pub record Settles (old new : Behind) (command : Command) (late : Option (Command × Answer)) (doubted : Bool)
    (own : Answer) : Type 0 where
  pub was_late : late ≡ late_of old.state old.pending
  pub answer : own ≡ answer_of (after_maybe old.state old.pending) command
  pub state : new.state ≡ after (after_maybe old.state old.pending) command
  pub pending : new.pending ≡ None
  pub not_doubted : doubted ≡ false

-- the pending command was settled and obeyed, and this one is pending
pub record IsLate (old new : Behind) (command : Command) (late : Option (Command × Answer)) : Type 0 where
  pub was : IsSome old.pending
  pub was_late : late ≡ late_of old.state old.pending
  pub state : new.state ≡ after_maybe old.state old.pending
  pub pending : new.pending ≡ Some command

-- nothing was settled, and the pending command is still pending; or this one is, where there was none
pub record Waits (old new : Behind) (command : Command) : Type 0 where
  pub state : new.state ≡ old.state
  pub pending : new.pending ≡ Some (unwrap_or old.pending command)

-- how it stands after a doubt
abbrev pub InDoubt : Option (Command × Answer) → Behind → Behind → Command → Type 0
InDoubt (Some l) old new command = IsLate old new command (Some l)
InDoubt None old new command = Waits old new command

-- nothing happened
pub record Unmoved (old new : Behind) (late : Option (Command × Answer)) : Type 0 where
  pub was_late : late ≡ None
  pub state : new.state ≡ old.state
  pub pending : new.pending ≡ old.pending

-- what a step leaves, by what it answered
abbrev pub Left : Result Answer StepFault → Bool → Behind → Behind → Command → Option (Command × Answer) → Type 0
Left (Ok own) doubted old new command late = Settles old new command late doubted own
Left (Err fault) true old new command late = InDoubt late old new command
Left (Err fault) false old new command late = Unmoved old new late

-- what a fault of the group is to the step's caller
abbrev pub step_fault : GroupFault → StepFault
step_fault group.Doubt = step.Doubt
step_fault group.NoMemory = step.NoMemory
