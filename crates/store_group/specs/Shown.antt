-- What contracts see of a store group.
use Rattle.std.specs.Prelude.{◌≡◌, ℕ, List, Option, Result, Ok, Err}
use Rattle.page_types.specs.declared.command.Command.{Command}
use Rattle.page_types.specs.declared.answer.Answer.{Answer}
use Rattle.pair_types.specs.declared.fault.StepFault.{StepFault}
use Rattle.pair_types.specs.declared.fault.StepFault.TheVariants as step
use Rattle.page_types.specs.Stores.{StoreState}
use Rattle.page_store.specs.Shown.{state_of, IsPlan}
use Rattle.paxos_group.specs.Settling.{Settling}
use Rattle.paxos_group.specs.declared.fault.GroupFault.{GroupFault}
use Rattle.paxos_group.specs.declared.fault.GroupFault.TheVariants as group
use Rattle.store_group.specs.declared.group.StoreGroup.{StoreGroup}
use Rattle.store_group.specs.declared.ready.Ready.{Ready}
use Rattle.store_group.specs.Behind.{Behind}

-- the store, the pending command, the group, and the page that the store began with
abbrev pub behind : StoreGroup → Behind
behind g = record { state = state_of g.store; pending = g.group.pending }

abbrev pub settling_of : StoreGroup → Settling Command
settling_of g = g.group

abbrev pub first_of_store : StoreGroup → Option (List ℕ)
first_of_store g = g.first

-- what is ready was made for this command in this state
pub record IsReady (g : StoreGroup) (command : Command) (ready : Ready) : Type 0 where
  pub plan : IsPlan g.store g.group.pending command ready.plan
  pub late : ready.late ≡ g.group.pending

-- how the attempts of a step ended
abbrev pub end_of : Result Answer StepFault → Result (Unit {0}) GroupFault
end_of (Ok answer) = Ok tt
end_of (Err step.Doubt) = Err group.Doubt
end_of (Err step.NoMemory) = Err group.NoMemory
end_of (Err step.Stopped) = Err group.NoMemory
