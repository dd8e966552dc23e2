-- What one step does to one store group, to what is written down, and to the weather.
use Rattle.std.specs.Prelude.{◌≡◌, ◌≢◌, ℕ, ◌+◌, ◌≤◌, ◌++◌, Bool, true, false, List, reverse, Option, is_some, IsTrue, Result}
use Rattle.std.specs.Prelude.{OnOk, OnErr, IfErr}
use Rattle.pair_types.specs.declared.fault.StepFault.{StepFault}
use Rattle.pair_types.specs.declared.fault.StepFault.TheVariants as fault
use Rattle.outside.specs.Weather.{WeatherTold}
use Rattle.page_types.specs.declared.command.Command.{Command}
use Rattle.page_types.specs.declared.answer.Answer.{Answer}
use Rattle.page_types.specs.declared.journal.JEntry.{JEntry}
use Rattle.page_types.specs.Obeys.{answer_of}
use Rattle.page_store.specs.Shown.{after_maybe}
use Rattle.paxos_group.specs.Settling.{Settling}
use Rattle.paxos_group.specs.Steps.{Endures}
use Rattle.store_group.specs.declared.group.StoreGroup.{StoreGroup}
use Rattle.store_group.specs.Behind.{Behind, Left, settled_by}
use Rattle.store_group.specs.Journal.{Request, gained}
use Rattle.store_group.specs.Shown.{behind, settling_of, first_of_store, IsReady}
use Rattle.fabric.specs.declared.book.Asked.{Asked}
use Rattle.fabric.specs.declared.book.Book.{Book}
use Rattle.fabric.specs.declared.taking.Made.{Made}
use Rattle.fabric.specs.Settled.{taken, doubts_in}
use Rattle.fabric.specs.Stepping.{AreHeard, Worsens}

abbrev pub request_of : Asked → Request
request_of asked = record { pass = asked.pass; store = asked.store; command = asked.command }

-- what is written down, the newest entry first
abbrev pub written : Book → List JEntry
written book = reverse book.entries.items

-- contracts see the same of two store groups
pub record IsSame (old new : StoreGroup) : Type 0 where
  pub behind_is : behind new ≡ behind old
  pub settling_is : settling_of new ≡ settling_of old
  pub first_is : first_of_store new ≡ first_of_store old

-- what was written down is the same
pub record IsSameBook (old new : Book) : Type 0 where
  pub entries : new.entries.items ≡ old.entries.items
  pub steps : new.steps ≡ old.steps
  pub doubts : new.doubts ≡ old.doubts

-- what was made ready for a command at a store group
pub record IsMade (group : StoreGroup) (command : Command) (made : Made) : Type 0 where
  pub ready : IsReady group command made.ready
  pub command_is : made.asked.command ≡ command
  pub told : made.told ≡ answer_of (after_maybe (behind group).state (behind group).pending) command

-- one store group, what is written down, and the weather
pub record Scene (W : Type 0) : Type 0 where
  pub group : StoreGroup
  pub book : Book
  pub weather : W

-- what a step of a request does to them
pub record Takes {W : Type 0} (told : WeatherTold W) (old new : Scene W) (asked : Request) (result : Result Answer StepFault) :
    Type 0
  where
    pub late : Option (Command × Answer)
    pub doubted : Bool
    pub entries : written new.book ≡ gained asked late result doubted (written old.book)
    pub steps : new.book.steps ≡ old.book.steps + taken result doubted
    pub doubts : new.book.doubts ≡ old.book.doubts + doubts_in result
    pub left : Left result doubted (behind old.group) (behind new.group) asked.command late
    pub log : (settling_of new.group).log ≡ (settling_of old.group).log ++ settled_by late result asked.command
    pub round : (settling_of new.group).round ≤ (settling_of old.group).round + 2
    pub unmoved : OnErr result (doubted ≡ false → IsSame old.group new.group × (new.weather ≡ old.weather))
    pub number : (settling_of new.group).store ≡ (settling_of old.group).store
    pub replicas : (settling_of new.group).replicas ≡ (settling_of old.group).replicas
    pub first : first_of_store new.group ≡ first_of_store old.group
    pub endures : Endures told old.weather new.weather
    pub heard : OnOk result (AreHeard told (settling_of old.group).replicas old.weather (settling_of old.group).store)
    pub late_heard : IsTrue (is_some late) →
        AreHeard told (settling_of old.group).replicas old.weather (settling_of old.group).store
    pub worsens : IfErr result (λ why. why ≡ fault.Doubt →
        Worsens told (settling_of old.group).replicas old.weather new.weather (settling_of old.group).store)
    pub doubt_is_doubted : IfErr result (λ why. why ≡ fault.Doubt → doubted ≡ true)
    pub never_stopped : IfErr result (λ why. why ≢ fault.Stopped)
