-- What a journal, newest entry first, gains by a step, and what it tells of a store behind a group.
use Rattle.std.specs.Prelude.{◌≡◌, ℕ, Bool, true, false, List, ◌∷◌, Option, Some, None, Result, Ok, Err}
use Rattle.page_types.specs.declared.command.Command.{Command}
use Rattle.page_types.specs.declared.answer.Answer.{Answer}
use Rattle.page_types.specs.declared.journal.JEntry.{JEntry}
use Rattle.page_types.specs.declared.journal.JEntry.TheVariants.{Took, Doubted, Late}
use Rattle.pair_types.specs.declared.fault.StepFault.{StepFault}
use Rattle.page_types.specs.Journals.{Origin}
use Rattle.serial_rules.specs.Worlds.{replay, pending}
use Rattle.serial_rules.specs.Lawful.{Answered}
use Rattle.store_group.specs.Behind.{Behind}

-- a command that a pass asks of a store
pub record Request : Type 0 where
  pub pass : ℕ
  pub store : ℕ
  pub command : Command

abbrev pub with_late : ℕ → Option (Command × Answer) → List JEntry → List JEntry
with_late store None es = es
with_late store (Some l) es = Late store l.0 l.1 ∷ es

abbrev pub with_doubt : Bool → JEntry → List JEntry → List JEntry
with_doubt true e es = e ∷ es
with_doubt false e es = es

abbrev pub with_own : Request → Result Answer StepFault → Bool → List JEntry → List JEntry
with_own asked (Ok answer) doubted es = Took asked.pass asked.store asked.command answer ∷ es
with_own asked (Err fault) doubted es = with_doubt doubted (Doubted asked.pass asked.store asked.command) es

-- what is settled late stands before the step's own entry
abbrev pub gained : Request → Option (Command × Answer) → Result Answer StepFault → Bool → List JEntry → List JEntry
gained asked late own doubted es = with_own asked own doubted (with_late asked.store late es)

-- the journal tells what a store behind a group keeps, and its answers are those of the stores
pub record Tells (origin : Origin) (es : List JEntry) (store : ℕ) (b : Behind) : Type 0 where
  pub answered : Answered origin es
  pub state : b.state ≡ replay origin es store
  pub pending : b.pending ≡ pending es store
