-- How a transaction is decided at its home, and how its parts are ended: what these calls leave of a pass's own entries.
use Rattle.std.specs.Prelude.{◌≡◌, ℕ, ◌<◌, Bool, List, ◌++◌, Result, Ok, Err, ◌⊎◌}
use Rattle.std.specs.List.{All, Contains}
use Rattle.pair_types.specs.declared.slot.Tid.{Tid}
use Rattle.pair_types.specs.declared.fault.StepFault.{StepFault}
use Rattle.page_types.specs.declared.outcome.Outcome.{Outcome}
use Rattle.page_types.specs.declared.outcome.Outcome.TheVariants.{Abort}
use Rattle.page_types.specs.declared.command.Decision.{Decision}
use Rattle.page_types.specs.declared.command.Resolution.{Resolution}
use Rattle.page_types.specs.declared.command.Command.{Command}
use Rattle.page_types.specs.declared.command.Command.TheVariants.{Decide, Resolve}
use Rattle.page_types.specs.declared.answer.Answer.TheVariants.{Decided, Resolved}
use Rattle.page_types.specs.declared.journal.JEntry.{JEntry}
use Rattle.page_types.specs.declared.journal.JEntry.TheVariants.{Took, Doubted, Late}
use Rattle.page_types.specs.Asked.{Plan, Names, is_commit}
use Rattle.page_types.specs.Ports.{PortState}
use Rattle.two_phase.specs.Tries.{Onward, Tried, Ends, IsCause}

-- the entry asks this command, of such a store
abbrev pub Asks : (ℕ → Type 0) → Command → JEntry → Type 0
Asks Here wanted (Took pass store command answer) = Here store × (command ≡ wanted)
Asks Here wanted (Doubted pass store command) = Here store × (command ≡ wanted)
Asks Here wanted (Late store command answer) = ⊥

-- it was answered last how the transaction was decided, the first time; or it was not answered, and why
abbrev pub Told : PortState → PortState → ℕ → Decision → Result Bool StepFault → List JEntry → Type 0
Told old new home d (Ok commit) part =
    (outcome : Outcome) × (commit ≡ is_commit outcome) × Tried old.pass home (Decide d) (Decided outcome) part
Told old new home d (Err f) part = Ends old new home (Decide d) (Err f) part

-- a decision is asked of the home, and nothing else is asked
pub record Decides (old new : PortState) (home : ℕ) (d : Decision) (result : Result Bool StepFault) : Type 0 where
  pub part : List JEntry
  pub onward : Onward old new part
  pub asks : All (Asks (λ store. store ≡ home) (Decide d)) part
  pub told : Told old new home d result part

-- the transaction's part at this store was ended so
abbrev pub WasEnded : ℕ → Resolution → List JEntry → ℕ → Type 0
WasEnded pass r part store = Contains part (Took pass store (Resolve r) Resolved)

abbrev pub AllEnded : PortState → PortState → List ℕ → Resolution → Result Unit StepFault → List JEntry → Type 0
AllEnded old new stores r (Ok done) part = (store : ℕ) → Contains stores store → WasEnded old.pass r part store
AllEnded old new stores r (Err f) part = IsCause old new f part

-- each of these parts is ended so, and nothing else is asked
pub record ResolvesAll (old new : PortState) (stores : List ℕ) (r : Resolution) (result : Result Unit StepFault) : Type 0 where
  pub part : List JEntry
  pub onward : Onward old new part
  pub asks : All (Asks (Contains stores) (Resolve r)) part
  pub ended : AllEnded old new stores r result part

abbrev pub abort_of : Tid → Decision
abort_of tid = record { tid = tid; outcome = Abort }

abbrev pub end_of : Tid → Bool → Resolution
end_of tid commit = record { tid = tid; commit = commit }

-- the pass knows this plan of the transaction, and its stores are there
pub record IsKnown (p : PortState) (tid : Tid) (plan : Plan) : Type 0 where
  pub names : Names p.mine tid plan
  pub home : plan.home < p.origin.stores
  pub parts : (store : ℕ) → Contains plan.parts store → store < p.origin.stores

-- an Abort that is asked of the home, or a part that is ended
abbrev pub IsEnd : Tid → Plan → JEntry → Type 0
IsEnd tid plan e =
    Asks (λ store. store ≡ plan.home) (Decide (abort_of tid)) e
    ⊎ ((commit : Bool) × Asks (Contains plan.parts) (Resolve (end_of tid commit)) e)

-- The home was asked to abort the transaction, and answered how it was decided, the first time; after that, and by that,
-- every part was ended.
pub record Finished (pass : ℕ) (tid : Tid) (plan : Plan) (commit : Bool) (part : List JEntry) : Type 0 where
  pub outcome : Outcome
  pub commit_is : commit ≡ is_commit outcome
  pub first : List JEntry
  pub told : Tried pass plan.home (Decide (abort_of tid)) (Decided outcome) first
  pub later : List JEntry
  pub is : part ≡ later ++ first
  pub asks : All (Asks (Contains plan.parts) (Resolve (end_of tid commit))) later
  pub ended : (store : ℕ) → Contains plan.parts store → WasEnded pass (end_of tid commit) later store

abbrev pub FinishedAs : PortState → PortState → Tid → Plan → Result Bool StepFault → List JEntry → Type 0
FinishedAs old new tid plan (Ok commit) part = Finished old.pass tid plan commit part
FinishedAs old new tid plan (Err f) part = IsCause old new f part

-- A transaction is finished, whoever's it is and wherever its pass stopped: the answer is true exactly where it was
-- decided to commit.
pub record Finishes (old new : PortState) (tid : Tid) (plan : Plan) (result : Result Bool StepFault) : Type 0 where
  pub part : List JEntry
  pub onward : Onward old new part
  pub asks : All (IsEnd tid plan) part
  pub ended : FinishedAs old new tid plan result part
