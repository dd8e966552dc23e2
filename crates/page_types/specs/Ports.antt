-- What a way to the stores tells at a moment, and what a step of it does.
use Rattle.std.specs.Prelude.{◌≡◌, ℕ, ◌^◌, ◌<◌, ◌≤◌, ◌⊎◌, List, ◌∷◌, ◌++◌, length, Option, Some, None, Result, Ok, Err, ⊤}
use Rattle.std.specs.List.{Contains}
use Rattle.pair_types.specs.PageMaps.{PageMap}
use Rattle.pair_types.specs.declared.fault.StepFault.{StepFault}
use Rattle.pair_types.specs.declared.fault.StepFault.TheVariants as fault
use Rattle.nfs3_types.specs.declared.entry.Entry.{Entry}
use Rattle.nfs3_types.specs.Count.{Rose}
use Rattle.page_types.specs.declared.command.Command.{Command}
use Rattle.page_types.specs.declared.answer.Answer.{Answer}
use Rattle.page_types.specs.declared.answer.Answer.TheVariants.{Fresh, Busy, Page, Versions, Wrote, Decided, Ended, Conflict}
use Rattle.page_types.specs.declared.answer.Answer.TheVariants.{Prepared, Resolved}
use Rattle.page_types.specs.declared.journal.JEntry.{JEntry}
use Rattle.page_types.specs.declared.journal.JEntry.TheVariants.{Took, Doubted}
use Rattle.page_types.specs.Stores.{StoreState}
use Rattle.page_types.specs.Obeys.{answer_of}
use Rattle.page_types.specs.Journals.{Origin, own}
use Rattle.page_types.specs.Fair.{IsFair}

-- A pass's way to the stores at a moment: what the stores began with, the pass, its own entries, the whole journal as
-- this pass has seen it, where it is told, and how often a step was doubted, and was stopped. Newest entries first.
pub record PortState : Type 0 where
  pub origin : Origin
  pub pass : ℕ
  pub mine : List JEntry
  pub journal : Option (List JEntry)
  pub doubts : ℕ
  pub stops : ℕ

-- the entries are the pass's own in the journal, where it is told
abbrev pub AreOwn : ℕ → List JEntry → Option (List JEntry) → Type 0
AreOwn pass mine None = ⊤
AreOwn pass mine (Some journal) = mine ≡ own pass journal

-- what always holds
pub record IsPort (p : PortState) : Type 0 where
  pub stores : 1 ≤ p.origin.stores
  pub most : length p.mine ≤ 2 ^ 62
  pub are_own : AreOwn p.pass p.mine p.journal

-- the journal, where it is told, only gained entries
abbrev pub Grew : Option (List JEntry) → Option (List JEntry) → Type 0
Grew None now = now ≡ None
Grew (Some before) now = (part : List JEntry) × (now ≡ Some (part ++ before))

-- what no store, among so many, ever answers is left out: numbers are never used up, and a hold is of stores that are there
abbrev pub IsWithin : ℕ → Answer → Type 0
IsWithin stores (Fresh number) = number ≤ 2 ^ 62
IsWithin stores (Busy number tid home parts) = (home < stores) × ((other : ℕ) → Contains parts other → other < stores)
IsWithin stores (Page version content) = ⊤
IsWithin stores (Versions versions) = ⊤
IsWithin stores Wrote = ⊤
IsWithin stores (Decided outcome) = ⊤
IsWithin stores Ended = ⊤
IsWithin stores (Conflict number version by) = ⊤
IsWithin stores Prepared = ⊤
IsWithin stores Resolved = ⊤

-- An answer that a store, among so many, may give to a command: it gives it in some state.
pub record IsAnswer (stores : ℕ) (command : Command) (answer : Answer) : Type 0 where
  pub state : StoreState
  pub given : answer_of state command ≡ answer
  pub within : IsWithin stores answer

-- the pass has an entry more, the doubted command
abbrev pub IsDoubted : PortState → PortState → ℕ → Command → Type 0
IsDoubted old new store command = new.mine ≡ Doubted old.pass store command ∷ old.mine

-- what a step's answer says of the pass's entries
abbrev pub Gains : PortState → PortState → ℕ → Command → Result Answer StepFault → Type 0
Gains old new store command (Ok answer) =
    (new.mine ≡ Took old.pass store command answer ∷ old.mine) × IsAnswer old.origin.stores command answer
Gains old new store command (Err fault.Doubt) = IsDoubted old new store command × Rose old.doubts new.doubts
Gains old new store command (Err fault.NoMemory) = (new.mine ≡ old.mine) ⊎ IsDoubted old new store command
Gains old new store command (Err fault.Stopped) = (new.mine ≡ old.mine) × Rose old.stops new.stops

-- A step of a command at a store. Doubts are counted only where a command was doubted.
pub record Steps (old new : PortState) (store : ℕ) (command : Command) (result : Result Answer StepFault) : Type 0 where
  pub gains : Gains old new store command result
  pub formed : IsPort new
  pub origin : new.origin ≡ old.origin
  pub pass : new.pass ≡ old.pass
  pub journal : Grew old.journal new.journal
  pub doubts : old.doubts ≤ new.doubts
  pub doubts_rise : (new.doubts ≡ old.doubts) ⊎ IsDoubted old new store command
  pub stops : old.stops ≤ new.stops

-- the command may be asked of the store next
abbrev pub MayAsk : {S : Type 0} → (Origin → PageMap → S → Type 0) → (S → List ℕ → Entry → S → Type 0) → PortState → ℕ →
    Command → Type 0
MayAsk stands next p store command = IsFair (stands p.origin) next p.origin.stores p.mine p.pass store command
