-- What a transaction comes to know and to write, slot by slot.
use Rattle.std.specs.Prelude.{◌≡◌, ◌≢◌, ℕ, ◌<◌, ◌⊎◌, List, Option, Some, None, Result, Ok, Err}
use Rattle.pair_types.specs.declared.slot.Slot.{Slot}
use Rattle.pair_types.specs.declared.slot.Tid.{Tid}
use Rattle.pair_types.specs.declared.fault.PageFault.{PageFault}
use Rattle.pair_types.specs.PageMaps.{Learns}
use Rattle.pair_types.specs.PageState.{PageState, Lasts, Freshens, GivesUp}
use Rattle.page_types.specs.declared.journal.JEntry.{JEntry}
use Rattle.page_types.specs.Fair.{seen}
use Rattle.page_types.specs.Ports.{PortState}
use Rattle.two_phase.specs.Tries.{Onward}
use Rattle.page_txn.specs.declared.row.Row.{Row}
use Rattle.page_txn.specs.Rows.{Rows, row_at}
use Rattle.page_txn.specs.Causes.{state_by}
use Rattle.page_txn.specs.Since.{WasAnswered}
use Rattle.page_txn.specs.Asking.{AreForeign}

-- the slot is known; nothing was written
pub record Learned (old new : PageState) (s : Slot) : Type 0 where
  pub lasts : Lasts old new
  pub writes : new.writes ≡ old.writes
  pub learns : Learns old.reads new.reads s

-- a row of a slot is what was answered in these entries
pub record IsAnsweredNow (new : PortState) (s : Slot) (row : Row) (part : List JEntry) : Type 0 where
  pub within : s.store < new.origin.stores
  pub answered : WasAnswered s row.version part
  pub known : seen new.mine s.store s.number row.version ≡ Some row.content

-- Commands were asked that are not the transaction's own; each row is as it was, or is what was answered.
pub record MovesOn (tid : Tid) (old new : PortState) (before after : Rows) : Type 0 where
  pub part : List JEntry
  pub onward : Onward old new part
  pub foreign : AreForeign tid part
  pub rows_of : (s : Slot) (row : Row) → row_at after s ≡ Some row →
      (row_at before s ≡ Some row) ⊎ IsAnsweredNow new s row part

-- a transaction at a moment: its way to the stores and its rows
pub record At : Type 0 where
  pub port : PortState
  pub rows : Rows

abbrev pub LearnsAs : Tid → At → At → Slot → Result Unit PageFault → Type 0
LearnsAs tid old new s (Ok done) = Learned (state_by tid old.port old.rows) (state_by tid new.port new.rows) s
LearnsAs tid old new s (Err fault) = GivesUp (state_by tid old.port old.rows) (state_by tid new.port new.rows) fault

-- a slot is read, where it was not yet, or why not
pub record LearnsRow (tid : Tid) (old new : At) (s : Slot) (result : Result Unit PageFault) : Type 0 where
  pub moves : MovesOn tid old.port new.port old.rows new.rows
  pub ends : LearnsAs tid old new s result

abbrev pub FreshensAs : Tid → At → At → ℕ → Result Slot PageFault → Type 0
FreshensAs tid old new store (Ok s) = Freshens (state_by tid old.port old.rows) (state_by tid new.port new.rows) store s
FreshensAs tid old new store (Err fault) = GivesUp (state_by tid old.port old.rows) (state_by tid new.port new.rows) fault

-- a slot of the store is found that is absent and was not known, or why not
pub record FreshensRow (tid : Tid) (old new : At) (store : ℕ) (result : Result Slot PageFault) : Type 0 where
  pub moves : MovesOn tid old.port new.port old.rows new.rows
  pub ends : FreshensAs tid old new store result

-- a row in which this is written, or nothing
abbrev pub written_as : Option (List ℕ) → Option Row → Option Row
written_as page None = None
written_as page (Some row) = Some (record row { written = page })

-- this is written in the row of the slot, and each other row is as before
pub record PutsRow (old new : Rows) (s : Slot) (page : List ℕ) : Type 0 where
  pub put : row_at new s ≡ written_as (Some page) (row_at old s)
  pub others : (t : Slot) → t ≢ s → row_at new t ≡ row_at old t

-- nothing is written in any row, and each is as before
abbrev pub ForgetsWrites : Rows → Rows → Type 0
ForgetsWrites old new = (s : Slot) → row_at new s ≡ written_as None (row_at old s)
