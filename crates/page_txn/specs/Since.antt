-- What holds since a transaction began. Newest entry first.
use Rattle.std.specs.Prelude.{◌≡◌, ℕ, ◌-◌, ◌<◌, ◌≤◌, ◌==◌, ◌&&◌, ◌||◌, Bool, true, false, List, ◌∷◌, Some}
use Rattle.std.specs.Prelude.{length, take, drop}
use Rattle.std.specs.List.{list_any}
use Rattle.pair_types.specs.declared.slot.Slot.{Slot}
use Rattle.pair_types.specs.declared.slot.Tid.{Tid}
use Rattle.page_types.specs.declared.command.Command.{Command}
use Rattle.page_types.specs.declared.command.Command.TheVariants.{Read, Look}
use Rattle.page_types.specs.declared.answer.Answer.{Answer}
use Rattle.page_types.specs.declared.answer.Answer.TheVariants.{Page, Versions}
use Rattle.page_types.specs.declared.journal.JEntry.{JEntry}
use Rattle.page_types.specs.declared.journal.JEntry.TheVariants.{Took}
use Rattle.page_types.specs.Fair.{seen, IsOfPass}
use Rattle.page_types.specs.Ports.{PortState}
use Rattle.two_phase.specs.Parts.{carries}
use Rattle.page_txn.specs.declared.row.Row.{Row}
use Rattle.page_txn.specs.Rows.{Rows, row_at}

-- the entries began so
abbrev pub BeganAs : List JEntry → List JEntry → Type 0
BeganAs first now = drop (length now - length first) now ≡ first

-- the entries since
abbrev pub since : List JEntry → List JEntry → List JEntry
since first now = take (length now - length first) now

-- the version that a Look was answered at a number's place
abbrev pub looked : List ℕ → List ℕ → ℕ → ℕ → Bool
looked (n ∷ ns) (v ∷ vs) number version = ((n == number) && (v == version)) || looked ns vs number version
looked ns vs number version = false

abbrev pub answers_by : ℕ → ℕ → Command → Answer → Bool
answers_by number version (Read n) (Page v content) = (n == number) && (v == version)
answers_by number version (Look ns) (Versions vs) = looked ns vs number version
answers_by number version command answer = false

-- a Read or a Look was answered that this is the version of the slot
abbrev pub answers_version : Slot → ℕ → JEntry → Bool
answers_version s version (Took pass store command answer) =
    (store == s.store) && answers_by s.number version command answer
answers_version s version e = false

-- the version of the slot was answered in these entries
abbrev pub WasAnswered : Slot → ℕ → List JEntry → Type 0
WasAnswered s version es = list_any (answers_version s version) es ≡ true

-- A row is of a slot of the stores, its version was answered since the transaction began, and what it holds is what the pass
-- knows of that version.
pub record IsRowOf (start now : PortState) (s : Slot) (row : Row) : Type 0 where
  pub within : s.store < now.origin.stores
  pub answered : WasAnswered s row.version (since start.mine now.mine)
  pub known : seen now.mine s.store s.number row.version ≡ Some row.content

-- What always holds of a transaction that began so: its way to the stores is the same, nothing was asked for it yet, and its
-- rows are what was answered.
pub record Standing (start now : PortState) (tid : Tid) (rows : Rows) : Type 0 where
  pub of_pass : IsOfPass now.pass tid
  pub pass : now.pass ≡ start.pass
  pub origin : now.origin ≡ start.origin
  pub began : BeganAs start.mine now.mine
  pub doubts : start.doubts ≤ now.doubts
  pub stops : start.stops ≤ now.stops
  pub fresh : list_any (carries tid) now.mine ≡ false
  pub rows_of : (s : Slot) (row : Row) → row_at rows s ≡ Some row → IsRowOf start now s row
