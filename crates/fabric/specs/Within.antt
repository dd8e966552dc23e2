-- Holds of stores that are there, among so many.
use Rattle.std.specs.Prelude.{ℕ, ◌<◌, List, [], ◌∷◌, Option, Some, None, ⊤}
use Rattle.std.specs.List.{Contains}
use Rattle.page_types.specs.declared.hold.Hold.{Hold}
use Rattle.page_types.specs.declared.hold.WriteHold.{WriteHold}
use Rattle.page_types.specs.declared.command.Command.{Command}
use Rattle.page_types.specs.declared.command.Command.TheVariants.{Prepare}
use Rattle.page_types.specs.Stores.{Kept, StoreState}
use Rattle.page_types.specs.Obeys.{hold_of}

pub record IsHoldWithin (stores : ℕ) (hold : Hold) : Type 0 where
  pub home : hold.home < stores
  pub parts : (other : ℕ) → Contains hold.parts other → other < stores

abbrev pub AreReadersWithin : ℕ → List Hold → Type 0
AreReadersWithin stores [] = ⊤
AreReadersWithin stores (hold ∷ holds) = IsHoldWithin stores hold × AreReadersWithin stores holds

abbrev pub IsWriterWithin : ℕ → Option WriteHold → Type 0
IsWriterWithin stores None = ⊤
IsWriterWithin stores (Some w) = IsHoldWithin stores w.hold

pub record AreWithin (stores : ℕ) (state : StoreState) : Type 0 where
  pub readers : (number : ℕ) → AreReadersWithin stores (state.slot number).readers
  pub writer : (number : ℕ) → IsWriterWithin stores (state.slot number).writer

-- the holds that a command asks for
abbrev pub IsCommandWithin : ℕ → Command → Type 0
IsCommandWithin stores (Prepare part) = IsHoldWithin stores (hold_of part)
IsCommandWithin stores command = ⊤

abbrev pub IsPendingWithin : ℕ → Option Command → Type 0
IsPendingWithin stores None = ⊤
IsPendingWithin stores (Some command) = IsCommandWithin stores command
