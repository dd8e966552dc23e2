-- What a store keeps: states as functions, and the state that it begins with.
use Rattle.std.specs.Prelude.{ℕ, ◌==◌, if◌then◌else◌, Bool, false, List, [], Option, Some, None}
use Rattle.pair_types.specs.declared.slot.Tid.{Tid}
use Rattle.page_types.specs.declared.hold.Hold.{Hold}
use Rattle.page_types.specs.declared.hold.WriteHold.{WriteHold}
use Rattle.page_types.specs.declared.outcome.Outcome.{Outcome}

-- the transaction that no pass ever asks
abbrev pub nobody : Tid
nobody = record { pass = 0; serial = 0 }

-- What a store keeps of a number: how often it was written, with what and by whom the last time, and the holds that stand
-- on it, the latest reader's first. At version 0 there is no page.
pub record Kept : Type 0 where
  pub version : ℕ
  pub content : List ℕ
  pub by : Tid
  pub readers : List Hold
  pub writer : Option WriteHold

-- What a store keeps: of each number, how each transaction was decided here, whose parts have ended, and the number that
-- it gives next.
pub record StoreState : Type 0 where
  pub slot : ℕ → Kept
  pub decided : Tid → Option Outcome
  pub ended : Tid → Bool
  pub next : ℕ

abbrev pub never_written : Kept
never_written = record { version = 0; content = []; by = nobody; readers = []; writer = None }

abbrev pub first_written : List ℕ → Kept
first_written page = record { version = 1; content = page; by = nobody; readers = []; writer = None }

abbrev pub first_kept : Option (List ℕ) → ℕ → Kept
first_kept None number = never_written
first_kept (Some page) number = if number == 0 then first_written page else never_written

abbrev pub first_next : Option (List ℕ) → ℕ
first_next None = 0
first_next (Some page) = 1

-- The state that a store begins with. Where it has a first page, that lies in slot 0 and its number is given.
abbrev pub first_state : Option (List ℕ) → StoreState
first_state first =
    record { slot = first_kept first; decided = λ tid. None; ended = λ tid. false; next = first_next first }
