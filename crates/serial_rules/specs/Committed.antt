-- The committed pages: what stands once each decided transaction is carried out.
use Rattle.std.specs.Prelude.{ℕ, ◌+◌, ◌==◌, if◌then◌else◌, Bool, false, List, Option, Some, None}
use Rattle.pair_types.specs.declared.slot.Slot.{Slot}
use Rattle.pair_types.specs.PageMaps.{PageMap}
use Rattle.page_types.specs.declared.hold.WriteHold.{WriteHold}
use Rattle.page_types.specs.declared.outcome.Outcome.{Outcome}
use Rattle.page_types.specs.Asked.{is_commit}
use Rattle.page_types.specs.Stores.{Kept}
use Rattle.serial_rules.specs.Worlds.{World}

-- a page: at version 0 there is none
pub record Committed : Type 0 where
  pub version : ℕ
  pub content : List ℕ

abbrev pub commits : Option Outcome → Bool
commits None = false
commits (Some outcome) = is_commit outcome

-- what a writer's hold will write, once its transaction was decided so at its home
abbrev pub to_come : World → Option WriteHold → Option (List ℕ)
to_come world None = None
to_come world (Some w) = if commits ((world w.hold.home).decided w.hold.tid) then Some w.content else None

abbrev pub standing : Option (List ℕ) → Kept → Committed
standing None kept = record { version = kept.version; content = kept.content }
standing (Some page) kept = record { version = kept.version + 1; content = page }

-- What is committed in each slot. A hold of a transaction that was decided Commit at its home counts as written.
abbrev pub committed : World → Slot → Committed
committed world s =
    standing (to_come world ((world s.store).slot s.number).writer) ((world s.store).slot s.number)

abbrev pub present : Committed → Option (List ℕ)
present c = if c.version == 0 then None else Some c.content

-- the committed pages as a map
abbrev pub shown : World → PageMap
shown world s = present (committed world s)

-- a page that is written has the next version
abbrev pub rewritten : Option (List ℕ) → Committed → Committed
rewritten None c = c
rewritten (Some page) c = record { version = c.version + 1; content = page }

abbrev pub with_writes : PageMap → (Slot → Committed) → Slot → Committed
with_writes writes pages s = rewritten (writes s) (pages s)
