-- What a command does to what is kept.
use Rattle.std.specs.Prelude.{◌≡◌, ℕ, IsSome}
use Rattle.std.specs.BTreeMap.{get}
use Rattle.std.specs.Ordering.{nat_cmp}
use Rattle.page_types.specs.declared.command.Command.{Command}
use Rattle.page_types.specs.Obeys.{answer_of, after}
use Rattle.page_store.specs.declared.look.View.{View}
use Rattle.page_store.specs.declared.patch.Patch.{Patch}
use Rattle.page_store.specs.declared.patch.Step.{Step}
use Rattle.page_store.specs.declared.shelf.Shelf.{Shelf}
use Rattle.page_store.specs.Keeps.{Keeps, keeps_in, patched, state, tid_cmp, IsIndexed, IsReady, IsPartyReady}

abbrev pub under : Patch → Keeps → Keeps
under patch keeps = patched patch.rows.items patch.party patch.next keeps

abbrev pub keeps_of : Shelf → Keeps
keeps_of shelf = keeps_in shelf.rows shelf.parties shelf.next

-- what a view sees: what is kept, under a patch
abbrev pub seen : View → Keeps
seen view = under view.over.now (keeps_of view.shelf.now)

-- A step of a command: its patch makes what is kept what it is after the command, and its answer is the rule's.
pub record IsStep (keeps : Keeps) (command : Command) (step : Step) : Type 0 where
  pub answer : step.answer ≡ answer_of (state keeps) command
  pub after : state (under step.patch keeps) ≡ after (state keeps) command
  pub indexed : IsIndexed keeps → IsIndexed (under step.patch keeps)

-- ## Room

pub record HasRoom (shelf : Shelf) (patch : Patch) : Type 0 where
  pub rows : IsReady shelf.rows patch.rows.items
  pub party : IsPartyReady shelf.parties patch.party

-- no entry goes
pub record RoomStays (old new : Shelf) : Type 0 where
  pub rows : (number : ℕ) → IsSome (get nat_cmp old.rows number) → IsSome (get nat_cmp new.rows number)
  pub parties : (place : ℕ × ℕ) → IsSome (get tid_cmp old.parties place) → IsSome (get tid_cmp new.parties place)
