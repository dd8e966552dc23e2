-- What a journal, newest entry first, tells of the stores: what each keeps, and which command is pending at each.
use Rattle.std.specs.Prelude.{ℕ, ◌==◌, if◌then◌else◌, List, [], ◌∷◌, Option, Some, None}
use Rattle.page_types.specs.declared.command.Command.{Command}
use Rattle.page_types.specs.declared.journal.JEntry.{JEntry}
use Rattle.page_types.specs.declared.journal.JEntry.TheVariants.{Took, Doubted, Late}
use Rattle.page_types.specs.Journals.{Origin}
use Rattle.page_types.specs.Asked.{first_of}
use Rattle.page_types.specs.Stores.{StoreState, first_state}
use Rattle.page_types.specs.Obeys.{after}

-- what each store keeps
abbrev pub World : Type 0
World = ℕ → StoreState

-- the world in which one store keeps this
abbrev pub put : World → ℕ → StoreState → World
put world store state other = if store == other then state else world other

-- store 0 begins with the first page, and each other with nothing
abbrev pub first_page : Origin → ℕ → Option (List ℕ)
first_page origin store = if store == 0 then Some origin.first else None

abbrev pub first_world : Origin → World
first_world origin store = first_state (first_page origin store)

-- a store obeys what was settled at it, and nothing that was doubted
abbrev pub applied : World → JEntry → World
applied world (Took pass store command answer) = put world store (after (world store) command)
applied world (Doubted pass store command) = world
applied world (Late store command answer) = put world store (after (world store) command)

abbrev pub replay : Origin → List JEntry → World
replay origin [] = first_world origin
replay origin (e ∷ es) = applied (replay origin es) e

-- The command that is pending at a store. The first that is doubted stays it until it is settled late.
abbrev pub pending : List JEntry → ℕ → Option Command
pending [] here = None
pending (Took pass store command answer ∷ es) here = pending es here
pending (Doubted pass store command ∷ es) here =
    if store == here then first_of (pending es here) (Some command) else pending es here
pending (Late store command answer ∷ es) here = if store == here then None else pending es here
