-- What a page held at a version, by the journal: what the stores had of it.
use Rattle.std.specs.Prelude.{ℕ, ◌==◌, if◌then◌else◌, List, [], ◌∷◌, Option, Some, None}
use Rattle.page_types.specs.declared.journal.JEntry.{JEntry}
use Rattle.page_types.specs.Journals.{Origin}
use Rattle.page_types.specs.Asked.{first_of}
use Rattle.page_types.specs.Fair.{Known}
use Rattle.page_types.specs.Stores.{Kept}
use Rattle.serial_rules.specs.Worlds.{first_world, replay}

-- what a store keeps of it, if that is this version
abbrev pub at_version : ℕ → Kept → Option (Option (List ℕ))
at_version version kept = if kept.version == version then Some (Some kept.content) else None

-- what it held when it first had the version: before all entries, or after one
abbrev pub first_at : Origin → List JEntry → Known
first_at origin [] store number version = at_version version ((first_world origin store).slot number)
first_at origin (e ∷ es) store number version =
    first_of (first_at origin es store number version) (at_version version ((replay origin (e ∷ es) store).slot number))

-- What a page of a store held at a version. At version 0 it is absent, and at a version that it never had there is none.
abbrev pub content_at : Origin → List JEntry → Known
content_at origin es store number version =
    if version == 0 then Some None else first_at origin es store number version
