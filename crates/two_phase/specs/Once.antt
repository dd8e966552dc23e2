-- How often a command acts on a store that obeys it again, with other commands between.
use Rattle.std.specs.Prelude.{◌≡◌, ◌⊎◌, Bool, true, false, List}
use Rattle.std.specs.List.{All}
use Rattle.page_types.specs.declared.command.Command.{Command}
use Rattle.page_types.specs.declared.command.Command.TheVariants.{Fresh}
use Rattle.page_types.specs.Stores.{StoreState}
use Rattle.page_types.specs.Obeys.{IsFormed, after, after_all}

abbrev pub is_fresh : Command → Bool
is_fresh Fresh = true
is_fresh command = false

-- Where a store obeys the command, then others, and then the command again, it changed nothing the first time, or it changes
-- nothing the second time.
abbrev pub ActsOnce : Command → Type 0
ActsOnce command = (state : StoreState) (others : List Command) → All IsFormed others →
    (after state command ≡ state)
    ⊎ (after (after_all (after state command) others) command ≡ after_all (after state command) others)
