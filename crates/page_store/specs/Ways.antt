-- Holds, where they stand, and what bars a command.
use Rattle.std.specs.Prelude.{ℕ, Bool, true, false, if◌then◌else◌, List, [], ◌∷◌, Option, Some, None}
use Rattle.pair_types.specs.declared.slot.Tid.{Tid}
use Rattle.page_types.specs.declared.hold.Hold.{Hold}
use Rattle.page_types.specs.declared.hold.WriteHold.{WriteHold}
use Rattle.page_types.specs.declared.answer.Answer.{Answer}
use Rattle.page_types.specs.declared.answer.Answer.TheVariants.{Prepared}
use Rattle.page_types.specs.Accesses.{is_same}

abbrev pub writer_of : Option WriteHold → Option Hold
writer_of None = None
writer_of (Some w) = Some w.hold

-- a writer's hold of another transaction
abbrev pub other_writer_of : Tid → Option WriteHold → Option Hold
other_writer_of tid None = None
other_writer_of tid (Some w) = if is_same w.hold.tid tid then None else Some w.hold

abbrev pub own_prepared : Bool → Option Answer
own_prepared true = Some Prepared
own_prepared false = None
