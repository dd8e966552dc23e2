-- Walks from a place to where they end.
use Rattle.std.specs.Prelude.{ℕ, ◌<◌, ◌^◌, ⊤, Bool, true, false, List, Option, Some, None}
use Rattle.sweeper.specs.declared.place.SweepPlace.{SweepPlace}
use Rattle.sweeper.specs.declared.place.SweepPlace.TheVariants.{Files, Extents, Dead}
use Rattle.sweeper.specs.declared.place.Walk.{Walk}
use Rattle.sweeper.specs.Keeping.{Known}
use Rattle.sweeper.specs.Knowing.{AreKept, Knows}

abbrev pub is_whole : SweepPlace → Bool
is_whole (Files after) = true
is_whole (Extents file None) = true
is_whole (Extents file (Some index)) = false
is_whole (Dead from) = true

-- a file at a place fits its key
abbrev pub FileFits : SweepPlace → Type 0
FileFits (Files after) = ⊤
FileFits (Extents file after) = file < 2 ^ 64
FileFits (Dead from) = ⊤

-- a walk that begins at a place
abbrev pub walk_of : SweepPlace → Walk
walk_of place = record { place = place; whole = is_whole place }

-- what is known where a walk ends: all, if it came to the end
abbrev pub EndsKnown : Bool → List ℕ → Option SweepPlace → Known
EndsKnown trusted kept None = Knows trusted kept None
EndsKnown trusted kept (Some place) = λ v t. AreKept kept t
