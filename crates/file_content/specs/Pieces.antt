-- Pieces, one behind another, and where an offset lies in them.
use Rattle.std.specs.Prelude.{ℕ, ◌≡◌, ◌+◌, ◌<◌, ◌≤◌, List, [], length, take, slice_index_or}
use Rattle.std.specs.List.{concat}
use Rattle.file_content.specs.declared.pieces.Place.{Place}

-- a place that lies this far from the start of the first piece
pub record IsPlace (pieces : List (List ℕ)) (offset : ℕ) (place : Place) : Type 0 where
  pub within : place.index ≤ length pieces
  pub at : length (concat (take place.index pieces)) + place.rest ≡ offset
  pub inside : place.index < length pieces → place.rest ≤ length (slice_index_or pieces place.index [])
