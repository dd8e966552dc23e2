-- Lanes that give numbers to new files.
use Rattle.std.specs.Prelude.{ℕ, ◌≤◌, ◌<◌, ◌+◌, length}
use Rattle.fs_rules.specs.Limits.{most_numbers}
use Rattle.fs_rules.specs.Tree.{Tree, next_fileid}

-- the tree has this lane
abbrev pub HasLane : ℕ → Tree → Type 0
HasLane lane t = lane < length t.next_fileids

-- the lane may give a number: it is none beyond those that numbers of nodes stay below
pub record CanGive (lane : ℕ) (t : Tree) : Type 0 where
  pub has : HasLane lane t
  pub most : next_fileid t lane ≤ most_numbers + 15
