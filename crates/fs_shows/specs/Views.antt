-- Views of a tree by number, and what the records of files are read as.
use Rattle.std.specs.Prelude.{ℕ, ⊤, Option, Some, None, IsSome, IsSomeAnd}
use Rattle.pairs.specs.declared.at.At.{At}
use Rattle.pairs.specs.declared.at.At.TheVariants.{Live, Snap}
use Rattle.fs_rules.specs.declared.place.Place.{Place}
use Rattle.fs_rules.specs.declared.place.Place.TheVariants.{Live as LivePlace, Kept}
use Rattle.fs_rules.specs.Places.{snapshot_numbered}
use Rattle.fs_rules.specs.Tree.{Tree, Node}
use Rattle.fs_keys.specs.declared.inode.Inode.{Inode}
use Rattle.fs_shows.specs.Nodes.{IsInodeOf}

-- where a file of a view stands
abbrev pub place_in : At → ℕ → Place
place_in Live id = LivePlace id
place_in (Snap number) id = Kept number id

-- the view is the live one, or that of a snapshot that is kept
abbrev pub IsKept : At → Tree → Type 0
IsKept Live t = ⊤
IsKept (Snap number) t = IsSome (snapshot_numbered t number)

-- what was found is the inode of this node, or there is neither
abbrev pub IsFoundAs : Option Inode → Option Node → Type 0
IsFoundAs None None = ⊤
IsFoundAs None (Some n) = ⊥
IsFoundAs (Some i) None = ⊥
IsFoundAs (Some i) (Some n) = IsInodeOf i n

-- the live tree has a node of this number
abbrev pub IsThere : ℕ → Tree → Type 0
IsThere id t = IsSomeAnd (t.nodes id) (λ n. ⊤)
