-- What is given of files that are read and changed.
use Rattle.std.specs.Prelude.{ℕ, ◌≡◌, ◌<◌, true, IsSomeAnd}
use Rattle.pairs.specs.declared.at.At.{At}
use Rattle.fs_rules.specs.Attributes.{is_file}
use Rattle.fs_rules.specs.Limits.{most_numbers}
use Rattle.fs_rules.specs.Places.{node_at}
use Rattle.fs_rules.specs.Sound.{is_given}
use Rattle.fs_rules.specs.Tree.{Tree, Node}
use Rattle.fs_shows.specs.Views.{place_in, IsKept}

abbrev pub IsFile : Node → Type 0
IsFile n = is_file n.inode.kind ≡ true

-- the view is one that is kept, and has a file of this number
pub record HasFile (at : At) (id : ℕ) (t : Tree) : Type 0 where
  pub kept : IsKept at t
  pub file : IsSomeAnd (node_at t (place_in at id)) IsFile

-- the number was given, and the live tree has a file of it
pub record MayFill (id : ℕ) (t : Tree) : Type 0 where
  pub given : is_given t id ≡ true
  pub file : IsSomeAnd (t.nodes id) IsFile

-- so it is, and the file was not cut too often
pub record MaySize (id : ℕ) (t : Tree) : Type 0 where
  pub fill : MayFill id t
  pub cuts : IsSomeAnd (t.nodes id) (λ n. n.inode.cuts < most_numbers)
