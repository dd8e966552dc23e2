-- A file that loses a name.
use Rattle.std.specs.Prelude.{ℕ}
use Rattle.fs_rules.specs.Tree.{Tree}
use Rattle.fs_shows.specs.Files.{MayGo}
use Rattle.fs_shows.specs.Views.{IsThere}

-- the file is there, and may go
pub record MayLose (id : ℕ) (t : Tree) : Type 0 where
  pub there : IsThere id t
  pub go : MayGo id t
