-- A snapshot that is dropped.
use Rattle.std.specs.Prelude.{ℕ, ◌≡◌, List, map, Some, option_map}
use Rattle.fs_rules.specs.Names.{named}
use Rattle.fs_rules.specs.Places.{snapshot_entry}
use Rattle.fs_rules.specs.Sound.{AreSnapshots}
use Rattle.fs_rules.specs.Tree.{Tree}

-- the directory `.snapshot` has this name, for the snapshot of this number; numbers rise there, and no name stands twice
pub record IsNamed (number : ℕ) (name : List ℕ) (t : Tree) : Type 0 where
  pub there : option_map (λ e. e.fileid) (named name (map snapshot_entry t.snapshots)) ≡ Some number
  pub snapshots : AreSnapshots t (map snapshot_entry t.snapshots)
