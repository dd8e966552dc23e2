-- Sizes of live files, as they are set.
use Rattle.std.specs.Prelude.{ℕ, ◌<◌, Bool, true, false, Some}
use Rattle.pairs.specs.declared.at.At.TheVariants.{Live}
use Rattle.pairs.specs.Versions.{Versions}
use Rattle.pairs.specs.Told.{PairsTold, Tells}
use Rattle.fs_rules.specs.Edits.{edit_node, set_size}
use Rattle.fs_keys.specs.declared.key_parts.KeyParts.TheVariants.{Inode as InodeKey}
use Rattle.fs_keys.specs.declared.inode.Inode.{Inode}
use Rattle.fs_keys.specs.Inodes.{inode_of}
use Rattle.fs_shows.specs.Extents.{row}
use Rattle.fs_shows.specs.Nodes.{Holds, marks_of}
use Rattle.fs_shows.specs.Steps.{Edits}
use Rattle.extent_ops.specs.Cuts.{Sweeps}
use Rattle.file_ops.specs.Given.{MaySize}

-- A size that waits for a sweep: the live file is larger, it is marked as one that may have stale extents, and the cut would
-- raise its floor.
pub record Waits (id size : ℕ) (v : Versions) : Type 0 where
  pub inode : Inode
  pub said : Holds inode_of (row v Live (InodeKey id)) (Some inode)
  pub falls : size < inode.head.size
  pub sweeps : Sweeps id (marks_of inode.head) size true v

-- the size was set, or it waits for a sweep and nothing was changed
abbrev pub SizesOrWaits : {S W : Type 0} → PairsTold S W → S → S → ℕ → ℕ → Bool → Type 0
SizesOrWaits told old new id size true = Edits told old new (MaySize id) (edit_node id (set_size size))
SizesOrWaits told old new id size false = Tells told old new (Waits id size)
