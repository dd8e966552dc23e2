-- An inode that was saved.
use Rattle.std.specs.Prelude.{ℕ, ◌≡◌, Some}
use Rattle.pairs.specs.Versions.{HasLives, with_put}
use Rattle.pairs.specs.Told.{PairsTold, Moves}
use Rattle.fs_keys.specs.declared.key_parts.KeyParts.TheVariants.{Inode as InodeKey}
use Rattle.fs_keys.specs.declared.inode.Inode.{Inode}
use Rattle.fs_keys.specs.Inodes.{inode_of, value_of}
use Rattle.fs_keys.specs.Keys.{key_of}

-- the inode's value was put at the key of the file, and it spells the inode
pub record Saves {S W : Type 0} (told : PairsTold S W) (old new : S) (id : ℕ) (i : Inode) : Type 0 where
  pub moves : Moves told old new HasLives (with_put (key_of (InodeKey id)) (value_of i))
  pub again : inode_of (value_of i) ≡ Some i
