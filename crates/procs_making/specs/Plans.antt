-- The checks of SYMLINK and of MKDIR that follow once there is room.
use Rattle.std.specs.Prelude.{ℕ, Bool, List}
use Rattle.nfs3_types.specs.declared.args.MkdirArgs.{MkdirArgs}
use Rattle.nfs3_types.specs.declared.args.SymlinkArgs.{SymlinkArgs}
use Rattle.nfs3_types.specs.declared.cred.Cred.{Cred}
use Rattle.nfs3_types.specs.declared.file_type.FileType.TheVariants.{Dir, Lnk}
use Rattle.fs_rules.specs.declared.inode.Inode.{Inode}
use Rattle.fs_rules.specs.Checks.{Check, ◌>>=◌, no_fault}
use Rattle.fs_rules.specs.Names.{target_fault}
use Rattle.procs_making.specs.Rooms.{free_check, node_check}

unfoldable pub link_check : Cred → SymlinkArgs (List ℕ) → Inode → Bool → ℕ → Check (Unit {0})
link_check cred a directory is_there next = do
  _ ← free_check cred directory is_there
  _ ← no_fault (target_fault a.target)
  node_check cred directory Lnk a.attributes next

unfoldable pub directory_check : Cred → MkdirArgs (List ℕ) → Inode → Bool → ℕ → Check (Unit {0})
directory_check cred a directory is_there next = do
  _ ← free_check cred directory is_there
  node_check cred directory Dir a.attributes next
