-- A new file: the checks of a name that is not there, and its inode, which says its size.
use Rattle.std.specs.Prelude.{ℕ, [], unwrap_or}
use Rattle.nfs3_types.specs.declared.args.CreateHow.{CreateHow}
use Rattle.nfs3_types.specs.declared.cred.Cred.{Cred}
use Rattle.nfs3_types.specs.declared.file_type.FileType.TheVariants.{Reg}
use Rattle.nfs3_types.specs.declared.moment.Moment.{Moment}
use Rattle.nfs3_types.specs.declared.status.Status.TheVariants.{Acces}
use Rattle.fs_rules.specs.declared.inode.Inode.{Inode as Kept}
use Rattle.fs_rules.specs.Checks.{Check, ◌>>=◌, need}
use Rattle.fs_rules.specs.Making.{Making, create_attributes, new_file}
use Rattle.fs_rules.specs.Rights.{may_write}
use Rattle.fs_keys.specs.declared.inode.Inode.{Inode}
use Rattle.procs_making.specs.Children.{new_inode}
use Rattle.procs_making.specs.Rooms.{node_check}

unfoldable pub file_check : Cred → CreateHow → Kept → ℕ → Check (Unit {0})
file_check cred how directory next = do
  _ ← need (may_write cred directory) Acces
  node_check cred directory Reg (create_attributes how) next

-- the size that a new file gets
abbrev pub new_size : CreateHow → ℕ
new_size how = unwrap_or (create_attributes how).size 0

-- a new file, but for its bytes
abbrev pub empty_file : CreateHow → Making
empty_file how = record (new_file how) { content = [] }

-- the inode says the size, and no extent stands behind it
abbrev pub file_inode : Cred → Moment → CreateHow → ℕ → Inode
file_inode cred now how parent =
    let i = new_inode cred now parent (empty_file how) in record i { head = record i.head { size = new_size how } }
