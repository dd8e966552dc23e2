-- Room for a new node: the checks of its directory and its name, and what is read there.
use Rattle.std.specs.Prelude.{ℕ, nat_le, ◌≡◌, ◌&&◌, Bool, List, Ok, option_map}
use Rattle.nfs3_types.specs.declared.args.DirOp.{DirOp}
use Rattle.nfs3_types.specs.declared.attributes.Sattr.{Sattr}
use Rattle.nfs3_types.specs.declared.cred.Cred.{Cred}
use Rattle.nfs3_types.specs.declared.file_type.FileType.{FileType}
use Rattle.nfs3_types.specs.declared.status.Status.TheVariants.{Acces, Exist, Inval, MLink, NoSpc, Perm}
use Rattle.fs_rules.specs.declared.inode.Inode.{Inode}
use Rattle.fs_rules.specs.Attributes.{is_file, is_too_large}
use Rattle.fs_rules.specs.Checks.{Check, ◌>>=◌, find_directory, need, need_search, refuse_if}
use Rattle.fs_rules.specs.Limits.{most_numbers}
use Rattle.fs_rules.specs.Making.{is_of_others, is_others, is_reserved, lacks_cookies, lacks_links}
use Rattle.fs_rules.specs.Places.{Object, entry_at}
use Rattle.fs_rules.specs.Rights.{may_write}
use Rattle.fs_rules.specs.Tree.{Tree, next_fileid}
use Rattle.fs_shows.specs.Nodes.{name_row}
use Rattle.procs_object.specs.Finding.{IsObject}
use Rattle.procs_making.specs.declared.room.Room.{Room}

-- ---- the checks that come first

-- of a directory that was found, and a name
unfoldable pub name_check : Cred → Object → List ℕ → Check (Unit {0})
name_check cred o name = do
  _ ← need_search cred o
  refuse_if (is_reserved o name) Exist

unfoldable pub room_found : Tree → Cred → DirOp (List ℕ) → Check Object
room_found t cred a = do
  o ← find_directory t a
  _ ← name_check cred o a.name
  Ok o

-- what was read is this of the tree
pub record IsRoom (name : List ℕ) (lane : ℕ) (t : Tree) (x : Room) (o : Object) : Type 0 where
  pub object : IsObject t x.directory o
  pub entry : option_map name_row (entry_at t o.place name) ≡ x.entry
  pub next : next_fileid t lane ≡ x.next

-- ---- the checks that follow

-- the name is free, and the caller may write in the directory
unfoldable pub free_check : Cred → Inode → Bool → Check (Unit {0})
free_check cred directory is_there = do
  _ ← refuse_if is_there Exist
  need (may_write cred directory) Acces

-- a new node of this kind can be made in the directory, with this number
unfoldable pub node_check : Cred → Inode → FileType → Sattr → ℕ → Check (Unit {0})
node_check cred directory kind s next = do
  _ ← refuse_if (is_others cred s.uid) Perm
  _ ← refuse_if (is_of_others cred s.gid) Perm
  _ ← refuse_if (is_file kind && is_too_large s.size) Inval
  _ ← refuse_if (lacks_links kind directory) MLink
  _ ← refuse_if (nat_le most_numbers next) NoSpc
  refuse_if (lacks_cookies directory) NoSpc
