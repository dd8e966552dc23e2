-- What the edits of REMOVE, RMDIR and LINK need of a tree, and what they show of a directory.
use Rattle.std.specs.Prelude.{ℕ, ◌+◌, ◌-◌, List}
use Rattle.nfs3_types.specs.declared.attributes.Fattr.{Fattr}
use Rattle.nfs3_types.specs.declared.moment.Moment.{Moment}
use Rattle.fs_rules.specs.Edits.{add_link, add_name, drop_node, edit_node, set_ctime, touch}
use Rattle.fs_rules.specs.Removing.{lose_name}
use Rattle.fs_rules.specs.Tree.{Tree}
use Rattle.fs_shows.specs.Files.{MayGo}
use Rattle.inode_ops.specs.Changes.{HasLinkLeft}
use Rattle.inode_ops.specs.Losing.{MayLose}
use Rattle.dir_ops.specs.Directories.{CanAdd, CanDrop}

-- ---- what is needed

-- the file may lose a name, and the directory has the name behind that
pub record CanRemove (now : Moment) (directory : ℕ) (name : List ℕ) (file : ℕ) (t : Tree) : Type 0 where
  pub lose : MayLose file t
  pub drop : CanDrop directory name (lose_name now file t)

-- the directory within may go, and the one above has the name behind that
pub record CanRemoveDirectory (directory : ℕ) (name : List ℕ) (within : ℕ) (t : Tree) : Type 0 where
  pub go : MayGo within t
  pub drop : CanDrop directory name (drop_node within t)

-- a file has a name more, but for the name itself
abbrev pub with_link : Moment → ℕ → Tree → Tree
with_link now file t = edit_node file (λ n. set_ctime now (add_link n)) t

-- a file has a further name in a directory
abbrev pub linked : Moment → ℕ → List ℕ → ℕ → Tree → Tree
linked now directory name file t = edit_node directory (λ n. touch now (add_name name file n)) (with_link now file t)

-- the file may have a name more, and the directory has room for it behind that
pub record CanLink (now : Moment) (directory : ℕ) (name : List ℕ) (file : ℕ) (t : Tree) : Type 0 where
  pub link : HasLinkLeft file t
  pub add : CanAdd directory name (with_link now file t)

-- ---- what is shown

-- the attributes of a directory behind a change of its names
abbrev pub touched : Moment → Fattr → Fattr
touched now a = record a { mtime = now; ctime = now }

-- those of one that lost a subdirectory
abbrev pub touched_less : Moment → Fattr → Fattr
touched_less now a = record a { nlink = a.nlink - 1; mtime = now; ctime = now }

-- those of a file with a name more
abbrev pub linked_more : Moment → Fattr → Fattr
linked_more now a = record a { nlink = a.nlink + 1; ctime = now }
