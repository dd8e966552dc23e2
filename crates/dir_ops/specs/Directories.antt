-- Directories that gain and lose a name.
use Rattle.std.specs.Prelude.{ℕ, ◌≡◌, ◌≤◌, ◌+◌, ◌-◌, Bool, true, false, if◌then◌else◌, List, Some, None, IsSome}
use Rattle.nfs3_types.specs.declared.file_type.FileType.{FileType}
use Rattle.nfs3_types.specs.declared.moment.Moment.{Moment}
use Rattle.fs_rules.specs.declared.inode.Inode.{Inode}
use Rattle.fs_rules.specs.Attributes.{is_directory}
use Rattle.fs_rules.specs.Edits.{touch, drop_link, drop_name}
use Rattle.fs_rules.specs.Limits.{most_links, most_numbers}
use Rattle.fs_rules.specs.Names.{named}
use Rattle.fs_rules.specs.Sound.{AreDistinct, Rise}
use Rattle.fs_rules.specs.Tree.{Tree, Node}
use Rattle.fs_shows.specs.Nodes.{numbered}

-- ---- a name more

-- what is kept of a directory that gains a name of a node of this kind
abbrev pub gained_by : FileType → Moment → Inode → Inode
gained_by kind now i = record i {
  nlink = if is_directory kind then i.nlink + 1 else i.nlink;
  next_cookie = i.next_cookie + 1;
  mtime = now;
  ctime = now;
}

-- a cookie and a link more are such as the table allows for
pub record CanGain (i : Inode) : Type 0 where
  pub cookies : i.next_cookie ≤ most_numbers
  pub links : i.nlink ≤ most_links

-- the directory is there, has room, and neither the name nor the next cookie is in use
pub record CanAdd (directory : ℕ) (name : List ℕ) (t : Tree) : Type 0 where
  pub node : Node
  pub there : t.nodes directory ≡ Some node
  pub free : named name node.names ≡ None
  pub fresh : numbered node.inode.next_cookie node.names ≡ None
  pub room : CanGain node.inode

-- ---- a name less

-- what is kept of a directory that loses a name, of a directory or of another node
abbrev pub lost_by : Bool → Moment → Inode → Inode
lost_by true now i = record i { nlink = i.nlink - 1; mtime = now; ctime = now }
lost_by false now i = record i { mtime = now; ctime = now }

abbrev pub lose_entry : Bool → List ℕ → Moment → Node → Node
lose_entry true name now n = touch now (drop_link (drop_name name n))
lose_entry false name now n = touch now (drop_name name n)

-- the directory is there and has the name; no name and no cookie stands in it twice
pub record CanDrop (directory : ℕ) (name : List ℕ) (t : Tree) : Type 0 where
  pub node : Node
  pub there : t.nodes directory ≡ Some node
  pub distinct : AreDistinct node.names
  pub cookies : Rise 3 node.inode.next_cookie node.names
  pub has : IsSome (named name node.names)
