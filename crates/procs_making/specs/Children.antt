-- New nodes, as records say them, and the edit that makes one.
use Rattle.std.specs.Prelude.{ℕ, ◌+◌, if◌then◌else◌, List, [], Some, length}
use Rattle.nfs3_types.specs.declared.attributes.Fattr.{Fattr}
use Rattle.nfs3_types.specs.declared.body.CreateOk.{CreateOk}
use Rattle.nfs3_types.specs.declared.cred.Cred.{Cred}
use Rattle.nfs3_types.specs.declared.file_type.FileType.{FileType}
use Rattle.nfs3_types.specs.declared.moment.Moment.{Moment}
use Rattle.nfs3_types.specs.Handles.{handle}
use Rattle.fs_rules.specs.Attributes.{attributes_of, is_directory, is_file, size_of, wcc_of}
use Rattle.fs_rules.specs.Edits.{add_node, edit_node, give_number, zeros}
use Rattle.fs_rules.specs.Making.{Making, gain_name, new_node}
use Rattle.fs_rules.specs.Places.{fileid_at}
use Rattle.fs_rules.specs.Tree.{Tree, Node}
use Rattle.fs_keys.specs.declared.inode.Inode.{Inode}
use Rattle.fs_shows.specs.Files.{IsUngiven}
use Rattle.inode_ops.specs.Giving.{CanGive}
use Rattle.dir_ops.specs.Directories.{CanAdd}
use Rattle.procs_making.specs.declared.child.NewNode.{NewNode}
use Rattle.procs_making.specs.declared.room.Room.{Room}

-- the inode of a new node in this directory
abbrev pub new_inode : Cred → Moment → ℕ → Making → Inode
new_inode cred now parent m =
    let kept = (new_node cred now parent m).inode in
    record { head = record { kept = kept; size = size_of kept (length m.content); floor = 0 }; target = m.content }

-- a new node of this inode, where there is this room
abbrev pub child_of : Moment → ℕ → Room → Inode → NewNode
child_of now lane room inode = record {
  lane = lane;
  plan = record { directory = fileid_at room.directory.place; fileid = room.next };
  inode = inode;
  moment = now;
}

-- and of what is to be made
abbrev pub child_in : Cred → Moment → ℕ → Room → Making → NewNode
child_in cred now lane room m = child_of now lane room (new_inode cred now (fileid_at room.directory.place) m)

-- the zeros of a file of this size, and a link's path
abbrev pub content_by : Inode → List ℕ
content_by i = if is_file i.head.kept.kind then zeros i.head.size else i.target

-- the node of an inode that has no bytes but zeros or a link's path, and no names
abbrev pub node_by : Inode → Node
node_by i = record { inode = i.head.kept; content = content_by i; names = [] }

-- ---- the edit

-- the number is given, the node added, and the directory gains the name
abbrev pub made_in : List ℕ → NewNode → Tree → Tree
made_in name x t =
    edit_node x.plan.directory (gain_name x.inode.head.kept.kind name x.plan.fileid x.moment)
    (add_node x.plan.fileid (node_by x.inode) (give_number x.lane t))

-- the number was not given, the lane may give one, and the directory may gain the name
pub record CanMake (name : List ℕ) (x : NewNode) (t : Tree) : Type 0 where
  pub ungiven : IsUngiven x.plan.fileid t
  pub give : CanGive x.lane t
  pub add : CanAdd x.plan.directory name t

-- ---- what is told of it

-- the attributes of a directory that has gained a name
abbrev pub gained_attributes : FileType → Moment → Fattr → Fattr
gained_attributes kind now a =
    record a { nlink = if is_directory kind then a.nlink + 1 else a.nlink; mtime = now; ctime = now }

-- of the new node, in a directory that had these attributes
abbrev pub told_new : Fattr → NewNode → CreateOk
told_new directory x = record {
  object = Some (handle.spelling (record { fsid = directory.fsid; snapshot = 0; fileid = x.plan.fileid }));
  attributes = Some (attributes_of directory.fsid x.plan.fileid x.inode.head.kept x.inode.head.size);
  directory = wcc_of (Some directory) (Some (gained_attributes x.inode.head.kept.kind x.moment directory));
}
