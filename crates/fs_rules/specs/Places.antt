-- Where handles lead, and where the names of a directory lead.
use Rattle.std.specs.Prelude.{◌+◌, ◌-◌, ◌^◌, ◌==◌, ◌&&◌, if◌then◌else◌}
use Rattle.fs_rules.specs.Words.{ℕ, Bool, false, List, [], map, length, find, Option, Some, None, option_map, Fattr, Wcc, Handle}
use Rattle.fs_rules.specs.Words.{handle, Inode, NameEntry, Place, Live, SnapshotDirectory, Kept}
use Rattle.fs_rules.specs.{Attributes.attributes_of, Attributes.wcc_of, Names.is_dot, Names.is_dot_dot, Names.names_snapshots}
use Rattle.fs_rules.specs.{Names.named, Tree.Node, Tree.Snapshot, Tree.Tree, Tree.root_inode}

-- A handle names the file system, the snapshot and the file. Snapshot 0 is the live tree, and the greatest number, with
-- file 2, stands for the directory `.snapshot`.
abbrev pub no_snapshot : ℕ
no_snapshot = 2 ^ 64 - 1

unfoldable pub place_of : Handle → Place
place_of h =
    if h.snapshot == 0 then Live h.fileid
    else (if (h.snapshot == no_snapshot) && (h.fileid == 2) then SnapshotDirectory
    else Kept h.snapshot h.fileid)

abbrev pub snapshot_at : Place → ℕ
snapshot_at (Live fileid) = 0
snapshot_at SnapshotDirectory = no_snapshot
snapshot_at (Kept number fileid) = number

abbrev pub fileid_at : Place → ℕ
fileid_at (Live fileid) = fileid
fileid_at SnapshotDirectory = 2
fileid_at (Kept number fileid) = fileid

unfoldable pub handle_at : Tree → Place → List ℕ
handle_at t place = handle.spelling (record { fsid = t.fsid; snapshot = snapshot_at place; fileid = fileid_at place })

-- a snapshot as an entry of `.snapshot`, which says its number
abbrev pub snapshot_entry : Snapshot → NameEntry
snapshot_entry s = record { cookie = s.number + 2; name = s.name; fileid = s.number }

unfoldable pub snapshot_directory : Tree → Node
snapshot_directory t = record {
  inode = root_inode (2 + length t.snapshots) (t.epoch + 2) t.snapshot_times;
  content = [];
  names = map snapshot_entry t.snapshots;
}

abbrev pub has_number : ℕ → Snapshot → Bool
has_number number s = s.number == number

unfoldable pub snapshot_numbered : Tree → ℕ → Option Snapshot
snapshot_numbered t number = find (has_number number) t.snapshots

abbrev pub node_in : Option Snapshot → ℕ → Option Node
node_in (Some s) fileid = s.nodes fileid
node_in None fileid = None

unfoldable pub node_at : Tree → Place → Option Node
node_at t (Live fileid) = t.nodes fileid
node_at t SnapshotDirectory = Some (snapshot_directory t)
node_at t (Kept number fileid) = node_in (snapshot_numbered t number) fileid

abbrev pub content_of : Option Node → List ℕ
content_of (Some n) = n.content
content_of None = []

abbrev pub names_of : Option Node → List NameEntry
names_of (Some n) = n.names
names_of None = []

abbrev pub content_at : Tree → Place → List ℕ
content_at t place = content_of (node_at t place)

abbrev pub names_at : Tree → Place → List NameEntry
names_at t place = names_of (node_at t place)

-- what was found: where, its inode, and the length of its content
pub record Object : Type 0 where
  pub place : Place
  pub inode : Inode
  pub size : ℕ

abbrev pub object_by : Place → Node → Object
object_by place n = record { place = place; inode = n.inode; size = length n.content }

unfoldable pub object_at : Tree → Place → Option Object
object_at t place = option_map (object_by place) (node_at t place)

-- the object of a handle of this tree
unfoldable pub object_of : Tree → Handle → Option Object
object_of t h = if h.fsid == t.fsid then object_at t (place_of h) else None

-- the attributes of snapshot n's files are of the file system n further on
abbrev pub fsid_at : Tree → Place → ℕ
fsid_at t (Live fileid) = t.fsid
fsid_at t SnapshotDirectory = t.fsid
fsid_at t (Kept number fileid) = t.fsid + number

unfoldable pub attributes : Tree → Object → Fattr
attributes t o = attributes_of (fsid_at t o.place) (fileid_at o.place) o.inode o.size

unfoldable pub shown : Tree → Place → Option Fattr
shown t place = option_map (attributes t) (object_at t place)

abbrev pub change : Tree → Tree → Place → Wcc
change before after place = wcc_of (shown before place) (shown after place)

-- the directory above: the root is above itself, `.snapshot` above a snapshot's root, and the root above it
abbrev pub above : Place → Inode → Place
above (Live fileid) i = Live i.parent
above SnapshotDirectory i = Live 1
above (Kept number fileid) i = if fileid == 1 then SnapshotDirectory else Kept number i.parent

-- where an entry of a directory leads: one of `.snapshot` to the snapshot's root
abbrev pub beside : Place → NameEntry → Place
beside (Live directory) e = Live e.fileid
beside SnapshotDirectory e = Kept e.fileid 1
beside (Kept number directory) e = Kept number e.fileid

-- the live root, where `.snapshot` is a name that no entry has
abbrev pub is_live_root : Place → Bool
is_live_root (Live fileid) = fileid == 1
is_live_root place = false

abbrev pub is_snapshots_name : Place → List ℕ → Bool
is_snapshots_name place name = is_live_root place && names_snapshots name

unfoldable pub entry_at : Tree → Place → List ℕ → Option NameEntry
entry_at t directory name = named name (names_at t directory)

unfoldable pub place_named : Tree → Object → List ℕ → Option Place
place_named t directory name =
    if is_dot name then Some directory.place
    else (if is_dot_dot name then Some (above directory.place directory.inode)
    else (if is_snapshots_name directory.place name then Some SnapshotDirectory
    else option_map (beside directory.place) (entry_at t directory.place name)))

-- What stands where a name leads. In a sound tree that is never nothing; where it is, the name is as good as not there.
abbrev pub leads_to : Tree → Place → Option Object
leads_to t place = object_at t place
