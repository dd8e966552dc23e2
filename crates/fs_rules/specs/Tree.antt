-- The plain tree: all that one export keeps, as plain data. A snapshot is a whole copy, and a file's content is
-- all of its bytes (RFC 1813, sections 1.6 and 2.6; snapshots, lanes and cuts are this service's own).
use Rattle.std.specs.Prelude.{◌==◌, if◌then◌else◌, ◌∷◌}
use Rattle.fs_rules.specs.Words.{ℕ, List, [], slice_index_or, Option, Some, None, Dir, Moment, Inode, NameEntry, Times}

pub record Node : Type 0 where
  pub inode : Inode
  -- the bytes of a file, or the path that a symbolic link leads to
  pub content : List ℕ
  -- what a directory has, by rising cookie
  pub names : List NameEntry

abbrev pub Nodes : Type 0
Nodes = ℕ → Option Node

pub record Snapshot : Type 0 where
  pub name : List ℕ
  pub number : ℕ
  pub nodes : Nodes

pub record Tree : Type 0 where
  -- the live tree
  pub nodes : Nodes
  -- the numbers of the next new files, by the sixteen lanes of the calls that make them
  pub next_fileids : List ℕ
  -- the number of the next snapshot
  pub epoch : ℕ
  -- the times of the directory `.snapshot`
  pub snapshot_times : Times
  -- by rising number
  pub snapshots : List Snapshot
  pub fsid : ℕ
  -- what tells a client that the server did not lose what it wrote (writeverf3)
  pub verifier : List ℕ

abbrev pub next_fileid : Tree → ℕ → ℕ
next_fileid t lane = slice_index_or t.next_fileids lane 0

-- a directory in the root, of owner and group 0
unfoldable pub root_inode : ℕ → ℕ → Times → Inode
root_inode nlink next_cookie times = record {
  kind = Dir;
  -- octal 0755
  mode = 493;
  nlink = nlink;
  uid = 0;
  gid = 0;
  atime = times.atime;
  mtime = times.mtime;
  ctime = times.ctime;
  parent = 1;
  next_cookie = next_cookie;
  verifier = None;
  cuts = 0;
}

abbrev pub always : Moment → Times
always at = record { atime = at; mtime = at; ctime = at }

-- the root is its own parent
abbrev pub first_nodes : Moment → Nodes
first_nodes first = λ fileid.
    if fileid == 1 then Some (record { inode = root_inode 2 3 (always first); content = []; names = [] }) else None

abbrev pub first_fileids : List ℕ
first_fileids = 16 ∷ 17 ∷ 18 ∷ 19 ∷ 20 ∷ 21 ∷ 22 ∷ 23 ∷ 24 ∷ 25 ∷ 26 ∷ 27 ∷ 28 ∷ 29 ∷ 30 ∷ 31 ∷ []

-- the tree as it begins: the root is file 1, and lane l gives the numbers 16 + l, 32 + l and so on
unfoldable pub first_tree : ℕ → List ℕ → Moment → Tree
first_tree fsid verifier first = record {
  nodes = first_nodes first;
  next_fileids = first_fileids;
  epoch = 1;
  snapshot_times = always first;
  snapshots = [];
  fsid = fsid;
  verifier = verifier;
}
