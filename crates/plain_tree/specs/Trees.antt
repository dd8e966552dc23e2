-- What the code's trees are, as plain data.
use Rattle.std.specs.Prelude.{map}
use Rattle.fs_rules.specs.declared.name_entry.NameEntry.{NameEntry}
use Rattle.fs_rules.specs.Places.{snapshot_entry}
use Rattle.fs_rules.specs.Tree as plain
use Rattle.plain_nodes.specs.Nodes.{nodes_of}
use Rattle.plain_tree.specs.declared.snapshot.Snapshot.{Snapshot}
use Rattle.plain_tree.specs.declared.plain.Plain.{Plain}

abbrev pub snapshot_of : Snapshot → plain.Snapshot
snapshot_of s = record { name = s.name; number = s.number; nodes = nodes_of s.nodes }

-- a snapshot as an entry of `.snapshot`
abbrev pub entry_of : Snapshot → NameEntry
entry_of s = snapshot_entry (snapshot_of s)

abbrev pub tree_of : Plain → plain.Tree
tree_of p = record {
  nodes = nodes_of p.nodes;
  next_fileids = p.next_fileids;
  epoch = p.epoch;
  snapshot_times = p.snapshot_times;
  snapshots = map snapshot_of p.snapshots.items;
  fsid = p.fsid;
  verifier = p.verifier;
}
