use Rattle.std.proofs.Common.{◌≡◌, ◌++◌, map, take}
use Rattle.fs_rules.specs.declared.place.Place.TheVariants.{SnapshotDirectory}
use Rattle.fs_rules.specs.Listing.{behind, listed}
use Rattle.fs_rules.specs.Places.{snapshot_entry}
use Rattle.plain_tree.specs.Trees.{snapshot_of}
use Rattle.plain_tree.proofs.listed.push_snapshots.Given as goal

abbrev pub invariant-loop-s : goal.invariant-loop-s
invariant-loop-s l =
    l.entries.items ≡ l.fn.entries.items
    ++ behind l.cookie (map (listed SnapshotDirectory) (map snapshot_entry (map snapshot_of (take l.s-index l.snapshots))))
