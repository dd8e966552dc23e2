use Rattle.std.proofs.Common.{◌≡◌, length, find, map}
use Rattle.fs_rules.specs.Names.{has_name}
use Rattle.fs_rules.specs.Places.{snapshot_entry}
use Rattle.plain_tree.specs.Trees.{snapshot_of}
use Rattle.plain_tree.proofs.snapshots.snapshot_named.Given as goal

abbrev pub invariant-loop-name : goal.invariant-loop-name
invariant-loop-name l =
    find (has_name l.name) (map snapshot_entry (map snapshot_of l.snapshots))
    ≡ find (has_name l.name) (map snapshot_entry (map snapshot_of l.rest))

abbrev pub decreases-loop-name : goal.decreases-loop-name
decreases-loop-name l = length l.rest
