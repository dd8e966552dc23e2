use Rattle.std.proofs.Common.{◌≡◌, length, find, map}
use Rattle.fs_rules.specs.Places.{has_number}
use Rattle.plain_tree.specs.Trees.{snapshot_of}
use Rattle.plain_tree.proofs.snapshots.numbered.Given as goal

abbrev pub invariant-loop-rest : goal.invariant-loop-rest
invariant-loop-rest l = find (has_number l.number) (map snapshot_of l.snapshots) ≡ find (has_number l.number)
    (map snapshot_of l.rest)

abbrev pub decreases-loop-rest : goal.decreases-loop-rest
decreases-loop-rest l = length l.rest
