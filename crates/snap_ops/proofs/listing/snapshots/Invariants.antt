-- So far these entries were read.
use Rattle.std.proofs.Common.{◌-◌, length}
use Rattle.snap_ops.proofs.Listed.{HasRead}
use Rattle.snap_ops.proofs.listing.snapshots.Given as goal

abbrev pub invariant-entries : goal.invariant-entries
invariant-entries g l = HasRead g.P.Pairs.told l.initial.pairs l.pairs l.told.items l.last

abbrev pub decreases-entries : goal.decreases-entries
decreases-entries g l = 1024 - length l.told.items
