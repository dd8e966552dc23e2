-- So far these entries were read.
use Rattle.procs_listing.specs.Entries.{size_with}
use Rattle.procs_listing.proofs.Filling.{HasRead}
use Rattle.procs_listing.proofs.fitting.list_behind.Given as goal

abbrev pub invariant-entries : goal.invariant-entries
invariant-entries g l =
    HasRead g.P.Pairs.told l.directory l.above
    (size_with l.bare) l.room l.cookie l.initial.pairs l.pairs l.told.items l.last l.left

abbrev pub decreases-entries : goal.decreases-entries
decreases-entries g l = l.left
