-- So far these entries were told.
use Rattle.std.proofs.Common.{◌≡◌, take}
use Rattle.procs_listing.proofs.Rows.{plains}
use Rattle.procs_listing.proofs.telling.entries_of.Given as goal

abbrev pub invariant-loop-e : goal.invariant-loop-e
invariant-loop-e l = l.entries.items ≡ plains (take l.e-index l.told)
