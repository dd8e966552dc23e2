-- So far these entries are told.
use Rattle.std.proofs.Common.{take}
use Rattle.procs_listing.proofs.Rows.{HasTold}
use Rattle.procs_listing.proofs.telling.entries_plus_of.Given as goal

abbrev pub invariant-loop-e : goal.invariant-loop-e
invariant-loop-e g l = HasTold g.P.Pairs.told l.begins l.initial.pairs l.pairs (take l.e-index l.told) l.entries.items
