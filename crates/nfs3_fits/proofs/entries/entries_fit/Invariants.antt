use Rattle.std.proofs.Common.{All, take}
use Rattle.nfs3_types.specs.Replies.{dir_entry}
use Rattle.nfs3_fits.proofs.entries.entries_fit.Given as goal

abbrev pub invariant-loop-entry : goal.invariant-loop-entry
invariant-loop-entry l = All dir_entry.Fits (take l.entry-index l.entries)
