use Rattle.std.proofs.Common.{All, take}
use Rattle.nfs3_types.specs.Replies.{dir_entry_plus}
use Rattle.nfs3_fits.proofs.entries.entries_plus_fit.Given as goal

abbrev pub invariant-loop-entry : goal.invariant-loop-entry
invariant-loop-entry l = All dir_entry_plus.Fits (take l.entry-index l.entries)
