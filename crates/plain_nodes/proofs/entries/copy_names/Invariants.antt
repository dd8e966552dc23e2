use Rattle.std.proofs.Common.{◌≡◌, take}
use Rattle.plain_nodes.proofs.entries.copy_names.Given as goal

abbrev pub invariant-loop-entry : goal.invariant-loop-entry
invariant-loop-entry l = l.copies.items ≡ take l.entry-index l.names
