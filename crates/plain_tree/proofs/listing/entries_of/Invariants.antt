use Rattle.std.proofs.Common.{◌≡◌, map, take}
use Rattle.fs_rules.specs.Listing.{entry}
use Rattle.plain_tree.proofs.listing.entries_of.Given as goal

abbrev pub invariant-loop-e : goal.invariant-loop-e
invariant-loop-e l = l.entries.items ≡ map entry (take l.e-index l.told)
