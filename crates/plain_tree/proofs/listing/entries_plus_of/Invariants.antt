use Rattle.std.proofs.Common.{◌≡◌, map, take}
use Rattle.fs_rules.specs.Listing.{entry_plus}
use Rattle.plain_tree.specs.Trees.{tree_of}
use Rattle.plain_tree.proofs.listing.entries_plus_of.Given as goal

abbrev pub invariant-loop-e : goal.invariant-loop-e
invariant-loop-e l = l.entries.items ≡ map (entry_plus (tree_of l.tree)) (take l.e-index l.told)
