use Rattle.std.proofs.Common.{◌≡◌, ◌++◌, map, take}
use Rattle.fs_rules.specs.Listing.{behind, listed}
use Rattle.plain_tree.proofs.listed.push_names.Given as goal

abbrev pub invariant-loop-e : goal.invariant-loop-e
invariant-loop-e l = l.entries.items ≡ l.fn.entries.items ++ behind l.cookie (map (listed l.directory) (take l.e-index l.names))
