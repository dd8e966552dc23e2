use Rattle.std.proofs.Common.{◌≡◌, length, find}
use Rattle.fs_rules.specs.Names.{has_name}
use Rattle.plain_nodes.proofs.entries.entry_named.Given as goal

abbrev pub invariant-loop-name : goal.invariant-loop-name
invariant-loop-name l = find (has_name l.name) l.entries ≡ find (has_name l.name) l.rest

abbrev pub decreases-loop-name : goal.decreases-loop-name
decreases-loop-name l = length l.rest
