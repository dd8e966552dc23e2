-- The name is among the entries where it is among those that are left.
use Rattle.std.proofs.Common.{◌≡◌, length, is_some}
use Rattle.fs_rules.specs.Names.{named}
use Rattle.procs_mkdir.proofs.checks.has_name.Given as goal

abbrev pub invariant-loop-name : goal.invariant-loop-name
invariant-loop-name l = is_some (named l.name l.entries) ≡ is_some (named l.name l.rest)

abbrev pub decreases-loop-name : goal.decreases-loop-name
decreases-loop-name l = length l.rest
