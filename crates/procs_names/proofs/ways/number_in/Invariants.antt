-- The first entry of the name is the first of those that are left.
use Rattle.std.proofs.Common.{◌≡◌, length}
use Rattle.std.specs.Prelude.{option_map}
use Rattle.fs_rules.specs.Names.{named}
use Rattle.procs_names.specs.Naming.{fileid_of}
use Rattle.procs_names.proofs.ways.number_in.Given as goal

abbrev pub invariant-loop-name : goal.invariant-loop-name
invariant-loop-name l = option_map fileid_of (named l.name l.entries) ≡ option_map fileid_of (named l.name l.rest)

abbrev pub decreases-loop-name : goal.decreases-loop-name
decreases-loop-name l = length l.rest
