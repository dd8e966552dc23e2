use Rattle.std.proofs.Common.{take}
use Rattle.pairs.specs.Lives.{sees}
use Rattle.mem_pairs.specs.Scans.{NonePasses}
use Rattle.mem_pairs.proofs.scans.first_seen.Given as goal

abbrev pub invariant-loop-i : goal.invariant-loop-i
invariant-loop-i l = NonePasses (sees l.at) (take l.i l.rows) l.key
