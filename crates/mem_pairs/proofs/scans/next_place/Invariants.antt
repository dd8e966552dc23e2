use Rattle.std.proofs.Common.{take}
use Rattle.pairs.specs.Lives.{sees}
use Rattle.mem_pairs.specs.Scans.{Least, is_behind}
use Rattle.mem_pairs.proofs.scans.next_place.Given as goal

abbrev pub invariant-loop-i : goal.invariant-loop-i
invariant-loop-i l = Least (sees l.at) (is_behind l.after) (take l.i l.rows) l.best
