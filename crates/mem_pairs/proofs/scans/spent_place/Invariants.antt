use Rattle.std.proofs.Common.{take}
use Rattle.pairs.specs.Lives.{is_spent}
use Rattle.mem_pairs.specs.Scans.{Least, is_from}
use Rattle.mem_pairs.proofs.scans.spent_place.Given as goal

abbrev pub invariant-loop-i : goal.invariant-loop-i
invariant-loop-i l = Least (is_spent l.kept) (is_from l.from) (take l.i l.rows) l.best
