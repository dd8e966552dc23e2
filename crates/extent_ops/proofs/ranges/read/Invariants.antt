use Rattle.std.proofs.Common.{◌≤◌, ◌-◌, length}
use Rattle.pairs.specs.Told.{Goes, Tells}
use Rattle.extent_ops.specs.Marking.{as_marks}
use Rattle.extent_ops.specs.Ranges.{ReadsBytes}
use Rattle.extent_ops.proofs.ranges.read.Given as goal

abbrev pub invariant-loop-done : goal.invariant-loop-done
invariant-loop-done g l = record {
  within : l.done ≤ length l.room;
  goes : Goes g.P.Pairs.told l.initial.pairs l.pairs 0;
  told : Tells g.P.Pairs.told l.initial.pairs l.pairs (ReadsBytes l.at l.file (as_marks l.marks) l.offset l.done l.room);
}

abbrev pub decreases-loop-done : goal.decreases-loop-done
decreases-loop-done g l = length l.initial.room - l.done
