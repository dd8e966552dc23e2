use Rattle.std.proofs.Common.{◌≡◌, ◌≤◌, ◌<◌, ◌+◌, ◌-◌, ◌%◌, length}
use Rattle.pairs.specs.Told.{Goes}
use Rattle.extent_ops.specs.Marking.{as_marks}
use Rattle.extent_ops.specs.Steps.{HasBlocks, Makes}
use Rattle.extent_ops.specs.Ranges.{Writes, blocks_in}
use Rattle.extent_ops.proofs.ranges.write.Given as goal

abbrev pub invariant-loop-done : goal.invariant-loop-done
invariant-loop-done g l = record {
  within : l.done ≤ length l.content;
  even : 0 < l.done → l.done < length l.content → (l.offset + l.done) % 8192 ≡ 0;
  goes : Goes g.P.Pairs.told l.initial.pairs l.pairs (blocks_in l.offset l.done);
  wrote : Makes g.P.Pairs.told l.initial.pairs l.pairs HasBlocks
      (Writes l.file (as_marks l.marks) l.offset l.done l.content);
}

abbrev pub decreases-loop-done : goal.decreases-loop-done
decreases-loop-done g l = length l.content - l.done
