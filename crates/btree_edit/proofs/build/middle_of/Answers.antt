use Rattle.std.proofs.Common.{add-one, arith}
use Rattle.btree_edit.proofs.Parting.{short_there, step_total, step_short, middle_so, middle_end}
use Rattle.btree_edit.proofs.build.middle_of.Goals as goal

pub returns-then-taken-ge-HALF : goal.returns-then-taken-ge-HALF
returns-then-taken-ge-HALF c = middle_so c.args.cells.now c.loop-i.i c.loop-i.taken (omega arith) c.loop-i.invariant.0
    c.loop-i.invariant.1 (λ _. c.if-taken-ge-HALF.true)

pub size_of-taken-requires : goal.size_of-taken-requires
size_of-taken-requires c = short_there c.args.cells.now c.loop-i.i _ c.requires c.loop-i-test.true

pub overflow_add-taken : goal.overflow_add-taken
overflow_add-taken c =
    omega (
      arith,
      step_short c.args.cells.now c.loop-i.i _ c.size_of-taken.result c.requires c.loop-i-test.true
          c.size_of-taken.ensures,
    )

pub loop-i-preserved : goal.loop-i-preserved
loop-i-preserved c =
    let short = step_short c.args.cells.now c.loop-i.i _ c.size_of-taken.result c.requires c.loop-i-test.true
    c.size_of-taken.ensures in (
      rw add-one (step_total c.args.cells.now c.loop-i.i _ c.loop-i.taken c.size_of-taken.result c.loop-i-test.true
          c.loop-i.invariant.0 c.size_of-taken.ensures),
      omega (arith, short),
    )

pub returns : goal.returns
returns c = middle_end c.args.cells.now c.loop-i.i c.loop-i.taken (omega arith) (omega arith) c.loop-i.invariant.0
    c.loop-i.invariant.1
