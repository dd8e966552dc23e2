use Rattle.std.proofs.Common.{suc, add-one, arith}
use Rattle.btree_edit.proofs.Parting.{short_there, step_total, taken_within}
use Rattle.btree_edit.proofs.build.bytes_of.Goals as goal

pub size_of-taken-requires : goal.size_of-taken-requires
size_of-taken-requires c = short_there c.args.cells.now c.loop-cell.cell-index _ c.requires.short c.loop-cell-test.true

pub overflow_add-taken : goal.overflow_add-taken
overflow_add-taken c =
    let total = step_total c.args.cells.now c.loop-cell.cell-index _ c.loop-cell.taken c.size_of-taken.result
    c.loop-cell-test.true c.loop-cell.invariant c.size_of-taken.ensures in
    omega (arith, total, taken_within c.args.cells.now (suc c.loop-cell.cell-index), c.requires.few)

pub loop-cell-preserved : goal.loop-cell-preserved
loop-cell-preserved c =
    rw add-one (step_total c.args.cells.now c.loop-cell.cell-index _ c.loop-cell.taken c.size_of-taken.result
    c.loop-cell-test.true c.loop-cell.invariant c.size_of-taken.ensures)
