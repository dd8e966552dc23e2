use Rattle.btree_edit.proofs.Lists.{next_cell}
use Rattle.btree_edit.proofs.build.build.Goals as goal

pub add-requires-clause-next : goal.add-requires-clause-next
add-requires-clause-next c =
    (next_cell c.args.level c.args.cells.now c.loop-cell.cell-index _ c.loop-cell.builder c.loop-cell-test.true c.requires
    c.loop-cell.invariant).0

pub add-requires-clause-room : goal.add-requires-clause-room
add-requires-clause-room c =
    (next_cell c.args.level c.args.cells.now c.loop-cell.cell-index _ c.loop-cell.builder c.loop-cell-test.true c.requires
    c.loop-cell.invariant).1
