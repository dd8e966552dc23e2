use Rattle.std.proofs.Common.{add-one}
use Rattle.btree_edit.proofs.Lists.{taken_next}
use Rattle.btree_edit.proofs.build.cells_of.Goals as goal

pub loop-i-preserved : goal.loop-i-preserved
loop-i-preserved c =
    let at = rw c.unwrap-cell.ensures at c.cell.ensures.cell in
    rw add-one (taken_next c.args.view.now.cells c.loop-i.cells.items c.push.new.self.items c.loop-i.i c.unwrap-cell.result
    c.loop-i.invariant at c.in_ok-push.ensures.items)
