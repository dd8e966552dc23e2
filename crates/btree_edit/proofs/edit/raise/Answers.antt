use Rattle.btree_edit.specs.Edits.{bound_at}
use Rattle.btree_edit.proofs.Tops.{raised_so, fails_write}
use Rattle.btree_edit.proofs.edit.raise.Goals as goal

pub returns-in-Ok-write : goal.returns-in-Ok-write
returns-in-Ok-write g c =
    raised_so _ _ _ _ c.in-Ok.first c.in-Ok-put_two.second c.args.level c.args.left (bound_at c.args.key.now c.args.birth)
    c.args.right c.in-Ok-build.page c.args.store c.in-Ok.ensures c.in-Ok-put_two.ensures
    (rw (c.inner_cell.ensures.cell, c.inner_cell-2.ensures.cell) at c.in-Ok-build.ensures) c.in-Ok-write.ensures

pub returns-in-Err-write : goal.returns-in-Err-write
returns-in-Err-write g c =
    fails_write _ _ _ _ c.in-Ok.first c.in-Ok-put_two.second c.args.left c.args.right c.args.store c.in-Err-write.fault
    c.in-Ok.ensures c.in-Ok-put_two.ensures c.in-Err-write.ensures
