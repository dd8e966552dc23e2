use Rattle.std.proofs.Common.{◌≡◌, sym, ap, ◌∙◌}
use Rattle.btree_edit.proofs.Runs.{spliced_is}
use Rattle.btree_edit.proofs.build.spliced.Goals as goal

pub returns : goal.returns
returns c =
    let first = rw c.deref.ensures.value at c.in_ok-extend_from_slice.ensures.items in
    let third = rw c.deref-2.ensures.value at c.in_ok-extend_from_slice-2.ensures.items in
    spliced_is c.in_ok-old.old.items _ _ _ _ c.args.view.now.cells c.args.at c.args.past c.args.cell.now c.in_ok-old.ensures.cells
    c.in_ok-cells.ensures.items first c.in_ok-push.ensures.items third
