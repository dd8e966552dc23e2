use Rattle.std.proofs.Common.{◌==◌, ◌∷◌, None, take, drop}
use Rattle.btree_page.specs.Cells.{entry_of}
use Rattle.btree_edit.proofs.Lists.{parts_of_cells}
use Rattle.btree_edit.proofs.Parting.{short_body}
use Rattle.btree_edit.proofs.build.put_in.Goals as goal

pub size_of-requires : goal.size_of-requires
size_of-requires c =
    let e = entry_of c.args.cell.now in
    let fits = (parts_of_cells (c.args.view.now.level == 0) None (take c.args.at c.args.view.now.cells)
    (e ∷ drop c.args.past c.args.view.now.cells) c.requires.nearly.rules).1.0 in
    short_body (c.args.view.now.level == 0) e.key e.birth e.body fits.key fits.body
