use Rattle.std.proofs.Common.{◌≡◌, map, take}
use Rattle.btree_page.specs.Cells.{entry_of}
use Rattle.btree_edit.proofs.build.cells_of.Given as goal

abbrev pub invariant-loop-i : goal.invariant-loop-i
invariant-loop-i l = map entry_of l.cells.items ≡ take l.i l.view.cells
