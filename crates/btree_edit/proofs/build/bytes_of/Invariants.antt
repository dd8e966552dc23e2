use Rattle.std.proofs.Common.{◌≡◌, map, take}
use Rattle.btree_page.specs.Cells.{entry_of}
use Rattle.btree_edit.specs.Made.{size}
use Rattle.btree_edit.proofs.build.bytes_of.Given as goal

abbrev pub invariant-loop-cell : goal.invariant-loop-cell
invariant-loop-cell l = l.taken ≡ size (map entry_of (take l.cell-index l.cells))
