use Rattle.std.proofs.Common.{◌≡◌, map, take}
use Rattle.btree_page.specs.Cells.{entry_of}
use Rattle.btree_edit.proofs.build.build.Given as goal

abbrev pub invariant-loop-cell : goal.invariant-loop-cell
invariant-loop-cell l = l.builder ≡ record { level = l.level; cells = map entry_of (take l.cell-index l.cells) }
