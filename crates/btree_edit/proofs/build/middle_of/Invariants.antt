use Rattle.std.proofs.Common.{◌≡◌, ◌<◌, map, take}
use Rattle.btree_page.specs.Cells.{entry_of}
use Rattle.btree_edit.specs.Made.{size}
use Rattle.btree_edit.proofs.build.middle_of.Given as goal

abbrev pub invariant-loop-i : goal.invariant-loop-i
invariant-loop-i l = (l.taken ≡ size (map entry_of (take l.i l.cells))) × (l.taken < 5580)
