use Rattle.btree_page.specs.Cells.{edge_of}
use Rattle.btree_page.proofs.Index.{Indexed}
use Rattle.btree_page.proofs.view.index.Given as goal

abbrev pub invariant-loop-i : goal.invariant-loop-i
invariant-loop-i l = Indexed l.is_leaf l.i l.initial.cursor l.cursor (edge_of l.before) l.places
