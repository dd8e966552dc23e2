use Rattle.btree_edit.proofs.below.+edit_below.Given as goal

abbrev pub decreases-edit_below : goal.decreases-edit_below
decreases-edit_below g l = l.view.now.level
