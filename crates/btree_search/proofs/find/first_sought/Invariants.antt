use Rattle.std.proofs.Common.{◌-◌}
use Rattle.btree_search.proofs.Halving.{Between}
use Rattle.btree_search.proofs.find.first_sought.Given as goal

abbrev pub invariant-loop-low : goal.invariant-loop-low
invariant-loop-low l = Between l.aim (record { key = l.key; birth = l.birth }) l.view.cells l.low l.high

abbrev pub decreases-loop-low : goal.decreases-loop-low
decreases-loop-low l = l.high - l.low
