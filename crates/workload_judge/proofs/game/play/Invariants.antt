use Rattle.plain_tree.specs.Trees.{tree_of}
use Rattle.workload_judge.specs.Played.{PlayedTo}
use Rattle.workload_judge.proofs.game.play.Given as goal

abbrev pub invariant-loop-before : goal.invariant-loop-before
invariant-loop-before l = PlayedTo l.number 0 l.before (tree_of l.tree) l.driver
