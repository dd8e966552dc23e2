use Rattle.std.proofs.Common.{◌≡◌}
use Rattle.fs_rules.specs.Renaming.{climb, through}
use Rattle.plain_nodes.specs.Nodes.{nodes_of}
use Rattle.plain_tree.proofs.renaming.climb.Given as goal

abbrev pub invariant-loop-left : goal.invariant-loop-left
invariant-loop-left l =
    climb (nodes_of l.nodes) l.sought l.most l.fileid ≡ through l.is_through (climb (nodes_of l.nodes) l.sought l.left l.at)

abbrev pub decreases-loop-left : goal.decreases-loop-left
decreases-loop-left l = l.left
