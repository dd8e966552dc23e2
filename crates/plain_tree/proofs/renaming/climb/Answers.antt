use Rattle.std.proofs.Common.{rules}
use Rattle.plain_nodes.specs.Nodes.{nodes_of}
use Rattle.plain_tree.proofs.Lines.{climb_step}
use Rattle.plain_tree.proofs.renaming.climb.Goals as goal

pub loop-left-preserved : goal.loop-left-preserved
loop-left-preserved c =
    climb_step (nodes_of c.args.nodes.now) c.args.sought c.loop-left.left c.loop-left.at _ c.loop-left.is_through _ _
    c.loop-left.invariant (search rules) c.passes-is_through.ensures (search rules) c.parent_of-at.ensures
