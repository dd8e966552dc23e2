use Rattle.std.proofs.Common.{◌≡◌, drop}
use Rattle.plain_tree.specs.Trees.{tree_of}
use Rattle.history_replay.specs.Replayed.{tree_after}
use Rattle.history_replay.proofs.replaying.replay.Given as goal

abbrev pub invariant-loop-entry : goal.invariant-loop-entry
invariant-loop-entry l =
    tree_after (tree_of l.tree) (drop l.entry-index l.entries) ≡ tree_after (tree_of l.fn.first) l.entries
