use Rattle.std.proofs.Common.{◌≡◌, ◌∙◌, sym}
use Rattle.std.proofs.lemmas.List.{at_drop_all}
use Rattle.plain_tree.specs.Trees.{tree_of}
use Rattle.history_replay.specs.Replayed.{tree_after}
use Rattle.history_replay.proofs.Legal.{leads_to}
use Rattle.history_replay.proofs.replaying.replay.Goals as goal

pub returns-clause-legal : goal.returns-clause-legal
returns-clause-legal c =
    let tree = tree_of c.loop-entry.tree in
    let left = at_drop_all (tree_after tree) c.args.entries.now c.loop-entry.entry-index c.loop-entry-test.false in
    leads_to (tree_of c.args.first) tree c.args.entries.now (sym left ∙ c.loop-entry.invariant)
