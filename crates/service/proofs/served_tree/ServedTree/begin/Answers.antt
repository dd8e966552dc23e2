use Rattle.plain_tree.specs.Trees.{tree_of}
use Rattle.service.specs.Served.{fsid, verifier}
use Rattle.service.proofs.ServedSteps.{begins_sound}
use Rattle.service.proofs.served_tree.ServedTree.begin.Goals as goal

pub returns : goal.returns
returns c = c.begin.ensures.first fsid verifier (record { seconds = 0; nanos = 0 }) c.requires

pub invariant_of-self : goal.invariant_of-self
invariant_of-self c = record {
  sound = begins_sound (tree_of c.args.self.now.tree) (tree_of c.begin.new.self) c.args.first
      (c.begin.ensures.first fsid verifier (record { seconds = 0; nanos = 0 }) c.requires) c.args.self.now.sound
      c.first_tree_is_sound.ensures;
}
