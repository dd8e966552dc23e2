use Rattle.std.proofs.Common.{arith}
use Rattle.plain_tree.specs.Trees.{tree_of}
use Rattle.service.proofs.ServedSteps.{has_shape, stays_sound}
use Rattle.service.proofs.served_tree.ServedTreeTree.answer.Goals as goal

pub invariant_of-self : goal.invariant_of-self
invariant_of-self c = record {
  sound = stays_sound (tree_of c.args.self.now.tree) (tree_of c.answer.new.self)
      (record { cred = c.args.cred.now; call = c.args.call.now; now = c.args.moment; lane = 0 }) c.answer.result
      c.answer.ensures (omega arith) c.args.self.now.sound c.calls_keep_trees_sound.ensures;
}

pub spelled-requires : goal.spelled-requires
spelled-requires c =
    has_shape (tree_of c.args.self.now.tree) (tree_of c.answer.new.self)
    (record { cred = c.args.cred.now; call = c.args.call.now; now = c.args.moment; lane = 0 }) c.in_ok-reply.reply
    c.in_ok-reply.ensures.ok c.args.self.now.sound c.replies_have_shape.ensures
