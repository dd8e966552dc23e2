use Rattle.fabric.proofs.Beginning.{pushed}
use Rattle.fabric.proofs.fabric.groups_of.Goals as goal

pub loop-store-preserved : goal.loop-store-preserved
loop-store-preserved c =
    pushed _ _ _ _ _ _ c.loop-store.invariant c.in_ok-push.ensures.items c.in_ok-group.ensures
