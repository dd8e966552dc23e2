use Rattle.fabric.specs.Keeping.{AreFirst}
use Rattle.fabric.proofs.fabric.groups_of.Given as goal

abbrev pub invariant-loop-store : goal.invariant-loop-store
invariant-loop-store l = AreFirst l.first l.replicas l.store l.groups.items
