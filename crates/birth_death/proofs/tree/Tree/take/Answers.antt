use Rattle.btree_edit.specs.Edited.{GoesOn}
use Rattle.birth_death.proofs.Telling.{within-later, either-none, either-any}
use Rattle.birth_death.proofs.tree.Tree.take.Goals as goal

pub invariant_of-self : goal.invariant_of-self
invariant_of-self g c =
    record { within = within-later _ _ _ c.take.ensures.goes_on.lasts.stores c.args.self.now.within }

pub invariant_of-self-in-Err : goal.invariant_of-self-in-Err
invariant_of-self-in-Err g c =
    record { within = within-later _ _ _ c.take.ensures.goes_on.lasts.stores c.args.self.now.within }

pub returns-in-Ok-clause-failed : goal.returns-in-Ok-clause-failed
returns-in-Ok-clause-failed g c = either-none c.args.self.now.failed

pub returns-in-Err-clause-failed : goal.returns-in-Err-clause-failed
returns-in-Err-clause-failed g c = either-any c.args.self.now.failed
