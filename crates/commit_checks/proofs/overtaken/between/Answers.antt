use Rattle.commit_checks.proofs.Overtaking.{prepared_later}
use Rattle.commit_checks.proofs.overtaken.between.Goals as goal

pub conclude_by-ended-requires : goal.conclude_by-ended-requires
conclude_by-ended-requires c =
    prepared_later _ _ _ _ _ c.requires c.look-later.ensures
    (rw c.count-before.ensures at (c.has_rested.ensures c.if-not-has_rested.false))
