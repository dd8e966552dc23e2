use Rattle.store_group.proofs.Gains.{steps}
use Rattle.store_group.proofs.laws.steps_are_entries.Goals as goal

pub returns : goal.returns
returns c o es asked old new late own doubted tells left = steps o es asked old new late own doubted tells left
