use Rattle.two_phase.proofs.Acting.{once}
use Rattle.two_phase.proofs.laws.acts_once.Goals as goal

pub returns : goal.returns
returns c = once
