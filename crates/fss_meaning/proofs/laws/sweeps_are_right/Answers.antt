use Rattle.birth_death.specs.Shows.{Seat}
use Rattle.fss_meaning.proofs.Right.{swept-right}
use Rattle.fss_meaning.proofs.laws.sweeps_are_right.Goals as goal

pub returns : goal.returns
returns c = λ old new runs edits. swept-right (λ (s : Seat). s) old new runs edits
