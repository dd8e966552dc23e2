use Rattle.birth_death.specs.Shows.{Seat}
use Rattle.fss_meaning.proofs.Right.{full-right}
use Rattle.fss_meaning.proofs.laws.full_is_right.Goals as goal

pub returns : goal.returns
returns c = λ old new asked e runs answers of. full-right (λ (s : Seat). s) old new runs asked e answers of
