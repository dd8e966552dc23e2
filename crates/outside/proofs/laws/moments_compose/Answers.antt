use Rattle.outside.proofs.MomentLaws.{gave_moments-nil, gave_moments-append}
use Rattle.outside.proofs.laws.moments_compose.Goals as goal

pub returns : goal.returns
returns g c = record { nothing = gave_moments-nil g.C.Clock.told; in_a_row = gave_moments-append g.C.Clock.told }
