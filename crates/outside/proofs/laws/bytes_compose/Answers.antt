use Rattle.outside.proofs.ToldLaws.{gave_bytes-nil, gave_bytes-append}
use Rattle.outside.proofs.laws.bytes_compose.Goals as goal

pub returns-clause-nothing : goal.returns-clause-nothing
returns-clause-nothing g c = gave_bytes-nil g.S.Source.told

pub returns-clause-in_a_row : goal.returns-clause-in_a_row
returns-clause-in_a_row g c = gave_bytes-append g.S.Source.told
