use Rattle.outside.proofs.ToldLaws.{got_bytes-nil, got_bytes-append}
use Rattle.outside.proofs.laws.puts_compose.Goals as goal

pub returns : goal.returns
returns g c = record { nothing = got_bytes-nil g.K.Sink.told; in_a_row = got_bytes-append g.K.Sink.told }
