use Rattle.rpc_records.proofs.StreamLaws.{HasRead-follows}
use Rattle.rpc_records.proofs.laws.a_reader_follows_the_marking.Goals as goal

pub returns : goal.returns
returns c = HasRead-follows
