use Rattle.rpc_records.proofs.MarkingLaws.{records-short}
use Rattle.rpc_records.proofs.laws.records_are_short.Goals as goal

pub returns : goal.returns
returns c = records-short
