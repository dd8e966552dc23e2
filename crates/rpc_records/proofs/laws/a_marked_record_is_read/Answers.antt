use Rattle.rpc_records.proofs.MarkingLaws.{first_record-marked}
use Rattle.rpc_records.proofs.laws.a_marked_record_is_read.Goals as goal

pub returns : goal.returns
returns c = first_record-marked
