use Rattle.rpc_records.proofs.MarkingLaws.{first_record-fragments}
use Rattle.rpc_records.proofs.laws.a_record_in_fragments_is_read.Goals as goal

pub returns : goal.returns
returns c = first_record-fragments
