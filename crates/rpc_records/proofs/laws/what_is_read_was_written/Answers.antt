use Rattle.rpc_records.proofs.FoundLaws.{first_record-found}
use Rattle.rpc_records.proofs.laws.what_is_read_was_written.Goals as goal

pub returns : goal.returns
returns c = first_record-found
