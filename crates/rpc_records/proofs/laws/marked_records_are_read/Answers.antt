use Rattle.rpc_records.proofs.MarkingLaws.{marking-marked}
use Rattle.rpc_records.proofs.laws.marked_records_are_read.Goals as goal

pub returns : goal.returns
returns c = marking-marked
