use Rattle.rpc_records.proofs.MarkingLaws.{marking-append_none}
use Rattle.rpc_records.proofs.laws.a_longer_text_keeps_its_records.Goals as goal

pub returns : goal.returns
returns c = marking-append_none
