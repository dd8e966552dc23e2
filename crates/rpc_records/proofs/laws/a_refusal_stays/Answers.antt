use Rattle.rpc_records.proofs.MarkingLaws.{marking-append_refused}
use Rattle.rpc_records.proofs.laws.a_refusal_stays.Goals as goal

pub returns : goal.returns
returns c = marking-append_refused
