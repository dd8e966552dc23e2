use Rattle.rpc_records.proofs.MarkingLaws.{marking-partial}
use Rattle.rpc_records.proofs.laws.a_tail_is_the_rest.Goals as goal

pub returns : goal.returns
returns c = marking-partial
