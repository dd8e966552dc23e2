use Rattle.rpc_records.proofs.MarkingLaws.{marking-from, marking_within-is}
use Rattle.rpc_records.proofs.laws.marking_goes_record_by_record.Goals as goal

pub returns-clause-each : goal.returns-clause-each
returns-clause-each c = marking-from

pub returns-clause-bound : goal.returns-clause-bound
returns-clause-bound c = marking_within-is
