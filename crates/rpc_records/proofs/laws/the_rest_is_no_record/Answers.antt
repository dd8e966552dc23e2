use Rattle.rpc_records.proofs.MarkingLaws.{first_record-rest_partial, first_record-rest_refused}
use Rattle.rpc_records.proofs.laws.the_rest_is_no_record.Goals as goal

pub returns-clause-partial : goal.returns-clause-partial
returns-clause-partial c = first_record-rest_partial

pub returns-clause-refused : goal.returns-clause-refused
returns-clause-refused c = first_record-rest_refused
