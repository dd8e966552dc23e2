use Rattle.nfs3_types.proofs.HandleLaws.{handle-laws}
use Rattle.nfs3_types.proofs.CallLaws.{call_of-laws}
use Rattle.nfs3_types.proofs.ReplyLaws.{result_of-laws}
use Rattle.nfs3_types.proofs.laws.protocol_is_lawful.Goals as goal

pub returns-clause-handle : goal.returns-clause-handle
returns-clause-handle c = handle-laws

pub returns-clause-call : goal.returns-clause-call
returns-clause-call c = call_of-laws

pub returns-clause-result : goal.returns-clause-result
returns-clause-result c = result_of-laws
