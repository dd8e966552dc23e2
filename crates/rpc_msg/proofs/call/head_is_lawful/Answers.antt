use Rattle.rpc_msg.proofs.Heads.{message_head-laws}
use Rattle.rpc_msg.proofs.call.head_is_lawful.Goals as goal

pub returns : goal.returns
returns c = message_head-laws
