use Rattle.rpc_msg.proofs.ReplyHeads.{accepted_reply-laws}
use Rattle.rpc_msg.proofs.reply.reply_is_lawful.Goals as goal

pub returns : goal.returns
returns c = accepted_reply-laws
