use Rattle.std.proofs.Common.{rules, append_assoc}
use Rattle.rpc_msg.proofs.ReplyHeads.{accepted_parted}
use Rattle.rpc_msg.proofs.reply.put_accepted.Goals as goal

pub returns-clause-ok : goal.returns-clause-ok
returns-clause-ok c = rw (accepted_parted _ _ _) (search (rules, append_assoc))
