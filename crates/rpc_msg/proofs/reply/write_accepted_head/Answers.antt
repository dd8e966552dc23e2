use Rattle.rpc_msg.proofs.ReplyHeads.{accepted_behind}
use Rattle.rpc_msg.proofs.reply.write_accepted_head.Goals as goal

pub returns-clause-ok : goal.returns-clause-ok
returns-clause-ok c =
    accepted_behind c.put_accepted_head.result c.args.out.now.items c.put_accepted_head.new.out.items c.args.size c.args.xid
    c.args.stat
    (rw (c.reserve.ensures.items) at c.put_accepted_head.ensures.ok)
