use Rattle.rpc_route.proofs.Sealing.{sealed_behind}
use Rattle.rpc_route.proofs.seals.put_sealed.Goals as goal

pub returns-clause-ok : goal.returns-clause-ok
returns-clause-ok c =
    sealed_behind c.write_reply.result c.args.out.now.items c.write_accepted_head.new.out.items c.write_reply.new.out.items
    c.args.xid c.args.size c.args.r.now
    c.requires.spelled c.requires.size c.in_ok-write_accepted_head.ensures.ok c.write_reply.ensures.puts.ok
