use Rattle.rpc_msg.specs.Message.{view}
use Rattle.rpc_route.specs.Routing.{caller_of}
use Rattle.rpc_route.proofs.Steps.{nfs_mismatch}
use Rattle.rpc_route.proofs.routing.route_in_nfs.Goals as goal

pub returns-then-head-ne-VERSION-clause-routes : goal.returns-then-head-ne-VERSION-clause-routes
returns-then-head-ne-VERSION-clause-routes c =
    rw (nfs_mismatch (view c.args.head.now)
    (caller_of c.args.who.now) c.args.args.now c.if-head-ne-VERSION.true) c.accept.ensures.routes
