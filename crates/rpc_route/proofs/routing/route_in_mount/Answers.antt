use Rattle.rpc_msg.specs.Message.{view}
use Rattle.rpc_route.proofs.Steps.{mount_mismatch}
use Rattle.rpc_route.proofs.routing.route_in_mount.Goals as goal

pub returns-then-head-ne-VERSION-clause-routes : goal.returns-then-head-ne-VERSION-clause-routes
returns-then-head-ne-VERSION-clause-routes c =
    rw (mount_mismatch c.args.e.now.fsid (view c.args.head.now) c.args.args.now c.if-head-ne-VERSION.true) c.accept.ensures.routes
