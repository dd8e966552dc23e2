use Rattle.rpc_route.proofs.Steps.{not_supported-spelled}
use Rattle.rpc_route.proofs.routing.route_nfs.Goals as goal

pub returns-in-Mknod-clause-routes : goal.returns-in-Mknod-clause-routes
returns-in-Mknod-clause-routes c = rw (c.in-Ok.ensures, c.in-Mknod.is, not_supported-spelled) c.accept-in-Mknod.ensures.routes
