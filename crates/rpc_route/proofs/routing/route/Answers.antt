use Rattle.std.proofs.Common.{refl}
use Rattle.rpc_msg.specs.Message.{view}
use Rattle.rpc_route.specs.Immediate.{behind_head}
use Rattle.rpc_route.proofs.Steps.{refused_record, whole_record, routes_record}
use Rattle.rpc_route.proofs.routing.route.Goals as goal

pub returns-in-Err-clause-routes : goal.returns-in-Err-clause-routes
returns-in-Err-clause-routes c = record {
  is =
      refused_record c.args.e.now.fsid c.args.text.now c.read_call.result c.in-Err.fault c.in-Err.is c.read_call.ensures.short
      c.read_call.ensures.not_call;
  same = refl;
}

pub returns-clause-routes : goal.returns-clause-routes
returns-clause-routes c =
    let head = view c.in-Ok.head in
    let tail = c.in-Ok.head.tail.now in
    rw (whole_record c.args.e.now.fsid c.args.text.now tail head c.in-Ok.ensures.read refl)
    (routes_record
    (behind_head c.args.e.now.fsid head tail) c.args.text.now c.args.out.now.items c.route_head.new.out.items head.xid
    c.route_head.result c.route_head.ensures.routes
    (record { head = head; rest = tail; read = c.in-Ok.ensures.read; is = refl }))
