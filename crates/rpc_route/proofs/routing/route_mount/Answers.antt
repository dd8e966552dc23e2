use Rattle.std.proofs.Common.{Err, ap, ◌∙◌}
use Rattle.rpc_route.proofs.Steps.{mount_garbage, copied_tail, tail_answered}
use Rattle.rpc_route.proofs.routing.route_mount.Goals as goal

pub returns-in-Err-Garbage-clause-routes : goal.returns-in-Err-Garbage-clause-routes
returns-in-Err-Garbage-clause-routes c =
    mount_garbage c.args.e.now.fsid c.args.xid c.args.procedure c.args.args.now c.args.out.now.items
    c.answer_mount.new.out.items c.accept.new.out.items c.accept.result c.in-Err-Garbage.field-0-0
    ((c.answer_mount.ensures.garbage c.in-Err-Garbage.field-0-0).0
    (c.in-Err-Garbage.is
    ∙ ap Err c.in-Err-Garbage.field-0-is)) c.in-Err-Garbage.ensures.err c.as_slice.result.now c.as_slice.ensures
    c.accept.ensures.routes

pub returns-clause-routes : goal.returns-clause-routes
returns-clause-routes c =
    let answers = c.in-Ok.ensures.ok in
    tail_answered c.args.e.now.fsid c.args.xid c.args.procedure c.args.args.now c.args.out.now.items answers.path
    c.answer_mount.new.out.items c.truncate.new.self.items c.copy_from_slice.new.self _ c.accept-2.new.out.items
    c.len-before.result c.len.result c.accept-2.result
    answers.read answers.gained (c.len-before.ensures ∙ c.args.out.now.ok.0)
    (c.len.ensures ∙ c.answer_mount.new.out.ok.0) c.truncate.ensures.items
    (copied_tail c.len-before.result c.deref.result.now c.answer_mount.new.out.items c.copy_from_slice.new.self
    c.deref.ensures.value c.copy_from_slice.ensures.after)
    c.accept-2.ensures.routes
