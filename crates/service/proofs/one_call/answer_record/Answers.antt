use Rattle.std.proofs.Common.{rules, ◌≡◌, ℕ, List, [], ◌++◌, ◌∙◌, ap, subst}
use Rattle.rpc_route.specs.Immediate.{Needs, Replied, immediate_reply}
use Rattle.rpc_route.specs.Routing.{caller_of}
use Rattle.service.proofs.TakenSteps.{needs_is, has_reply, is_bad, turn-replied, turn-taken}
use Rattle.service.proofs.one_call.answer_record.Goals as goal

pub returns-in-Ok-Ready-clause-ok : goal.returns-in-Ok-Ready-clause-ok
returns-in-Ok-Ready-clause-ok g c =
    let r = has_reply (immediate_reply c.args.exports.now.fsid c.args.content.now) c.args.content.now c.clear.new.self.items
    c.route.new.out.items c.in-Ok-Ready.field-0 c.in-Ok-Ready.ensures.routes c.in-Ok-Ready.field-0-is in
    turn-replied g.T.Tree.answering g.C.Clock.told (g.T.Tree.plain c.args.tree.now) c.args.clock.now c.args.content.now r.reply
    c.route.new.out.items
    (subst (λ (k : ℕ). immediate_reply k c.args.content.now ≡ Replied r.reply) c.requires.exports r.is)
    (r.gained ∙ ap (λ xs. xs ++ r.reply) c.clear.ensures.items)

pub returns-in-Ok-Nfs-clause-ok : goal.returns-in-Ok-Nfs-clause-ok
returns-in-Ok-Nfs-clause-ok g c =
    let n = c.in-Ok-Nfs in
    let is = needs_is (immediate_reply c.args.exports.now.fsid c.args.content.now) c.args.content.now c.clear.new.self.items
    c.route.new.out.items n.field-0 n.xid n.who n.call n.ensures.routes n.field-0-is in
    turn-taken g.T.Tree.answering g.C.Clock.told (g.T.Tree.plain c.args.tree.now) (g.T.Tree.plain c.answer_call.new.tree)
    c.args.clock.now c.now-moment.new.self
    c.args.content.now c.answer_call.new.out.items n.xid (caller_of n.who) n.call c.now-moment.result
    (subst (λ (k : ℕ). immediate_reply k c.args.content.now ≡ Needs n.xid (caller_of n.who) n.call) c.requires.exports is)
    c.now-moment.ensures c.answer_call.ensures.taken

pub returns-in-Err-BadRecord-clause-err : goal.returns-in-Err-BadRecord-clause-err
returns-in-Err-BadRecord-clause-err g c =
    let b = c.in-Err-BadRecord in
    let bad = is_bad (immediate_reply c.args.exports.now.fsid c.args.content.now) c.args.content.now c.clear.new.self.items
    c.route.new.out.items b.field-0 b.fault b.ensures.routes b.field-0-is in
    search (rules, bad, b.fault-is, c.requires.exports)
