use Rattle.std.proofs.Common.{ℕ, List, [], ◌++◌, ◌∙◌, ap, rules}
use Rattle.rpc_msg.specs.Replies.{accepted_record}
use Rattle.rpc_route.specs.Routing.{caller_of}
use Rattle.rpc_route.specs.Sealing.{sealed}
use Rattle.service.proofs.TakenSteps.{call-starved, call-told}
use Rattle.service.proofs.one_call.answer_call.Goals as goal

pub returns-in_default-clause-taken : goal.returns-in_default-clause-taken
returns-in_default-clause-taken g c =
    call-starved g.T.Tree.answering (g.T.Tree.plain c.args.tree.now) (g.T.Tree.plain c.ask.new.tree) (caller_of c.args.who.now)
    c.args.call.now c.args.moment c.args.xid c.seal_system.new.out.items
    c.in_default.ensures.err (c.seal_system.ensures.seal ∙ ap (λ (xs : List ℕ). xs ++ accepted_record c.args.xid 5 [])
    c.requires.empty)

pub returns-clause-taken : goal.returns-clause-taken
returns-clause-taken g c =
    call-told g.T.Tree.answering (g.T.Tree.plain c.args.tree.now) (g.T.Tree.plain c.ask.new.tree) (caller_of c.args.who.now)
    c.args.call.now c.args.moment c.args.xid c.in-Ok.reply c.seal.new.out.items
    c.in-Ok.ensures.ok c.in-Ok.ensures.next (c.in-Ok-seal.ensures.ok ∙ ap
    (λ (xs : List ℕ). xs ++ sealed c.args.xid c.in-Ok.reply) c.requires.empty)
