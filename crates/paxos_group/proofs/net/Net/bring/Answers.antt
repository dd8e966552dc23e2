use Rattle.std.proofs.Common.{sym, ◌∙◌}
use Rattle.std.specs.Prelude.{⊤}
use Rattle.paxos_group.specs.Scene.{scene, kept_at, number_at}
use Rattle.paxos_group.specs.Sound.{IsSent}
use Rattle.paxos_group.proofs.Going.{kept_goes, moved_goes, goes-weaken, bring_goes, bring_reaches, ok_map}
use Rattle.paxos_group.proofs.net.Net.bring.Goals as goal

pub returns-in_err-reply-clause-goes : goal.returns-in_err-reply-clause-goes
returns-in_err-reply-clause-goes g c =
    let w = g.W.Weather in
    let same = c.in_err-reply.ensures.stays in
    let s = scene w.told c.args.weather.now c.args.self.now c.args.proposer.now in
    goes-weaken (λ x. ⊤) _ s _ (kept_goes s _ (number_at c.take_in.new.acceptors.items) (kept_at c.take_in.new.acceptors.items)
    same.count same.numbers same.kept) (λ x h k. tt)

pub returns-in-Some-clause-goes : goal.returns-in-Some-clause-goes
returns-in-Some-clause-goes g c =
    let w = g.W.Weather in
    let moved = c.in_ok-reply.ensures.moved in
    bring_goes (scene w.told c.args.weather.now c.args.self.now c.args.proposer.now) _
    (number_at c.take_in.new.acceptors.items) (kept_at c.take_in.new.acceptors.items)
    c.args.replica c.args.message.now c.in-Some.reply
    (scene w.told c.answer.new.weather c.answer.new.self c.answer.new.proposer)
    c.requires moved.count moved.numbers moved.kept (sym c.in_ok-reply.ensures.answer ∙ c.in-Some.is) c.answer.ensures.goes

pub returns-in-Some-clause-reaches : goal.returns-in-Some-clause-reaches
returns-in-Some-clause-reaches g c =
    let w = g.W.Weather in
    ok_map c.answer.result
    (bring_reaches (scene w.told c.args.weather.now c.args.self.now c.args.proposer.now) _
    (number_at c.take_in.new.acceptors.items) (kept_at c.take_in.new.acceptors.items)
    c.args.replica c.args.message.now c.in-Some.reply
    (scene w.told c.answer.new.weather c.answer.new.self c.answer.new.proposer)
    c.requires (sym c.in_ok-reply.ensures.answer ∙ c.in-Some.is))
    c.answer.ensures.tells

pub returns-in-None-clause-goes : goal.returns-in-None-clause-goes
returns-in-None-clause-goes g c =
    let w = g.W.Weather in
    let moved = c.in_ok-reply.ensures.moved in
    let s = scene w.told c.args.weather.now c.args.self.now c.args.proposer.now in
    goes-weaken (λ x. IsSent x s.kept c.args.replica c.args.message.now) _ s _
    (moved_goes s _ (number_at c.take_in.new.acceptors.items) (kept_at c.take_in.new.acceptors.items) c.args.replica
    c.args.message.now moved.count moved.numbers moved.kept) (λ x h k. k.0)
