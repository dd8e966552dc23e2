use Rattle.paxos_group.proofs.Attempting.{attempts_same}
use Rattle.paxos_group.proofs.Stillness.{same_net, same_replicas}
use Rattle.paxos_group.proofs.parts.Parts.append.Goals as goal

pub returns-in_default-take-clause-attempts : goal.returns-in_default-take-clause-attempts
returns-in_default-take-clause-attempts g c =
    attempts_same g.W.Weather.told 8 c.args.weather.now _ _ c.args.self.now c.prepare.new.self _ _
    (same_net c.prepare.new.self c.args.self.now c.prepare.ensures.others)
    (same_replicas c.prepare.new.self c.args.self.now c.prepare.ensures.others) c.prepare.ensures.log
    c.append_alone.ensures.attempts

pub returns-clause-attempts : goal.returns-clause-attempts
returns-clause-attempts g c =
    attempts_same g.W.Weather.told 8 c.args.weather.now _ _ c.args.self.now c.prepare.new.self _ _
    (same_net c.prepare.new.self c.args.self.now c.prepare.ensures.others)
    (same_replicas c.prepare.new.self c.args.self.now c.prepare.ensures.others) c.prepare.ensures.log
    c.append_after.ensures.attempts
