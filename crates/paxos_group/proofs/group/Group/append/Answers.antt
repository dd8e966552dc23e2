use Rattle.std.proofs.Common.{◌≡◌, subst}
use Rattle.std.specs.Prelude.{OnErr, false}
use Rattle.paxos_group.specs.Moments.{moment, seen_of, Attempts}
use Rattle.paxos_group.proofs.Groups.{same_seen}
use Rattle.paxos_group.proofs.group.Group.append.Goals as goal

pub returns-clause-attempts : goal.returns-clause-attempts
returns-clause-attempts g c =
    let told = g.W.Weather.told in
    subst (λ s. Attempts told 8 (moment s c.args.weather.now) (moment (seen_of c.append.new.self) c.append.new.weather)
    c.append.result.own) c.self.view_is
    c.append.ensures.attempts

pub returns-clause-untouched : goal.returns-clause-untouched
returns-clause-untouched g c =
    let p = c.self.inside.parts in
    subst (λ s. OnErr c.append.result.own (c.append.result.doubted ≡ false →
    (seen_of c.append.new.self ≡ s) × (c.append.new.weather ≡ c.args.weather.now))) c.self.view_is
    (same_seen p c.append.new.self c.args.command.now c.append.result c.args.weather.now c.append.new.weather
    c.append.result.own c.append.ensures.leaves c.append.ensures.untouched c.append.ensures.not_asked
    c.append.ensures.attempts.replicas)
