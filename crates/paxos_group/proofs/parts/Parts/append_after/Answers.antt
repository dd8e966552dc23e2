use Rattle.std.proofs.Common.{◌≤◌, ◌++◌, ◌∷◌, [], ◌≡◌, length, length-append, ap, arith}
use Rattle.paxos_group.specs.Moments.{moment, seen_of}
use Rattle.paxos_group.proofs.Attempting.{attempts_more, attempts_twice}
use Rattle.paxos_group.proofs.parts.Parts.append_after.Goals as goal

pub returns-in-Ok-settle-clause-attempts : goal.returns-in-Ok-settle-clause-attempts
returns-in-Ok-settle-clause-attempts g c =
    let len : length c.settle.new.self.log.items ≡ length (c.args.self.now.log.items ++ c.args.pending ∷ []) =
    ap length c.in-Ok.ensures.log in
    attempts_twice g.W.Weather.told (moment (seen_of c.args.self.now) c.args.weather.now) _ _ _
    (moment (seen_of c.settle.new.self) c.settle.new.weather) c.in-Ok.ensures.attempts c.in-Ok-settle.ensures.attempts
    (omega (arith, length-append c.args.self.now.log.items (c.args.pending ∷ [])))

pub returns-in-Err-settle-clause-attempts : goal.returns-in-Err-settle-clause-attempts
returns-in-Err-settle-clause-attempts g c =
    let len : length c.settle.new.self.log.items ≡ length (c.args.self.now.log.items ++ c.args.pending ∷ []) =
    ap length c.in-Ok.ensures.log in
    attempts_twice g.W.Weather.told (moment (seen_of c.args.self.now) c.args.weather.now) _ _ _
    (moment (seen_of c.settle.new.self) c.settle.new.weather) c.in-Ok.ensures.attempts c.in-Err-settle.ensures.attempts
    (omega (arith, length-append c.args.self.now.log.items (c.args.pending ∷ [])))

pub returns-in-Err-clause-attempts : goal.returns-in-Err-clause-attempts
returns-in-Err-clause-attempts g c = attempts_more g.W.Weather.told _ _ _ c.in-Err.ensures.attempts
