use Rattle.paxos_group.proofs.Attempting.{attempts_more}
use Rattle.paxos_group.proofs.parts.Parts.append_alone.Goals as goal

pub returns-in-Ok-clause-attempts : goal.returns-in-Ok-clause-attempts
returns-in-Ok-clause-attempts g c = attempts_more g.W.Weather.told _ _ _ c.in-Ok.ensures.attempts

pub returns-in-Err-clause-attempts : goal.returns-in-Err-clause-attempts
returns-in-Err-clause-attempts g c = attempts_more g.W.Weather.told _ _ _ c.in-Err.ensures.attempts
