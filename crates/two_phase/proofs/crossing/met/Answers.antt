use Rattle.std.proofs.Common.{refl}
use Rattle.two_phase.proofs.Meeting.{meets_none, aborted_cross}
use Rattle.two_phase.proofs.crossing.met.Goals as goal

pub returns-in-Conflict : goal.returns-in-Conflict
returns-in-Conflict g c = rw c.in-Conflict.is (meets_none _ _ _ _ _ refl refl)

pub returns-in_default : goal.returns-in_default
returns-in_default g c =
    let met = aborted_cross c.args.tid c.args.store (g.P.Port.state c.args.port.now).pass c.args.answer.now
    c.in_default.not-Conflict c.in_default.not-Busy in
    meets_none _ _ _ _ _ met.0 met.1
