use Rattle.std.proofs.Common.{◌<◌, ◌^◌, length, arith}
use Rattle.outside.proofs.Moments.{gave_one}
use Rattle.outside.proofs.list_clock.ListClockClock.now.Goals as goal

pub returns-clause-gave : goal.returns-clause-gave
returns-clause-gave c =
    let short : length c.self.inside.moments.items < 2 ^ 64 = rw c.deref.ensures.value at c.at-moment.ensures.short in
    let gave = gave_one (record { moments = c.self.inside.moments.items; calls = c.self.inside.calls })
    c.saturating_add-self-inside.result (omega arith) short c.saturating_add-self-inside.ensures in
    rw (← c.self.view_is, c.at-moment.ensures.moment, c.deref.ensures.value) gave
