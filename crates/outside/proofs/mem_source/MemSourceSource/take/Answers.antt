use Rattle.std.proofs.Common.{◌+◌, ◌≤◌, length, arith}
use Rattle.outside.proofs.Parts.{next_part}
use Rattle.outside.proofs.mem_source.MemSourceSource.take.Goals as goal

pub returns-clause-ok : goal.returns-clause-ok
returns-clause-ok c =
    let within : c.self.inside.place + c.min-n.result ≤ length c.self.inside.content = omega arith in
    let part = next_part c.self.inside.content c.fill.new.room c.self.inside.place c.min-n.result within
    (rw c.as_slice.ensures at c.fill.ensures) in
    rw (← c.self.view_is) record { gained = part.before; lost = part.after; counted = c.after_take-self-inside.ensures }
