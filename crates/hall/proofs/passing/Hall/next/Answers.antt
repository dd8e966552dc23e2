use Rattle.std.proofs.Common.{arith}
use Rattle.crossbeam_queue.specs.Passes.{view}
use Rattle.hall.proofs.Keeps.{takes, learns}
use Rattle.hall.proofs.passing.Hall.next.Goals as goal

pub pop_as-requires-clause-rule : goal.pop_as-requires-clause-rule
pop_as-requires-clause-rule g c =
    let p = c.pass.inside.pass in
    let some = c.pass.invariant.1 in
    (takes p.id (view p) (omega (arith, some)), learns p.id (view p))
