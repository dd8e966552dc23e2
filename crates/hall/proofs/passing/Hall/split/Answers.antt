use Rattle.std.proofs.Common.{arith}
use Rattle.crossbeam_queue.specs.Passes.{view}
use Rattle.hall.proofs.Keeps.{forks}
use Rattle.hall.proofs.passing.Hall.split.Goals as goal

pub another-other-requires-clause-rule : goal.another-other-requires-clause-rule
another-other-requires-clause-rule g c =
    let p = c.pass.inside.pass in
    let some = c.pass.invariant.1 in
    let any = c.if-pass-eq0.false in
    forks p.id (view p) (omega (arith, some, any))
