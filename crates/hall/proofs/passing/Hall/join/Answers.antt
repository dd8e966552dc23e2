use Rattle.crossbeam_queue.specs.Passes.{view}
use Rattle.hall.proofs.Keeps.{merges}
use Rattle.hall.proofs.passing.Hall.join.Goals as goal

pub absorb-requires-clause-rule : goal.absorb-requires-clause-rule
absorb-requires-clause-rule g c =
    let p = c.pass.inside.pass in
    let q = c.other.inside.pass in
    merges p.id (view p) q.id (view q)
