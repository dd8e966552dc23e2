use Rattle.std.proofs.Common.{arith, subst, OnErr}
use Rattle.crossbeam_queue.specs.Passes.{view, ruled_capacity}
use Rattle.hall.specs.Passes.{Full, HallPassState}
use Rattle.hall.specs.declared.places.Placed.TheVariants.{End}
use Rattle.hall.proofs.Keeps.{hands, learns, refused, at_err}
use Rattle.hall.proofs.passing.Hall.hand_end.Goals as goal
use Rattle.hall.proofs.passing.Hall.hand_end.Goals.{in-Ok, in-Err}

pub push_as-requires-clause-rule : goal.push_as-requires-clause-rule
push_as-requires-clause-rule g c =
    let p = c.pass.inside.pass in
    let some = c.pass.invariant.1 in
    (hands (ruled_capacity c.self.inside.queue) p.id (view p) End (omega (arith, some)), learns p.id (view p))

pub returns-clause-full : goal.returns-clause-full
returns-clause-full g c =
    let p = c.pass.inside.pass in
    let full = subst (λ (s : HallPassState). OnErr c.push_as.result (Full s)) c.pass.view_is
    (refused p.table_id c.pass.inside.splits _ (view p) _ End c.push_as.result c.push_as.ensures.rule c.self.inside.room) in
    elim c.match-push_as.branch [
      | in-Ok w ↦ λ e. absurd (let t = w.result-is in grind (arith, t, e))
      | in-Err w ↦ λ e. at_err c.push_as.result _ w.in-Err.is full
    ]
