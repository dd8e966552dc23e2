use Rattle.std.proofs.Common.{arith, subst, OnErr}
use Rattle.crossbeam_queue.specs.Passes.{view, ruled_capacity}
use Rattle.hall.specs.Passes.{Full, HallPassState}
use Rattle.hall.specs.declared.places.Placed.TheVariants.{Visit}
use Rattle.hall.proofs.Keeps.{hands, learns, refused, at_err}
use Rattle.hall.proofs.passing.Hall.hand.Goals as goal
use Rattle.hall.proofs.passing.Hall.hand.Goals.{in-Ok, in-Err-Visit}

pub push_as-requires-clause-rule : goal.push_as-requires-clause-rule
push_as-requires-clause-rule g c =
    let p = c.pass.inside.pass in
    let some = c.pass.invariant.1 in
    (hands (ruled_capacity c.self.inside.queue) p.id (view p) (Visit c.args.visit) (omega (arith, some)), learns p.id (view p))

pub returns-clause-full : goal.returns-clause-full
returns-clause-full g c =
    let p = c.pass.inside.pass in
    let full = subst (λ (s : HallPassState). OnErr c.push_as.result (Full s)) c.pass.view_is
    (refused p.table_id c.pass.inside.splits _ (view p) _ (Visit c.args.visit) c.push_as.result c.push_as.ensures.rule
    c.self.inside.room) in
    elim c.match-push_as.branch
    [ in-Ok w ↦ rw w.result-is tt | in-Err-Visit w ↦ rw w.result-is (at_err c.push_as.result _ w.in-Err-Visit.is full) ]
