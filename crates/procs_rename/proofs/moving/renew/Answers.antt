-- The edit of the table, by a test of the plan.
use Rattle.std.proofs.Common.{true, false}
use Rattle.fs_rules.specs.Edits.{edit_node, set_ctime, set_parent}
use Rattle.fs_rules.specs.Renaming.{renew}
use Rattle.fs_shows.specs.Views.{IsThere}
use Rattle.procs_rename.proofs.Chaining.{edit-same}
use Rattle.procs_rename.proofs.Moves.{renewed}
use Rattle.procs_rename.proofs.moving.renew.Goals as goal

pub returns-then-plan-clause-ok : goal.returns-then-plan-clause-ok
returns-then-plan-clause-ok g c =
    let p = c.args.plan.now in
    edit-same g.P.Pairs.told c.args.pairs.now c.move_to.new.pairs (IsThere p.fileid)
    (edit_node p.fileid (λ n. set_ctime c.args.now (set_parent p.to n)))
    (edit_node p.fileid (renew p c.args.now)) c.move_to.result
    (λ t. renewed p t c.args.now true c.if-plan.true) c.move_to.ensures.ok

pub returns-else-plan-clause-ok : goal.returns-else-plan-clause-ok
returns-else-plan-clause-ok g c =
    let p = c.args.plan.now in
    edit-same g.P.Pairs.told c.args.pairs.now c.set_ctime.new.pairs (IsThere p.fileid) (edit_node p.fileid (set_ctime c.args.now))
    (edit_node p.fileid (renew p c.args.now)) c.set_ctime.result (λ t. renewed p t c.args.now false c.if-plan.false)
    c.set_ctime.ensures.ok
