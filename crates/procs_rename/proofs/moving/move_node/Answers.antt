use Rattle.fs_rules.specs.Edits.{edit_node}
use Rattle.fs_rules.specs.Renaming.{renew, move_node}
use Rattle.fs_shows.specs.Views.{IsThere}
use Rattle.fs_shows.proofs.Doing.{goes-then}
use Rattle.fs_shows.proofs.Passing.{edits_both}
use Rattle.procs_object.proofs.Gathering.{edit-up-behind}
use Rattle.procs_rename.specs.Moving.{CanClear, CanRename, CanMove, cleared, renamed}
use Rattle.procs_rename.proofs.Chaining.{both-edit, both-up, edits-given, edit-up-given}
use Rattle.procs_rename.proofs.Moves.{clears, then-renames, then-there}
use Rattle.procs_rename.proofs.moving.move_node.Goals as goal

pub returns-in-Err-clause-fault : goal.returns-in-Err-clause-fault
returns-in-Err-clause-fault g c =
    let a = c.args.a.now in
    let p = c.args.plan.now in
    edit-up-given g.P.Pairs.told c.args.pairs.now c.clear.new.pairs (CanMove a p) (CanClear c.args.now a.to.name p)
    (clears c.args.now a p) c.in-Err.fault (rw c.as_slice.ensures at c.in-Err.ensures.fault)

pub returns-in-Err-rename_entry-clause-fault : goal.returns-in-Err-rename_entry-clause-fault
returns-in-Err-rename_entry-clause-fault g c =
    let a = c.args.a.now in
    let p = c.args.plan.now in
    edit-up-behind g.P.Pairs.told c.args.pairs.now c.clear.new.pairs c.rename_entry.new.pairs 4 4 (CanMove a p)
    (CanRename c.args.now a p) (cleared c.args.now a.to.name p) c.in-Ok.ensures.goes c.in-Err-rename_entry.ensures.goes
    (edits-given g.P.Pairs.told c.args.pairs.now c.clear.new.pairs (CanMove a p) (CanClear c.args.now a.to.name p)
    (clears c.args.now a p) (cleared c.args.now a.to.name p) (rw c.as_slice.ensures at c.in-Ok.ensures.ok))
    (then-renames c.args.now a p) c.in-Err-rename_entry.fault c.in-Err-rename_entry.ensures.fault

pub returns-clause-ok : goal.returns-clause-ok
unfolding move_node
returns-clause-ok g c =
    let a = c.args.a.now in
    let p = c.args.plan.now in
    both-edit g.P.Pairs.told c.args.pairs.now c.rename_entry.new.pairs c.renew.new.pairs 8 1
    (goes-then g.P.Pairs.told c.args.pairs.now c.clear.new.pairs c.rename_entry.new.pairs 4 4 c.in-Ok.ensures.goes
    c.in-Ok-rename_entry.ensures.goes)
    c.renew.ensures.goes (CanMove a p) (IsThere p.fileid) (λ t. renamed c.args.now a p (cleared c.args.now a.to.name p t))
    (edit_node p.fileid (renew p c.args.now))
    (edits_both g.P.Pairs.told c.args.pairs.now c.clear.new.pairs c.rename_entry.new.pairs 4 (CanMove a p)
    (CanRename c.args.now a p) (cleared c.args.now a.to.name p) (renamed c.args.now a p) c.in-Ok-rename_entry.ensures.goes
    (edits-given g.P.Pairs.told c.args.pairs.now c.clear.new.pairs (CanMove a p) (CanClear c.args.now a.to.name p)
    (clears c.args.now a p) (cleared c.args.now a.to.name p) (rw c.as_slice.ensures at c.in-Ok.ensures.ok))
    (then-renames c.args.now a p) c.in-Ok-rename_entry.ensures.ok)
    (then-there c.args.now a p) c.renew.result c.renew.ensures.ok

pub returns-clause-fault : goal.returns-clause-fault
returns-clause-fault g c =
    let a = c.args.a.now in
    let p = c.args.plan.now in
    both-up g.P.Pairs.told c.args.pairs.now c.rename_entry.new.pairs c.renew.new.pairs 8 1
    (goes-then g.P.Pairs.told c.args.pairs.now c.clear.new.pairs c.rename_entry.new.pairs 4 4 c.in-Ok.ensures.goes
    c.in-Ok-rename_entry.ensures.goes)
    c.renew.ensures.goes (CanMove a p) (IsThere p.fileid) (λ t. renamed c.args.now a p (cleared c.args.now a.to.name p t))
    (edit_node p.fileid (renew p c.args.now))
    (edits_both g.P.Pairs.told c.args.pairs.now c.clear.new.pairs c.rename_entry.new.pairs 4 (CanMove a p)
    (CanRename c.args.now a p) (cleared c.args.now a.to.name p) (renamed c.args.now a p) c.in-Ok-rename_entry.ensures.goes
    (edits-given g.P.Pairs.told c.args.pairs.now c.clear.new.pairs (CanMove a p) (CanClear c.args.now a.to.name p)
    (clears c.args.now a p) (cleared c.args.now a.to.name p) (rw c.as_slice.ensures at c.in-Ok.ensures.ok))
    (then-renames c.args.now a p) c.in-Ok-rename_entry.ensures.ok)
    (then-there c.args.now a p) c.renew.result c.renew.ensures.fault
