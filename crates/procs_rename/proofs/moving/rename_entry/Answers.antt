use Rattle.fs_rules.specs.Edits.{edit_node, touch, add_name}
use Rattle.dir_ops.specs.Directories.{CanAdd, CanDrop}
use Rattle.procs_rename.specs.Moving.{CanRename, unnamed}
use Rattle.procs_rename.proofs.Chaining.{both-edit, both-up, edits-given, edit-up-given}
use Rattle.procs_rename.proofs.moving.rename_entry.Goals as goal

pub returns-in-Err-clause-fault : goal.returns-in-Err-clause-fault
returns-in-Err-clause-fault g c =
    let a = c.args.a.now in
    let p = c.args.plan.now in
    edit-up-given g.P.Pairs.told c.args.pairs.now c.drop_name.new.pairs (CanRename c.args.now a p) (CanDrop p.from a.from.name)
    (λ t can. can.drop) c.in-Err.fault (rw c.as_slice.ensures at c.in-Err.ensures.fault)

pub returns-clause-ok : goal.returns-clause-ok
returns-clause-ok g c =
    let a = c.args.a.now in
    let p = c.args.plan.now in
    both-edit g.P.Pairs.told c.args.pairs.now c.drop_name.new.pairs c.add.new.pairs 1 3 c.in-Ok.ensures.goes
    c.add.ensures.goes (CanRename c.args.now a p) (CanAdd p.to a.to.name) (unnamed c.args.now a p)
    (edit_node p.to (λ n. touch c.args.now (add_name a.to.name p.fileid n)))
    (edits-given g.P.Pairs.told c.args.pairs.now c.drop_name.new.pairs (CanRename c.args.now a p) (CanDrop p.from a.from.name)
    (λ t can. can.drop) (unnamed c.args.now a p) (rw c.as_slice.ensures at c.in-Ok.ensures.ok))
    (λ t can. can.add) c.add.result (rw c.as_slice-2.ensures at c.add.ensures.ok)

pub returns-clause-fault : goal.returns-clause-fault
returns-clause-fault g c =
    let a = c.args.a.now in
    let p = c.args.plan.now in
    both-up g.P.Pairs.told c.args.pairs.now c.drop_name.new.pairs c.add.new.pairs 1 3 c.in-Ok.ensures.goes
    c.add.ensures.goes (CanRename c.args.now a p) (CanAdd p.to a.to.name) (unnamed c.args.now a p)
    (edit_node p.to (λ n. touch c.args.now (add_name a.to.name p.fileid n)))
    (edits-given g.P.Pairs.told c.args.pairs.now c.drop_name.new.pairs (CanRename c.args.now a p) (CanDrop p.from a.from.name)
    (λ t can. can.drop) (unnamed c.args.now a p) (rw c.as_slice.ensures at c.in-Ok.ensures.ok))
    (λ t can. can.add) c.add.result (rw c.as_slice-2.ensures at c.add.ensures.fault)
