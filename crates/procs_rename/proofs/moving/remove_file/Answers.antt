use Rattle.fs_rules.specs.Edits.{edit_node, touch, drop_name}
use Rattle.fs_rules.specs.Removing.{lose_name, remove_file}
use Rattle.inode_ops.specs.Losing.{MayLose}
use Rattle.dir_ops.specs.Directories.{CanDrop}
use Rattle.procs_rename.specs.Moving.{CanTakeOut}
use Rattle.procs_rename.proofs.Chaining.{both-edit, both-up, edits-given, edit-up-given}
use Rattle.procs_rename.proofs.Moves.{drops-lost}
use Rattle.procs_rename.proofs.moving.remove_file.Goals as goal

pub returns-in-Err-clause-fault : goal.returns-in-Err-clause-fault
returns-in-Err-clause-fault g c =
    edit-up-given g.P.Pairs.told c.args.pairs.now c.lose_name.new.pairs
    (CanTakeOut c.args.directory c.args.name.now c.args.fileid)
    (MayLose c.args.fileid) (λ t can. can.lose) c.in-Err.fault c.in-Err.ensures.fault

pub returns-clause-ok : goal.returns-clause-ok
unfolding remove_file
returns-clause-ok g c =
    both-edit g.P.Pairs.told c.args.pairs.now c.lose_name.new.pairs c.drop_name.new.pairs 1 1 c.in-Ok.ensures.goes
    c.drop_name.ensures.goes (CanTakeOut c.args.directory c.args.name.now c.args.fileid)
    (CanDrop c.args.directory c.args.name.now)
    (lose_name c.args.now c.args.fileid) (edit_node c.args.directory (λ n. touch c.args.now (drop_name c.args.name.now n)))
    (edits-given g.P.Pairs.told c.args.pairs.now c.lose_name.new.pairs
    (CanTakeOut c.args.directory c.args.name.now c.args.fileid) (MayLose c.args.fileid) (λ t can. can.lose)
    (lose_name c.args.now c.args.fileid) c.in-Ok.ensures.ok)
    (λ t can. drops-lost c.args.directory c.args.name.now c.args.fileid t can c.args.now) c.drop_name.result
    c.drop_name.ensures.ok

pub returns-clause-fault : goal.returns-clause-fault
returns-clause-fault g c =
    both-up g.P.Pairs.told c.args.pairs.now c.lose_name.new.pairs c.drop_name.new.pairs 1 1 c.in-Ok.ensures.goes
    c.drop_name.ensures.goes (CanTakeOut c.args.directory c.args.name.now c.args.fileid)
    (CanDrop c.args.directory c.args.name.now)
    (lose_name c.args.now c.args.fileid) (edit_node c.args.directory (λ n. touch c.args.now (drop_name c.args.name.now n)))
    (edits-given g.P.Pairs.told c.args.pairs.now c.lose_name.new.pairs
    (CanTakeOut c.args.directory c.args.name.now c.args.fileid) (MayLose c.args.fileid) (λ t can. can.lose)
    (lose_name c.args.now c.args.fileid) c.in-Ok.ensures.ok)
    (λ t can. drops-lost c.args.directory c.args.name.now c.args.fileid t can c.args.now) c.drop_name.result
    c.drop_name.ensures.fault
