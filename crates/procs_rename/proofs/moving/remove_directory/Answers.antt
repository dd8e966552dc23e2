use Rattle.fs_rules.specs.Edits.{edit_node, drop_node, touch, drop_link, drop_name}
use Rattle.fs_rules.specs.Removing.{drop_directory}
use Rattle.fs_shows.specs.Files.{MayGo}
use Rattle.dir_ops.specs.Directories.{CanDrop}
use Rattle.procs_rename.specs.Moving.{CanTakeOut}
use Rattle.procs_rename.proofs.Chaining.{both-edit, both-up, edits-given, edit-up-given}
use Rattle.procs_rename.proofs.Moves.{drops-gone}
use Rattle.procs_rename.proofs.moving.remove_directory.Goals as goal

pub returns-in-Err-clause-fault : goal.returns-in-Err-clause-fault
returns-in-Err-clause-fault g c =
    edit-up-given g.P.Pairs.told c.args.pairs.now c.forget.new.pairs (CanTakeOut c.args.directory c.args.name.now c.args.fileid)
    (MayGo c.args.fileid) (λ t can. can.lose.go) c.in-Err.fault c.in-Err.ensures.fault

pub returns-clause-ok : goal.returns-clause-ok
unfolding drop_directory
returns-clause-ok g c =
    both-edit g.P.Pairs.told c.args.pairs.now c.forget.new.pairs c.drop_directory.new.pairs 1 1 c.in-Ok.ensures.goes
    c.drop_directory.ensures.goes (CanTakeOut c.args.directory c.args.name.now c.args.fileid)
    (CanDrop c.args.directory c.args.name.now) (drop_node c.args.fileid)
    (edit_node c.args.directory (λ n. touch c.args.now (drop_link (drop_name c.args.name.now n))))
    (edits-given g.P.Pairs.told c.args.pairs.now c.forget.new.pairs
    (CanTakeOut c.args.directory c.args.name.now c.args.fileid) (MayGo c.args.fileid) (λ t can. can.lose.go)
    (drop_node c.args.fileid) c.in-Ok.ensures.ok)
    (drops-gone c.args.directory c.args.name.now c.args.fileid) c.drop_directory.result c.drop_directory.ensures.ok

pub returns-clause-fault : goal.returns-clause-fault
returns-clause-fault g c =
    both-up g.P.Pairs.told c.args.pairs.now c.forget.new.pairs c.drop_directory.new.pairs 1 1 c.in-Ok.ensures.goes
    c.drop_directory.ensures.goes (CanTakeOut c.args.directory c.args.name.now c.args.fileid)
    (CanDrop c.args.directory c.args.name.now) (drop_node c.args.fileid)
    (edit_node c.args.directory (λ n. touch c.args.now (drop_link (drop_name c.args.name.now n))))
    (edits-given g.P.Pairs.told c.args.pairs.now c.forget.new.pairs
    (CanTakeOut c.args.directory c.args.name.now c.args.fileid) (MayGo c.args.fileid) (λ t can. can.lose.go)
    (drop_node c.args.fileid) c.in-Ok.ensures.ok)
    (drops-gone c.args.directory c.args.name.now c.args.fileid) c.drop_directory.result c.drop_directory.ensures.fault
