-- The inode is saved, the number given, and the name added.
use Rattle.std.proofs.Common.{arith}
use Rattle.std.proofs.lemmas.Result.{on_ok_weaker, IfErr-weaker}
use Rattle.fs_shows.specs.Files.{IsUngiven}
use Rattle.fs_shows.proofs.Doing.{goes-then, goes-most}
use Rattle.inode_ops.specs.Giving.{CanGive}
use Rattle.dir_ops.specs.Directories.{CanAdd}
use Rattle.procs_object.proofs.Gathering.{edit-up-behind}
use Rattle.procs_making.specs.Children.{node_by, CanMake}
use Rattle.procs_making.proofs.Gathered.{edit-given}
use Rattle.procs_making.proofs.Made.{saved, numbered, gives-still, adds-still, saves, numbers, adds}
use Rattle.procs_making.proofs.making.make_in.Goals as goal

pub make-requires : goal.make-requires
make-requires g c = c.requires.target

pub returns-in-Err-clause-goes : goal.returns-in-Err-clause-goes
returns-in-Err-clause-goes g c = goes-most g.P.Pairs.told c.args.pairs.now c.make.new.pairs 1 5 (omega arith) c.make.ensures.goes

pub returns-in-Err-clause-fault : goal.returns-in-Err-clause-fault
returns-in-Err-clause-fault g c =
    edit-given g.P.Pairs.told c.args.pairs.now c.make.new.pairs (CanMake c.args.name.now c.args.child.now)
    (IsUngiven c.args.child.now.plan.fileid) (λ t can. can.ungiven) c.in-Err.fault c.in-Err.ensures.fault

pub returns-in-Err-give-clause-goes : goal.returns-in-Err-give-clause-goes
returns-in-Err-give-clause-goes g c =
    goes-most g.P.Pairs.told c.args.pairs.now c.give.new.pairs 2 5 (omega arith)
    (goes-then g.P.Pairs.told c.args.pairs.now c.make.new.pairs c.give.new.pairs 1 1 c.make.ensures.goes c.give.ensures.goes)

pub returns-in-Err-give-clause-fault : goal.returns-in-Err-give-clause-fault
returns-in-Err-give-clause-fault g c =
    let x = c.args.child.now in
    let name = c.args.name.now in
    edit-up-behind g.P.Pairs.told c.args.pairs.now c.make.new.pairs c.give.new.pairs 1 1 (CanMake name x) (CanGive x.lane)
    (saved name x) c.make.ensures.goes c.give.ensures.goes
    (saves g.P.Pairs.told name x c.args.pairs.now c.make.new.pairs (c.in-Ok.ensures.ok (node_by x.inode) c.requires.blank))
    (gives-still name x) c.in-Err-give.fault c.in-Err-give.ensures.fault

pub add-requires : goal.add-requires
add-requires g c = c.requires.name

pub returns-clause-goes : goal.returns-clause-goes
returns-clause-goes g c =
    goes-then g.P.Pairs.told c.args.pairs.now c.give.new.pairs c.add.new.pairs 2 3
    (goes-then g.P.Pairs.told c.args.pairs.now c.make.new.pairs c.give.new.pairs 1 1 c.make.ensures.goes c.give.ensures.goes)
    c.add.ensures.goes

pub returns-clause-ok : goal.returns-clause-ok
returns-clause-ok g c =
    let x = c.args.child.now in
    let name = c.args.name.now in
    on_ok_weaker c.add.result
    (adds g.P.Pairs.told name x c.args.pairs.now c.give.new.pairs c.add.new.pairs c.add.ensures.goes
    (numbers g.P.Pairs.told name x c.args.pairs.now c.make.new.pairs c.give.new.pairs c.give.ensures.goes
    (saves g.P.Pairs.told name x c.args.pairs.now c.make.new.pairs (c.in-Ok.ensures.ok (node_by x.inode) c.requires.blank))
    c.in-Ok-give.ensures.ok))
    c.add.ensures.ok

pub returns-clause-fault : goal.returns-clause-fault
returns-clause-fault g c =
    let x = c.args.child.now in
    let name = c.args.name.now in
    IfErr-weaker c.add.result _ _
    (λ fault up. edit-up-behind g.P.Pairs.told c.args.pairs.now c.give.new.pairs c.add.new.pairs 2 3 (CanMake name x)
    (CanAdd x.plan.directory name) (numbered name x)
    (goes-then g.P.Pairs.told c.args.pairs.now c.make.new.pairs c.give.new.pairs 1 1 c.make.ensures.goes c.give.ensures.goes)
    c.add.ensures.goes
    (numbers g.P.Pairs.told name x c.args.pairs.now c.make.new.pairs c.give.new.pairs c.give.ensures.goes
    (saves g.P.Pairs.told name x c.args.pairs.now c.make.new.pairs (c.in-Ok.ensures.ok (node_by x.inode) c.requires.blank))
    c.in-Ok-give.ensures.ok)
    (adds-still name x) fault up)
    c.add.ensures.fault
