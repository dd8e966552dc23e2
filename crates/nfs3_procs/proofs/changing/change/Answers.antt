-- Each call that can change the tree, by its procedure.
use Rattle.std.proofs.Common.{arith}
use Rattle.nfs3_procs.proofs.Ended.{ends-so, waits-more}
use Rattle.nfs3_procs.proofs.changing.change.Goals as goal

pub returns-in-SetAttr : goal.returns-in-SetAttr
returns-in-SetAttr g c =
    rw c.in-SetAttr.is (waits-more g.P.Pairs.told _ _ 4 9 _ _ (omega arith) c.set_attr.ensures)

pub returns-in-Write : goal.returns-in-Write
returns-in-Write g c =
    rw c.in-Write.is (ends-so g.P.Pairs.told _ _ 6 9 _ _ _ (omega arith) c.stopped.ensures c.write.ensures)

pub create-requires : goal.create-requires
create-requires g c = c.requires.lane

pub returns-in-Create : goal.returns-in-Create
returns-in-Create g c =
    rw c.in-Create.is (waits-more g.P.Pairs.told _ _ 5 9 _ _ (omega arith) c.create.ensures)

pub mkdir-requires : goal.mkdir-requires
mkdir-requires g c = c.requires.lane

pub returns-in-Mkdir : goal.returns-in-Mkdir
returns-in-Mkdir g c =
    rw c.in-Mkdir.is (ends-so g.P.Pairs.told _ _ 5 9 _ _ _ (omega arith) c.stopped-in-Mkdir.ensures c.mkdir.ensures)

pub symlink-requires : goal.symlink-requires
symlink-requires g c = c.requires.lane

pub returns-in-Symlink : goal.returns-in-Symlink
returns-in-Symlink g c =
    rw c.in-Symlink.is (ends-so g.P.Pairs.told _ _ 5 9 _ _ _ (omega arith) c.stopped-in-Symlink.ensures c.symlink.ensures)

pub returns-in-Remove : goal.returns-in-Remove
returns-in-Remove g c =
    rw c.in-Remove.is (ends-so g.P.Pairs.told _ _ 2 9 _ _ _ (omega arith) c.stopped-in-Remove.ensures c.remove.ensures)

pub returns-in-Rmdir : goal.returns-in-Rmdir
returns-in-Rmdir g c =
    rw c.in-Rmdir.is (ends-so g.P.Pairs.told _ _ 2 9 _ _ _ (omega arith) c.stopped-in-Rmdir.ensures c.rmdir.ensures)

pub returns-in-Rename : goal.returns-in-Rename
returns-in-Rename g c =
    rw c.in-Rename.is (ends-so g.P.Pairs.told _ _ 9 9 _ _ _ (omega arith) c.stopped-in-Rename.ensures c.rename.ensures)

pub returns-in-Link : goal.returns-in-Link
returns-in-Link g c =
    rw c.in-Link.is (ends-so g.P.Pairs.told _ _ 4 9 _ _ _ (omega arith) c.stopped-in-Link.ensures c.link.ensures)
