use Rattle.std.proofs.Common.{◌≡◌, ◌≤◌, length, arith, ap}
use Rattle.std.proofs.lemmas.Result.{on_ok_weaker}
use Rattle.pairs.specs.Versions.{HasLives}
use Rattle.fs_shows.proofs.InodeEdits.{inode-first}
use Rattle.fs_shows.proofs.Doing.{goes-none, goes-most, memory-put}
use Rattle.inode_ops.proofs.Loading.{saves-of}
use Rattle.inode_ops.proofs.inodes.save.Goals as goal

pub put_row-requires-clause-other : goal.put_row-requires-clause-other
put_row-requires-clause-other g c = inode-first c.args.id

pub put_row-requires-clause-value : goal.put_row-requires-clause-value
put_row-requires-clause-value g c =
    let is : c.as_slice.result.now ≡ c.in-Ok.value = c.as_slice.ensures in
    let short : length c.in-Ok.value ≤ 1113 = c.in-Ok.ensures.short in
    rw is (omega (arith, short))

pub returns-in-Ok-clause-ok : goal.returns-in-Ok-clause-ok
returns-in-Ok-clause-ok g c =
    let is : c.as_slice.result.now ≡ c.in-Ok.value = c.as_slice.ensures in
    on_ok_weaker c.put_row.result
    (saves-of g.P.Pairs.told c.args.pairs.now c.put_row.new.pairs c.args.id c.args.inode.now c.in-Ok.value c.in-Ok.ensures.is
    c.in-Ok.ensures.again)
    (rw is at c.put_row.ensures.ok)

pub returns-in-Err-clause-goes : goal.returns-in-Err-clause-goes
returns-in-Err-clause-goes g c = goes-most g.P.Pairs.told c.args.pairs.now c.args.pairs.now 0 1 (omega arith)
    (goes-none g.P.Pairs.told c.args.pairs.now)

pub returns-in-Err-clause-fault : goal.returns-in-Err-clause-fault
returns-in-Err-clause-fault g c =
    memory-put g.P.Pairs.told c.args.pairs.now c.args.pairs.now HasLives c.from.result c.from.ensures
