use Rattle.std.specs.Prelude.{⊤}
use Rattle.std.proofs.lemmas.Result.{on_ok_weaker, IfErr-weaker}
use Rattle.fs_shows.specs.Views.{IsThere}
use Rattle.fs_shows.proofs.Doing.{does-tell, goes-then, up-given, up-edit, up-behind}
use Rattle.dir_ops.specs.Directories.{CanAdd}
use Rattle.dir_ops.specs.Entries.{with_entry}
use Rattle.dir_ops.proofs.Gaining.{HoldsInode, can-there, add-odd, entry-does, entry-keeps, add-edits}
use Rattle.dir_ops.proofs.adding.add.Goals as goal

pub returns-in-Err-clause-fault : goal.returns-in-Err-clause-fault
returns-in-Err-clause-fault g c =
    up-edit g.P.Pairs.told c.args.pairs.now c.load_live.new.pairs (CanAdd c.args.directory c.args.name.now) c.in-Err.fault
    (up-given g.P.Pairs.told c.args.pairs.now c.load_live.new.pairs (CanAdd c.args.directory c.args.name.now)
    (IsThere c.args.directory)
    (can-there c.args.directory c.args.name.now) c.in-Err.fault c.in-Err.ensures.fault)

pub returns-in-None-clause-fault : goal.returns-in-None-clause-fault
returns-in-None-clause-fault g c =
    add-odd g.P.Pairs.told c.args.pairs.now c.load_live.new.pairs c.load_live.new.pairs c.load_live.new.pairs c.args.directory
    c.ranges.directory.fits c.args.name.now c.requires c.in-Ok.inode c.in-Ok.ensures.record c.in-None.ensures.none

pub returns-in-Err-put_entry-clause-fault : goal.returns-in-Err-put_entry-clause-fault
returns-in-Err-put_entry-clause-fault g c =
    up-behind g.P.Pairs.told c.args.pairs.now c.load_live.new.pairs c.put_entry.new.pairs 0 2 (λ v. v)
    (HoldsInode g.P.Pairs.told c.args.pairs.now c.load_live.new.pairs c.load_live.new.pairs c.load_live.new.pairs
    c.args.directory c.ranges.directory.fits c.args.name.now c.requires c.in-Ok.inode)
    (CanAdd c.args.directory c.args.name.now) c.in-Err-put_entry.fault
    (λ v lives. lives) c.in-Ok.ensures.goes c.in-Err-put_entry.ensures.goes
    (does-tell g.P.Pairs.told c.args.pairs.now c.load_live.new.pairs
    (HoldsInode g.P.Pairs.told c.args.pairs.now c.load_live.new.pairs c.load_live.new.pairs c.load_live.new.pairs
    c.args.directory c.ranges.directory.fits c.args.name.now c.requires c.in-Ok.inode) c.in-Ok.ensures.record)
    c.in-Err-put_entry.ensures.fault

pub returns-clause-ok : goal.returns-clause-ok
returns-clause-ok g c =
    on_ok_weaker c.save.result
    (add-edits g.P.Pairs.told c.args.pairs.now c.load_live.new.pairs c.put_entry.new.pairs c.save.new.pairs c.args.directory
    c.ranges.directory.fits c.args.name.now c.requires c.in-Ok.inode c.args.kind c.args.now c.args.fileid c.in-Some.kept
    c.in-Ok-put_entry.ensures.ok c.in-Ok.ensures.record c.in-Ok-put_entry.ensures.goes c.save.ensures.goes c.in-Some.ensures.ok)
    c.save.ensures.ok

pub returns-clause-fault : goal.returns-clause-fault
returns-clause-fault g c =
    let e = c.in-Ok-put_entry.ensures.ok in
    IfErr-weaker c.save.result _ _
    (λ fault up. up-behind g.P.Pairs.told c.args.pairs.now c.put_entry.new.pairs c.save.new.pairs 2 1
    (with_entry c.args.directory c.args.name.now c.in-Ok.inode.head.kept.next_cookie e.by_name e.by_cookie)
    (λ v. HoldsInode g.P.Pairs.told c.args.pairs.now c.load_live.new.pairs c.put_entry.new.pairs c.put_entry.new.pairs
    c.args.directory c.ranges.directory.fits c.args.name.now c.requires c.in-Ok.inode v × ⊤)
    (CanAdd c.args.directory c.args.name.now) fault
    (entry-keeps g.P.Pairs.told c.args.pairs.now c.load_live.new.pairs c.put_entry.new.pairs c.put_entry.new.pairs
    c.args.directory c.ranges.directory.fits c.args.name.now c.requires c.in-Ok.inode c.args.fileid e)
    (goes-then g.P.Pairs.told c.args.pairs.now c.load_live.new.pairs c.put_entry.new.pairs 0 2 c.in-Ok.ensures.goes
    c.in-Ok-put_entry.ensures.goes) c.save.ensures.goes
    (entry-does g.P.Pairs.told c.args.pairs.now c.load_live.new.pairs c.put_entry.new.pairs c.put_entry.new.pairs
    c.args.directory c.ranges.directory.fits c.args.name.now c.requires c.in-Ok.inode c.args.fileid e c.in-Ok.ensures.record
    c.in-Ok-put_entry.ensures.goes) up)
    c.save.ensures.fault
