use Rattle.std.proofs.Common.{Some}
use Rattle.std.specs.Prelude.{⊤}
use Rattle.std.proofs.lemmas.Result.{on_ok_weaker, IfErr-weaker}
use Rattle.pairs.specs.declared.at.At.TheVariants.{Live}
use Rattle.fs_shows.specs.Views.{IsKept, IsThere}
use Rattle.fs_shows.proofs.Doing.{goes-then, up-given, up-edit, up-behind, up-behind-read, up-as-put}
use Rattle.dir_ops.specs.Directories.{CanDrop}
use Rattle.dir_ops.specs.Entries.{without_entry}
use Rattle.dir_ops.proofs.Leaving.{HoldsName, HoldsInode, drop-there, drop-odd, both-read, entry-left, left-does, drop-edits}
use Rattle.dir_ops.proofs.dropping.lose.Goals as goal

pub returns-in-Err-clause-fault : goal.returns-in-Err-clause-fault
returns-in-Err-clause-fault g c =
    up-edit g.P.Pairs.told c.args.pairs.now c.look_up.new.pairs (CanDrop c.args.directory c.args.name.now) c.in-Err.fault
    (up-given g.P.Pairs.told c.args.pairs.now c.look_up.new.pairs (CanDrop c.args.directory c.args.name.now) (IsKept Live)
    (λ t can. tt) c.in-Err.fault c.in-Err.ensures.fault)

pub returns-in-None-clause-fault : goal.returns-in-None-clause-fault
returns-in-None-clause-fault g c =
    drop-odd g.P.Pairs.told c.args.pairs.now c.look_up.new.pairs c.look_up.new.pairs c.look_up.new.pairs c.look_up.new.pairs
    c.args.directory c.ranges.directory.fits c.args.name.now c.requires (rw c.in-None.is at c.in-Ok.ensures.record)

pub returns-in-Err-load_live-clause-fault : goal.returns-in-Err-load_live-clause-fault
returns-in-Err-load_live-clause-fault g c =
    up-edit g.P.Pairs.told c.args.pairs.now c.load_live.new.pairs
    (CanDrop c.args.directory c.args.name.now) c.in-Err-load_live.fault
    (up-behind-read g.P.Pairs.told c.args.pairs.now c.look_up.new.pairs c.load_live.new.pairs 0 0
    (HoldsName g.P.Pairs.told c.args.pairs.now c.look_up.new.pairs c.look_up.new.pairs c.look_up.new.pairs
    c.look_up.new.pairs c.args.directory c.ranges.directory.fits c.args.name.now c.requires (Some c.in-Some.row))
    (CanDrop c.args.directory c.args.name.now) c.in-Err-load_live.fault
    c.in-Ok.ensures.goes c.in-Err-load_live.ensures.goes (rw c.in-Some.is at c.in-Ok.ensures.record)
    (up-given g.P.Pairs.told c.look_up.new.pairs c.load_live.new.pairs (CanDrop c.args.directory c.args.name.now)
    (IsThere c.args.directory) (drop-there c.args.directory c.args.name.now) c.in-Err-load_live.fault
    c.in-Err-load_live.ensures.fault))

pub returns-in-Err-del_entry-clause-fault : goal.returns-in-Err-del_entry-clause-fault
returns-in-Err-del_entry-clause-fault g c =
    up-behind g.P.Pairs.told c.args.pairs.now c.load_live.new.pairs c.del_entry.new.pairs 0 0 (λ v. v)
    (λ v. HoldsName g.P.Pairs.told c.args.pairs.now c.look_up.new.pairs c.load_live.new.pairs c.load_live.new.pairs
    c.load_live.new.pairs c.args.directory c.ranges.directory.fits c.args.name.now c.requires
    (Some c.in-Some.row) v × HoldsInode g.P.Pairs.told c.args.pairs.now c.look_up.new.pairs c.load_live.new.pairs
    c.load_live.new.pairs c.load_live.new.pairs c.args.directory c.ranges.directory.fits c.args.name.now c.requires
    c.in-Ok-load_live.inode v)
    (CanDrop c.args.directory c.args.name.now) c.in-Err-del_entry.fault (λ v lives. lives)
    (goes-then g.P.Pairs.told c.args.pairs.now c.look_up.new.pairs c.load_live.new.pairs 0 0 c.in-Ok.ensures.goes
    c.in-Ok-load_live.ensures.goes) c.in-Err-del_entry.ensures.goes
    (both-read g.P.Pairs.told c.args.pairs.now c.look_up.new.pairs c.load_live.new.pairs c.load_live.new.pairs
    c.load_live.new.pairs c.args.directory c.ranges.directory.fits c.args.name.now c.requires c.in-Some.row
    c.in-Ok-load_live.inode
    (rw c.in-Some.is at c.in-Ok.ensures.record) c.in-Ok-load_live.ensures.goes c.in-Ok-load_live.ensures.record)
    (up-as-put g.P.Pairs.told c.load_live.new.pairs c.del_entry.new.pairs c.in-Err-del_entry.fault
    c.in-Err-del_entry.ensures.fault)

pub returns-clause-ok : goal.returns-clause-ok
returns-clause-ok g c =
    let moves = c.in-Ok-del_entry.ensures.ok in
    on_ok_weaker c.save.result
    (drop-edits g.P.Pairs.told c.args.pairs.now c.look_up.new.pairs c.load_live.new.pairs c.del_entry.new.pairs c.save.new.pairs
    c.args.directory c.ranges.directory.fits c.args.name.now c.requires c.args.is_directory c.args.now c.in-Some.row
    c.in-Ok-load_live.inode c.lost-kept.result c.in-Ok-del_entry.ensures.fits
    (left-does g.P.Pairs.told c.args.pairs.now c.look_up.new.pairs c.load_live.new.pairs c.del_entry.new.pairs c.save.new.pairs
    c.args.directory c.ranges.directory.fits c.args.name.now c.requires c.in-Some.row c.in-Ok-load_live.inode
    (both-read g.P.Pairs.told c.args.pairs.now c.look_up.new.pairs c.load_live.new.pairs c.load_live.new.pairs
    c.load_live.new.pairs c.args.directory c.ranges.directory.fits c.args.name.now c.requires c.in-Some.row
    c.in-Ok-load_live.inode
    (rw c.in-Some.is at c.in-Ok.ensures.record) c.in-Ok-load_live.ensures.goes c.in-Ok-load_live.ensures.record)
    c.in-Ok-del_entry.ensures.goes moves)
    c.save.ensures.goes c.lost-kept.ensures)
    c.save.ensures.ok

pub returns-clause-fault : goal.returns-clause-fault
returns-clause-fault g c =
    IfErr-weaker c.save.result _ _
    (λ fault up. up-behind g.P.Pairs.told c.args.pairs.now c.del_entry.new.pairs c.save.new.pairs 0 1
    (without_entry c.args.directory c.args.name.now c.in-Some.row.cookie)
    (λ v. (HoldsName g.P.Pairs.told c.args.pairs.now c.look_up.new.pairs c.load_live.new.pairs c.del_entry.new.pairs
    c.save.new.pairs c.args.directory c.ranges.directory.fits c.args.name.now c.requires
    (Some c.in-Some.row) v × HoldsInode g.P.Pairs.told c.args.pairs.now c.look_up.new.pairs c.load_live.new.pairs
    c.del_entry.new.pairs c.save.new.pairs c.args.directory c.ranges.directory.fits c.args.name.now c.requires
    c.in-Ok-load_live.inode v) × ⊤)
    (CanDrop c.args.directory c.args.name.now) fault
    (entry-left g.P.Pairs.told c.args.pairs.now c.look_up.new.pairs c.load_live.new.pairs c.del_entry.new.pairs
    c.save.new.pairs c.args.directory c.ranges.directory.fits c.args.name.now c.requires c.in-Some.row.cookie
    c.in-Ok-del_entry.ensures.fits)
    (goes-then g.P.Pairs.told c.args.pairs.now c.load_live.new.pairs c.del_entry.new.pairs 0 0
    (goes-then g.P.Pairs.told c.args.pairs.now c.look_up.new.pairs c.load_live.new.pairs 0 0 c.in-Ok.ensures.goes
    c.in-Ok-load_live.ensures.goes) c.in-Ok-del_entry.ensures.goes)
    c.save.ensures.goes
    (left-does g.P.Pairs.told c.args.pairs.now c.look_up.new.pairs c.load_live.new.pairs c.del_entry.new.pairs c.save.new.pairs
    c.args.directory c.ranges.directory.fits c.args.name.now c.requires c.in-Some.row c.in-Ok-load_live.inode
    (both-read g.P.Pairs.told c.args.pairs.now c.look_up.new.pairs c.load_live.new.pairs c.load_live.new.pairs
    c.load_live.new.pairs c.args.directory c.ranges.directory.fits c.args.name.now c.requires c.in-Some.row
    c.in-Ok-load_live.inode
    (rw c.in-Some.is at c.in-Ok.ensures.record) c.in-Ok-load_live.ensures.goes c.in-Ok-load_live.ensures.record)
    c.in-Ok-del_entry.ensures.goes c.in-Ok-del_entry.ensures.ok) up)
    c.save.ensures.fault
