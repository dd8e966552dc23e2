-- The inode is loaded, and then the range is read with its marks.
use Rattle.std.proofs.Common.{◌≡◌, ◌∙◌, ℕ, ◌-◌, min, List, length, take, drop, Some, sym, ap, subst, arith}
use Rattle.std.proofs.lemmas.List.{take_at}
use Rattle.pairs.specs.Told.{Tells}
use Rattle.fs_rules.specs.Places.{content_at}
use Rattle.fs_keys.specs.declared.key_parts.KeyParts.TheVariants.{Inode as InodeKey}
use Rattle.fs_keys.specs.Inodes.{inode_of}
use Rattle.fs_shows.specs.Extents.{row}
use Rattle.fs_shows.specs.Nodes.{Holds}
use Rattle.fs_shows.specs.Steps.{Reads}
use Rattle.fs_shows.specs.Views.{place_in, IsKept}
use Rattle.fs_shows.proofs.Doing.{goes-then, up-given, up-read, up-memory}
use Rattle.extent_ops.specs.Marking.{as_marks}
use Rattle.extent_ops.proofs.Chaining.{gives-up-reading}
use Rattle.file_ops.specs.Given.{HasFile}
use Rattle.file_ops.proofs.Ranged.{range-reads, absent-odd}
use Rattle.file_ops.proofs.reading.read_at.Goals as goal

pub returns-in-Err-clause-goes : goal.returns-in-Err-clause-goes
returns-in-Err-clause-goes g c = c.load.ensures.goes

pub returns-in-Err-clause-fault : goal.returns-in-Err-clause-fault
returns-in-Err-clause-fault g c =
    up-given g.P.Pairs.told c.args.pairs.now c.load.new.pairs (HasFile c.args.at c.args.id) (IsKept c.args.at) (λ t has. has.kept)
    c.in-Err.fault c.in-Err.ensures.fault

pub returns-in-None-clause-goes : goal.returns-in-None-clause-goes
returns-in-None-clause-goes g c = c.load.ensures.goes

pub returns-in-None-clause-fault : goal.returns-in-None-clause-fault
returns-in-None-clause-fault g c =
    absent-odd g.P.Pairs.told c.args.pairs.now c.load.new.pairs c.args.at c.args.id c.in-Ok.found c.in-None.is c.in-Ok.ensures.ok

pub returns-in-Err-room_for-clause-goes : goal.returns-in-Err-room_for-clause-goes
returns-in-Err-room_for-clause-goes g c = c.load.ensures.goes

pub returns-in-Err-room_for-clause-fault : goal.returns-in-Err-room_for-clause-fault
returns-in-Err-room_for-clause-fault g c =
    up-memory g.P.Pairs.told c.args.pairs.now c.load.new.pairs (HasFile c.args.at c.args.id) c.from.result c.from.ensures

pub returns-in-Ok-read-clause-goes : goal.returns-in-Ok-read-clause-goes
returns-in-Ok-read-clause-goes g c =
    goes-then g.P.Pairs.told c.args.pairs.now c.load.new.pairs c.read.new.pairs 0 0 c.load.ensures.goes c.read.ensures.goes

pub returns-in-Ok-read-clause-ok : goal.returns-in-Ok-read-clause-ok
returns-in-Ok-read-clause-ok g c =
    let long : length c.read.new.room ≡ c.in-Ok-room_for.room.len = omega (arith, c.read.auto.room, c.deref_mut.ensures.len) in
    let is : c.from_vec.result ≡ c.read.new.room = c.from_vec.ensures
    ∙ take_at c.read.new.room _ c.in-Ok-room_for.room.len long in
    let count : length c.read.new.room ≡ min c.args.count (c.in-Some.inode.head.size - c.args.offset) =
    omega (arith, c.read.auto.room, ap length c.deref_mut.ensures.value, c.in-Ok-room_for.ensures.long) in
    let loaded : Tells g.P.Pairs.told c.args.pairs.now c.load.new.pairs
    (λ v. Holds inode_of (row v c.args.at (InodeKey c.args.id)) (Some c.in-Some.inode)) =
    rw c.in-Some.is at c.in-Ok.ensures.record in
    subst (λ (bs : List ℕ). Reads g.P.Pairs.told c.args.pairs.now c.read.new.pairs (HasFile c.args.at c.args.id)
    (λ t. bs ≡ take c.args.count (drop c.args.offset (content_at t (place_in c.args.at c.args.id))))) (sym is)
    (range-reads g.P.Pairs.told c.args.pairs.now c.load.new.pairs c.read.new.pairs c.args.at c.args.id c.ranges.id.fits
    c.in-Some.inode loaded c.args.offset c.args.count (as_marks c.of-marks.result) c.read.new.room c.of-marks.ensures
    c.room_for.ensures.size count
    c.read.ensures.goes c.in-Ok-read.ensures.ok)

pub returns-clause-goes : goal.returns-clause-goes
returns-clause-goes g c =
    goes-then g.P.Pairs.told c.args.pairs.now c.load.new.pairs c.read.new.pairs 0 0 c.load.ensures.goes c.read.ensures.goes

pub returns-clause-fault : goal.returns-clause-fault
returns-clause-fault g c =
    up-read g.P.Pairs.told c.args.pairs.now c.read.new.pairs (HasFile c.args.at c.args.id) c.in-Err-read.fault
    (gives-up-reading g.P.Pairs.told c.args.pairs.now c.load.new.pairs c.read.new.pairs 0 0
    (λ v. Holds inode_of (row v c.args.at (InodeKey c.args.id)) c.in-Ok.found) c.in-Err-read.fault c.load.ensures.goes
    c.read.ensures.goes c.in-Ok.ensures.record c.in-Err-read.ensures.fault)
