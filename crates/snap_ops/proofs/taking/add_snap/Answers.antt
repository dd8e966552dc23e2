-- The first record and the times are read, and then the records of the snapshot are put.
use Rattle.std.proofs.Common.{◌≡◌, subst, arith}
use Rattle.std.specs.Prelude.{⊤}
use Rattle.fs_rules.specs.declared.times.Times.{Times}
use Rattle.fs_rules.specs.Limits.{last_epoch}
use Rattle.fs_shows.specs.Shows.{first_of}
use Rattle.fs_shows.proofs.Doing.{up-edit, up-given, up-after-read}
use Rattle.snap_ops.specs.Taking.{MayTake, PutsSnapshot}
use Rattle.snap_ops.proofs.Putting.{late-up, taken, taken-up, number-is}
use Rattle.snap_ops.proofs.taking.add_snap.Goals as goal

pub returns-in-Err-clause-fault : goal.returns-in-Err-clause-fault
returns-in-Err-clause-fault g c =
    up-edit g.P.Pairs.told c.args.pairs.now c.first.new.pairs MayTake c.in-Err.fault
    (up-given g.P.Pairs.told c.args.pairs.now c.first.new.pairs MayTake (λ t. ⊤) (λ t may. tt) c.in-Err.fault
    c.in-Err.ensures.fault)

pub returns-in-Err-snapshot_times-clause-fault : goal.returns-in-Err-snapshot_times-clause-fault
returns-in-Err-snapshot_times-clause-fault g c =
    up-after-read g.P.Pairs.told c.args.pairs.now c.first.new.pairs c.snapshot_times.new.pairs 0 0 (λ t. ⊤) MayTake (λ t. ⊤)
    (λ t. first_of t ≡ c.in-Ok.row) c.in-Err-snapshot_times.fault c.first.ensures.goes c.snapshot_times.ensures.goes
    c.in-Ok.ensures.ok (λ t may. tt)
    (up-edit g.P.Pairs.told c.first.new.pairs c.snapshot_times.new.pairs (λ t. ⊤) c.in-Err-snapshot_times.fault
    c.in-Err-snapshot_times.ensures.fault)

pub returns-then-row-ge-LAST_EPOCH-clause-fault : goal.returns-then-row-ge-LAST_EPOCH-clause-fault
unfolding last_epoch
returns-then-row-ge-LAST_EPOCH-clause-fault g c =
    late-up g.P.Pairs.told c.args.pairs.now c.first.new.pairs c.snapshot_times.new.pairs c.in-Ok.row
    c.in-Ok-snapshot_times.times c.first.ensures.goes c.snapshot_times.ensures.goes c.in-Ok.ensures.ok
    c.in-Ok-snapshot_times.ensures.ok (omega (arith, c.if-row-ge-LAST_EPOCH.true))

pub put_snapshot-requires-clause-early : goal.put_snapshot-requires-clause-early
unfolding last_epoch
put_snapshot-requires-clause-early g c = omega (arith, c.if-row-ge-LAST_EPOCH.false)

pub returns-in-Ok-put_snapshot-clause-ok : goal.returns-in-Ok-put_snapshot-clause-ok
returns-in-Ok-put_snapshot-clause-ok g c =
    taken g.P.Pairs.told c.args.pairs.now c.first.new.pairs c.snapshot_times.new.pairs c.in-Ok.row
    c.in-Ok-snapshot_times.times c.first.ensures.goes c.snapshot_times.ensures.goes c.in-Ok.ensures.ok
    c.in-Ok-snapshot_times.ensures.ok c.put_snapshot.new.pairs c.args.name.now c.args.now c.put_snapshot.ensures.goes
    (subst (λ (x : Times). PutsSnapshot g.P.Pairs.told c.snapshot_times.new.pairs c.put_snapshot.new.pairs c.in-Ok.row
    c.args.name.now x) c.touched.ensures c.in-Ok-put_snapshot.ensures.ok)

pub returns-in-Ok-put_snapshot-clause-number : goal.returns-in-Ok-put_snapshot-clause-number
returns-in-Ok-put_snapshot-clause-number g c =
    number-is g.P.Pairs.told c.args.pairs.now c.first.new.pairs c.snapshot_times.new.pairs c.in-Ok.row
    c.in-Ok-snapshot_times.times c.first.ensures.goes c.snapshot_times.ensures.goes c.in-Ok.ensures.ok
    c.in-Ok-snapshot_times.ensures.ok c.put_snapshot.new.pairs c.args.name.now c.args.now c.put_snapshot.ensures.goes

pub returns-in-Err-put_snapshot-clause-fault : goal.returns-in-Err-put_snapshot-clause-fault
returns-in-Err-put_snapshot-clause-fault g c =
    taken-up g.P.Pairs.told c.args.pairs.now c.first.new.pairs c.snapshot_times.new.pairs c.in-Ok.row
    c.in-Ok-snapshot_times.times c.first.ensures.goes c.snapshot_times.ensures.goes c.in-Ok.ensures.ok
    c.in-Ok-snapshot_times.ensures.ok c.put_snapshot.new.pairs c.args.name.now c.args.now c.put_snapshot.ensures.goes
    c.in-Err-put_snapshot.fault c.in-Err-put_snapshot.ensures.fault
