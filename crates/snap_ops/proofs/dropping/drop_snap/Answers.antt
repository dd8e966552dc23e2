-- The times are put, and then the name ends.
use Rattle.std.proofs.Common.{◌≡◌, subst}
use Rattle.std.proofs.lemmas.Result.{on_ok_weaker, IfErr-weaker}
use Rattle.std.specs.Prelude.{⊤}
use Rattle.fs_rules.specs.declared.times.Times.{Times}
use Rattle.fs_shows.proofs.Doing.{up-put, up-after-read}
use Rattle.snap_ops.specs.Taking.{PutsTimes}
use Rattle.snap_ops.proofs.Putting.{dropped, dropped-up}
use Rattle.snap_ops.proofs.dropping.drop_snap.Goals as goal

pub returns-in-Err-put_times-clause-fault : goal.returns-in-Err-put_times-clause-fault
returns-in-Err-put_times-clause-fault g c =
    up-after-read g.P.Pairs.told c.args.pairs.now c.snapshot_times.new.pairs c.put_times.new.pairs 0 1 (λ t. ⊤) (λ t. ⊤) (λ t. ⊤)
    (λ t. t.snapshot_times ≡ c.in-Ok.times) c.in-Err-put_times.fault c.snapshot_times.ensures.goes c.put_times.ensures.goes
    c.in-Ok.ensures.ok (λ t given. tt)
    (up-put g.P.Pairs.told c.snapshot_times.new.pairs c.put_times.new.pairs (λ t. ⊤) c.in-Err-put_times.fault
    c.in-Err-put_times.ensures.fault)

pub returns-clause-ok : goal.returns-clause-ok
returns-clause-ok g c =
    on_ok_weaker c.del_row.result
    (dropped g.P.Pairs.told c.args.pairs.now c.snapshot_times.new.pairs c.put_times.new.pairs c.del_row.new.pairs c.args.number
    c.in-Ok.times c.args.now c.ranges.number.fits c.snapshot_times.ensures.goes c.put_times.ensures.goes c.del_row.ensures.goes
    c.in-Ok.ensures.ok
    (subst (λ (x : Times). PutsTimes g.P.Pairs.told c.snapshot_times.new.pairs c.put_times.new.pairs x) c.touched.ensures
    c.in-Ok-put_times.ensures.ok))
    c.del_row.ensures.ok

pub returns-clause-fault : goal.returns-clause-fault
returns-clause-fault g c =
    IfErr-weaker c.del_row.result _ _
    (dropped-up g.P.Pairs.told c.args.pairs.now c.snapshot_times.new.pairs c.put_times.new.pairs c.del_row.new.pairs
    c.args.number
    c.in-Ok.times c.args.now c.ranges.number.fits c.snapshot_times.ensures.goes c.put_times.ensures.goes c.del_row.ensures.goes
    c.in-Ok.ensures.ok
    (subst (λ (x : Times). PutsTimes g.P.Pairs.told c.snapshot_times.new.pairs c.put_times.new.pairs x) c.touched.ensures
    c.in-Ok-put_times.ensures.ok))
    c.del_row.ensures.fault
