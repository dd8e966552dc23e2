-- Three records are put, one behind another.
use Rattle.std.proofs.Common.{arith}
use Rattle.std.proofs.lemmas.Result.{on_ok_weaker, IfErr-weaker}
use Rattle.fs_rules.specs.Limits.{last_epoch, longest_name}
use Rattle.snap_ops.proofs.Putting.{puts-snapshot, risen-up, timed-up}
use Rattle.snap_ops.proofs.taking.put_snapshot.Goals as goal

pub put_row-requires-clause-value : goal.put_row-requires-clause-value
unfolding longest_name
put_row-requires-clause-value g c = omega (arith, c.requires.name)

pub overflow_add-next : goal.overflow_add-next
unfolding last_epoch
overflow_add-next g c = omega (arith, c.requires.early)

pub put_first-requires : goal.put_first-requires
unfolding last_epoch
put_first-requires g c = omega (arith, c.requires.early)

pub returns-in-Err-put_first-clause-fault : goal.returns-in-Err-put_first-clause-fault
unfolding last_epoch
returns-in-Err-put_first-clause-fault g c =
    risen-up g.P.Pairs.told c.args.pairs.now c.put_row.new.pairs c.put_first.new.pairs c.args.row.now c.args.name.now
    (omega (arith, c.requires.early)) (omega (arith, c.requires.early)) c.put_row.ensures.goes c.put_first.ensures.goes
    c.in-Ok.ensures.ok c.in-Err-put_first.fault c.in-Err-put_first.ensures.fault

pub returns-clause-ok : goal.returns-clause-ok
unfolding last_epoch
returns-clause-ok g c =
    on_ok_weaker c.put_times.result
    (puts-snapshot g.P.Pairs.told c.args.pairs.now c.put_row.new.pairs c.put_first.new.pairs c.args.row.now c.args.name.now
    (omega (arith, c.requires.early)) (omega (arith, c.requires.early)) c.put_row.ensures.goes c.put_first.ensures.goes
    c.in-Ok.ensures.ok c.in-Ok-put_first.ensures.ok c.put_times.new.pairs c.args.times c.put_times.ensures.goes)
    c.put_times.ensures.ok

pub returns-clause-fault : goal.returns-clause-fault
unfolding last_epoch
returns-clause-fault g c =
    IfErr-weaker c.put_times.result _ _
    (timed-up g.P.Pairs.told c.args.pairs.now c.put_row.new.pairs c.put_first.new.pairs c.args.row.now c.args.name.now
    (omega (arith, c.requires.early)) (omega (arith, c.requires.early)) c.put_row.ensures.goes c.put_first.ensures.goes
    c.in-Ok.ensures.ok c.in-Ok-put_first.ensures.ok c.put_times.new.pairs c.put_times.ensures.goes) c.put_times.ensures.fault
