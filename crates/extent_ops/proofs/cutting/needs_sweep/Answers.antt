use Rattle.std.proofs.Common.{inl, arith}
use Rattle.extent_ops.specs.Marking.{as_marks}
use Rattle.extent_ops.proofs.Chaining.{goes-still}
use Rattle.extent_ops.proofs.Placed.{sweeps_by}
use Rattle.extent_ops.proofs.cutting.needs_sweep.Goals as goal

pub returns-then-floor_of-marks-clause-goes : goal.returns-then-floor_of-marks-clause-goes
returns-then-floor_of-marks-clause-goes g c = goes-still _ _ 0

pub returns-then-floor_of-marks-clause-ok : goal.returns-then-floor_of-marks-clause-ok
returns-then-floor_of-marks-clause-ok g c = record {
  shows = λ w v agrees shown. shown;
  finds = λ w v agrees shown lives. inl (omega (arith, c.floor_of.ensures, c.if-floor_of-marks.true));
}

pub returns-in-Ok-clause-goes : goal.returns-in-Ok-clause-goes
returns-in-Ok-clause-goes g c = c.is_stale.ensures.goes

pub returns-in-Ok-clause-ok : goal.returns-in-Ok-clause-ok
returns-in-Ok-clause-ok g c = record {
  shows = c.in-Ok.ensures.ok.shows;
  finds = λ w v agrees shown lives. sweeps_by c.args.file (as_marks c.args.marks) c.args.size v c.in-Ok.stale
      (omega (arith, c.floor_of.ensures, c.if-floor_of-marks.false)) (c.in-Ok.ensures.ok.finds w v agrees shown lives);
}

pub returns-in-Err-clause-goes : goal.returns-in-Err-clause-goes
returns-in-Err-clause-goes g c = c.is_stale.ensures.goes

pub returns-in-Err-clause-fault : goal.returns-in-Err-clause-fault
returns-in-Err-clause-fault g c = c.in-Err.ensures.fault
