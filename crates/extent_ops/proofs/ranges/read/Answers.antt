use Rattle.std.proofs.Common.{◌≡◌, ℕ, length, subst, arith}
use Rattle.pairs.specs.Told.{Tells}
use Rattle.extent_ops.specs.Marking.{as_marks}
use Rattle.extent_ops.specs.Ranges.{ReadsBytes}
use Rattle.extent_ops.proofs.Chaining.{goes-still, goes-both, gives-up-reading, tells-both}
use Rattle.extent_ops.proofs.Filling.{reads_step}
use Rattle.extent_ops.proofs.ranges.read.Goals as goal

pub loop-done-init : goal.loop-done-init
loop-done-init g c = record {
  within = omega arith;
  goes = goes-still _ _ 0;
  told = record {
    shows = λ w v agrees shown. shown;
    finds = λ w v agrees shown lives. record { bytes = λ keeps k less. absurd (omega arith) };
  };
}

pub loop-done-preserved : goal.loop-done-preserved
loop-done-preserved g c = record {
  within = omega (arith, c.min-len.ensures);
  goes = goes-both _ _ _ _ 0 0 0 (omega arith) c.loop-done.invariant.goes c.read_part.ensures.goes;
  told = tells-both _ _ _ _ 0 _ _ _ c.read_part.ensures.goes c.loop-done.invariant.told c.in-Ok.ensures.ok
      (λ v first then. reads_step c.args.at c.args.file (as_marks c.args.marks) c.args.offset c.loop-done.done c.min-len.result
      c.loop-done.room c.read_part.new.room _ v c.min-len.ensures c.loop-done.invariant.within c.read_part.auto.room first then);
}

pub returns-in-Err-clause-goes : goal.returns-in-Err-clause-goes
returns-in-Err-clause-goes g c =
    goes-both _ _ _ _ 0 0 0 (omega arith) c.loop-done.invariant.goes c.read_part.ensures.goes

pub returns-in-Err-clause-fault : goal.returns-in-Err-clause-fault
returns-in-Err-clause-fault g c =
    gives-up-reading _ _ _ _ 0 0 _ c.in-Err.fault c.loop-done.invariant.goes c.read_part.ensures.goes
    c.loop-done.invariant.told c.in-Err.ensures.fault

pub returns-clause-goes : goal.returns-clause-goes
returns-clause-goes g c = c.loop-done.invariant.goes

pub returns-clause-ok : goal.returns-clause-ok
returns-clause-ok g c =
    let all : c.loop-done.done ≡ length c.loop-done.room = omega (arith, c.loop-done.invariant.within) in
    subst (λ (n : ℕ). Tells g.P.Pairs.told c.args.pairs.now c.loop-done.pairs
    (ReadsBytes c.args.at c.args.file (as_marks c.args.marks) c.args.offset n c.loop-done.room)) all c.loop-done.invariant.told
