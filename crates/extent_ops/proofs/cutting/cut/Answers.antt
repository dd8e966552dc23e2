use Rattle.std.proofs.Common.{Bool, refl, sym, subst, arith}
use Rattle.pairs.specs.Versions.{HasLives}
use Rattle.pairs.specs.Told.{Tells}
use Rattle.extent_ops.specs.Marking.{as_marks}
use Rattle.extent_ops.specs.Steps.{HasBlocks}
use Rattle.extent_ops.specs.Cuts.{Sweeps, Trims}
use Rattle.extent_ops.proofs.Chaining.{goes-more, goes-both, put-gives-up-first, put-gives-up-behind, tells-makes}
use Rattle.extent_ops.proofs.Trimming.{cuts_by}
use Rattle.extent_ops.proofs.cutting.cut.Goals as goal

pub returns-in-Err-clause-goes : goal.returns-in-Err-clause-goes
returns-in-Err-clause-goes g c = goes-more _ _ _ 0 2 (omega arith) c.needs_sweep.ensures.goes

pub returns-in-Err-clause-fault : goal.returns-in-Err-clause-fault
returns-in-Err-clause-fault g c =
    put-gives-up-first g.P.Pairs.told c.args.pairs.now c.needs_sweep.new.pairs HasBlocks HasLives c.in-Err.fault
    (λ v has. has.lives) c.in-Err.ensures.fault

pub returns-then-first-clause-goes : goal.returns-then-first-clause-goes
returns-then-first-clause-goes g c = goes-more _ _ _ 0 2 (omega arith) c.needs_sweep.ensures.goes

pub returns-then-first-clause-ok : goal.returns-then-first-clause-ok
returns-then-first-clause-ok g c =
    subst (λ (b : Bool). Tells g.P.Pairs.told c.args.pairs.now c.needs_sweep.new.pairs
    (Sweeps c.args.file (as_marks c.args.marks) c.args.size b)) c.if-first.true c.in-Ok.ensures.ok

pub returns-in-Err-trim-clause-goes : goal.returns-in-Err-trim-clause-goes
returns-in-Err-trim-clause-goes g c =
    goes-both _ _ _ _ 0 1 2 (omega arith) c.needs_sweep.ensures.goes c.trim.ensures.goes

pub returns-in-Err-trim-clause-fault : goal.returns-in-Err-trim-clause-fault
returns-in-Err-trim-clause-fault g c =
    put-gives-up-behind _ _ _ _ 0 1 HasBlocks HasBlocks _ c.in-Err-trim.fault c.needs_sweep.ensures.goes c.trim.ensures.goes
    (tells-makes _ _ _ HasBlocks _ (λ v has. has.lives) c.in-Ok.ensures.ok)
    (λ v y has stays. subst HasBlocks (sym stays.same) has) c.in-Err-trim.ensures.fault

pub returns-in-Ok-mark_stale-clause-goes : goal.returns-in-Ok-mark_stale-clause-goes
returns-in-Ok-mark_stale-clause-goes g c =
    goes-both _ _ _ _ 1 1 2 (omega arith)
    (goes-both _ _ _ _ 0 1 1 (omega arith) c.needs_sweep.ensures.goes c.trim.ensures.goes) c.mark_stale.ensures.goes

pub returns-in-Ok-mark_stale-clause-ok : goal.returns-in-Ok-mark_stale-clause-ok
returns-in-Ok-mark_stale-clause-ok g c = λ w v agrees shown has.
    let before = c.mark_stale.ensures.goes.agreed w agrees in
    let first = c.trim.ensures.goes.agreed w before in
    let swept = subst (λ (b : Bool). Sweeps c.args.file (as_marks c.args.marks) c.args.size b v) c.if-first.false
    (c.in-Ok.ensures.ok.finds w v first shown has.lives) in
    let trimmed = c.in-Ok-trim.ensures.ok w v before (c.in-Ok.ensures.ok.shows w v first shown) has in
    record {
      versions = _;
      shown = c.in-Ok-mark_stale.ensures.ok w trimmed.versions agrees trimmed.shown trimmed.is.leaves.has.lives;
      is = cuts_by c.args.file (as_marks c.args.marks) c.args.size v trimmed.versions _ (omega arith) swept trimmed.is refl;
    }

pub returns-in-Err-mark_stale-clause-goes : goal.returns-in-Err-mark_stale-clause-goes
returns-in-Err-mark_stale-clause-goes g c =
    goes-both _ _ _ _ 1 1 2 (omega arith)
    (goes-both _ _ _ _ 0 1 1 (omega arith) c.needs_sweep.ensures.goes c.trim.ensures.goes) c.mark_stale.ensures.goes

pub returns-in-Err-mark_stale-clause-fault : goal.returns-in-Err-mark_stale-clause-fault
returns-in-Err-mark_stale-clause-fault g c =
    put-gives-up-behind _ _ _ _ 1 1 HasBlocks HasLives (Trims c.args.file (as_marks c.args.marks) c.args.size)
    c.in-Err-mark_stale.fault
    (goes-both _ _ _ _ 0 1 1 (omega arith) c.needs_sweep.ensures.goes c.trim.ensures.goes) c.mark_stale.ensures.goes
    (λ w v before shown has. c.in-Ok-trim.ensures.ok w v before
    (c.in-Ok.ensures.ok.shows w v (c.trim.ensures.goes.agreed w before) shown) has)
    (λ v y has trims. trims.leaves.has.lives) c.in-Err-mark_stale.ensures.fault
