-- Each step keeps what is known, and does one thing more at most.
use Rattle.std.proofs.Common.{Bool, false, Option, Some, sym, subst, arith}
use Rattle.fs_shows.proofs.Doing.{goes-none, goes-then}
use Rattle.sweeper.specs.declared.place.Walk.{Walk}
use Rattle.sweeper.specs.Keeping.{Keeps}
use Rattle.sweeper.specs.Knowing.{Knows}
use Rattle.sweeper.specs.Sweeping.{walk_of}
use Rattle.sweeper.proofs.Ends.{keeps-none, keeps-then, keeps-stop, walk-up}
use Rattle.sweeper.proofs.sweep.walk.Goals.{then-step, else-step}
use Rattle.sweeper.proofs.sweep.walk.Goals as goal

pub loop-init : goal.loop-init
loop-init g c = record {
  goes = goes-none g.P.Pairs.told c.args.pairs.now;
  few = omega arith;
  keeps = λ trusted.
      subst (λ (b : Bool). Keeps g.P.Pairs.told c.args.pairs.now c.args.pairs.now
      (Knows trusted c.args.kept.now (Some (walk_of c.args.place)))
      (Knows trusted c.args.kept.now (Some (record { place = c.args.place; whole = b })))) (sym c.is_whole-whole.ensures.is)
      (keeps-none g.P.Pairs.told c.args.pairs.now (Knows trusted c.args.kept.now (Some (walk_of c.args.place))));
}

pub returns-then-count-budget-clause-goes : goal.returns-then-count-budget-clause-goes
returns-then-count-budget-clause-goes g c = c.loop.invariant.goes

pub returns-then-count-budget-clause-fits : goal.returns-then-count-budget-clause-fits
returns-then-count-budget-clause-fits g c = c.is_whole-whole.ensures.fits

pub returns-then-count-budget-clause-few : goal.returns-then-count-budget-clause-few
returns-then-count-budget-clause-few g c = c.loop.invariant.few

pub returns-then-count-budget-clause-ok : goal.returns-then-count-budget-clause-ok
returns-then-count-budget-clause-ok g c = λ trusted.
    keeps-stop g.P.Pairs.told c.args.pairs.now c.loop.pairs trusted c.args.kept.now
    (Knows trusted c.args.kept.now (Some (walk_of c.args.place))) c.loop.walk.place c.loop.walk (c.loop.invariant.keeps trusted)

pub returns-clause-goes : goal.returns-clause-goes
returns-clause-goes g c = c.loop.invariant.goes

pub returns-clause-fits : goal.returns-clause-fits
returns-clause-fits g c = c.is_whole-whole.ensures.fits

pub returns-clause-few : goal.returns-clause-few
returns-clause-few g c = c.loop.invariant.few

pub returns-clause-ok : goal.returns-clause-ok
returns-clause-ok g c = λ trusted.
    keeps-stop g.P.Pairs.told c.args.pairs.now c.loop.pairs trusted c.args.kept.now
    (Knows trusted c.args.kept.now (Some (walk_of c.args.place))) c.loop.walk.place c.loop.walk (c.loop.invariant.keeps trusted)

pub returns-in-Err-clause-goes : goal.returns-in-Err-clause-goes
returns-in-Err-clause-goes g c =
    goes-then g.P.Pairs.told c.args.pairs.now c.loop.pairs c.step.new.pairs 0 0 c.loop.invariant.goes c.step.ensures.goes

pub returns-in-Err-clause-fits : goal.returns-in-Err-clause-fits
returns-in-Err-clause-fits g c = c.is_whole-whole.ensures.fits

pub returns-in-Err-clause-fault : goal.returns-in-Err-clause-fault
returns-in-Err-clause-fault g c =
    walk-up g.P.Pairs.told c.args.pairs.now c.loop.pairs c.step.new.pairs 0 0 c.args.kept.now c.args.place c.loop.walk
    c.in-Err.fault c.is_whole-whole.ensures.fits c.loop.invariant.goes c.step.ensures.goes (c.loop.invariant.keeps false) c.in-Err.ensures.fault

pub overflow_add-count : goal.overflow_add-count
overflow_add-count g c = omega (arith, c.loop.invariant.few, c.if-count-budget.false, c.ranges.budget)

pub returns-in-None-clause-goes : goal.returns-in-None-clause-goes
returns-in-None-clause-goes g c =
    goes-then g.P.Pairs.told c.args.pairs.now c.loop.pairs c.step.new.pairs 0 0 c.loop.invariant.goes c.step.ensures.goes

pub returns-in-None-clause-fits : goal.returns-in-None-clause-fits
returns-in-None-clause-fits g c = c.is_whole-whole.ensures.fits

pub returns-in-None-clause-few : goal.returns-in-None-clause-few
returns-in-None-clause-few g c =
    elim c.if-step.branch [
      | then-step w ↦ omega (arith, w.count-is, c.loop.invariant.few, c.if-count-budget.false)
      | else-step w ↦ omega (arith, w.count-is, c.loop.invariant.few)
    ]

pub returns-in-None-clause-ok : goal.returns-in-None-clause-ok
returns-in-None-clause-ok g c = λ trusted.
    subst (λ (next : Option Walk). Keeps g.P.Pairs.told c.args.pairs.now c.step.new.pairs
    (Knows trusted c.args.kept.now (Some (walk_of c.args.place))) (Knows trusted c.args.kept.now next)) c.in-None.is
    (keeps-then g.P.Pairs.told c.args.pairs.now c.loop.pairs c.step.new.pairs 0
    (Knows trusted c.args.kept.now (Some (walk_of c.args.place))) (Knows trusted c.args.kept.now (Some c.loop.walk))
    (Knows trusted c.args.kept.now c.in-Ok.step.next) c.step.ensures.goes (c.loop.invariant.keeps trusted)
    (c.in-Ok.ensures.ok trusted))

pub loop-preserved : goal.loop-preserved
loop-preserved g c = record {
  goes = goes-then g.P.Pairs.told c.args.pairs.now c.loop.pairs c.step.new.pairs 0 0 c.loop.invariant.goes c.step.ensures.goes;
  few =
      elim c.if-step.branch [
        | then-step w ↦ omega (arith, w.count-is, c.loop.invariant.few, c.if-count-budget.false)
        | else-step w ↦ omega (arith, w.count-is, c.loop.invariant.few)
      ];
  keeps = λ trusted.
      subst (λ (next : Walk). Keeps g.P.Pairs.told c.args.pairs.now c.step.new.pairs
      (Knows trusted c.args.kept.now (Some (walk_of c.args.place))) (Knows trusted c.args.kept.now (Some next)))
      (sym c.in-Some.next-is)
      (subst (λ (next : Option Walk). Keeps g.P.Pairs.told c.args.pairs.now c.step.new.pairs
      (Knows trusted c.args.kept.now (Some (walk_of c.args.place))) (Knows trusted c.args.kept.now next)) c.in-Some.is
      (keeps-then g.P.Pairs.told c.args.pairs.now c.loop.pairs c.step.new.pairs 0
      (Knows trusted c.args.kept.now (Some (walk_of c.args.place))) (Knows trusted c.args.kept.now (Some c.loop.walk))
      (Knows trusted c.args.kept.now c.in-Ok.step.next) c.step.ensures.goes (c.loop.invariant.keeps trusted)
      (c.in-Ok.ensures.ok trusted)));
}
