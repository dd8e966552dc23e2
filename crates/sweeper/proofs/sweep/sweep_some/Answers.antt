-- It walks from the start; where it comes to the end, nothing is left.
use Rattle.std.proofs.Common.{ℕ, true, false, List, Option, Some, None, sym, subst, arith}
use Rattle.fs_rules.specs.Sound.{IsSound}
use Rattle.std.specs.Prelude.{⊤}
use Rattle.fs_shows.specs.Steps.{Reads}
use Rattle.fs_shows.proofs.Doing.{goes-then, up-memory}
use Rattle.sweeper.specs.declared.place.SweepPlace.{SweepPlace}
use Rattle.sweeper.specs.Keeping.{Keeps}
use Rattle.sweeper.specs.Knowing.{AreKept, Knows}
use Rattle.sweeper.specs.Sweeping.{walk_of, EndsKnown}
use Rattle.sweeper.proofs.Ends.{sweep-up, sweep-keeps, sweep-done}
use Rattle.sweeper.proofs.sweep.sweep_some.Goals as goal

pub returns-in-Err-clause-goes : goal.returns-in-Err-clause-goes
returns-in-Err-clause-goes g c = c.kept_numbers.ensures.goes

pub returns-in-Err-clause-fault : goal.returns-in-Err-clause-fault
returns-in-Err-clause-fault g c = c.in-Err.ensures.fault

pub returns-in-Err-walk-clause-goes : goal.returns-in-Err-walk-clause-goes
returns-in-Err-walk-clause-goes g c =
    goes-then g.P.Pairs.told c.args.pairs.now c.kept_numbers.new.pairs c.walk.new.pairs 0 0 c.kept_numbers.ensures.goes
    c.walk.ensures.goes

pub returns-in-Err-walk-clause-fault : goal.returns-in-Err-walk-clause-fault
returns-in-Err-walk-clause-fault g c =
    sweep-up g.P.Pairs.told c.args.pairs.now c.kept_numbers.new.pairs c.walk.new.pairs 0 0 c.deref.result.now IsSound
    c.in-Err-walk.fault c.kept_numbers.ensures.goes c.walk.ensures.goes
    (subst (λ (ks : List ℕ). Reads g.P.Pairs.told c.args.pairs.now c.kept_numbers.new.pairs (λ t. ⊤) (AreKept ks))
    (sym c.deref.ensures.value) c.in-Ok.ensures.ok) c.in-Err-walk.ensures.fault

pub returns-in-None-clause-goes : goal.returns-in-None-clause-goes
returns-in-None-clause-goes g c =
    goes-then g.P.Pairs.told c.args.pairs.now c.kept_numbers.new.pairs c.walk.new.pairs 0 0 c.kept_numbers.ensures.goes
    c.walk.ensures.goes

pub returns-in-None-clause-few : goal.returns-in-None-clause-few
returns-in-None-clause-few g c = c.in-Ok-walk.ensures.few

pub returns-in-None-clause-ok : goal.returns-in-None-clause-ok
returns-in-None-clause-ok g c =
    sweep-keeps g.P.Pairs.told c.args.pairs.now c.kept_numbers.new.pairs c.walk.new.pairs 0 c.deref.result.now c.start.result
    c.in-Ok-walk.swept.next c.walk.ensures.fits c.walk.ensures.goes
    (subst (λ (ks : List ℕ). Reads g.P.Pairs.told c.args.pairs.now c.kept_numbers.new.pairs (λ t. ⊤) (AreKept ks))
    (sym c.deref.ensures.value) c.in-Ok.ensures.ok) (c.in-Ok-walk.ensures.ok false)

pub returns-in-None-clause-done : goal.returns-in-None-clause-done
returns-in-None-clause-done g c = λ less.
    sweep-done g.P.Pairs.told c.args.pairs.now c.kept_numbers.new.pairs c.walk.new.pairs 0 c.deref.result.now c.walk.ensures.goes
    (subst (λ (ks : List ℕ). Reads g.P.Pairs.told c.args.pairs.now c.kept_numbers.new.pairs (λ t. ⊤) (AreKept ks))
    (sym c.deref.ensures.value) c.in-Ok.ensures.ok)
    (subst (λ (p : SweepPlace). Keeps g.P.Pairs.told c.kept_numbers.new.pairs c.walk.new.pairs
    (Knows true c.deref.result.now (Some (walk_of p))) (EndsKnown true c.deref.result.now None)) c.start.ensures
    (subst (λ (next : Option SweepPlace). Keeps g.P.Pairs.told c.kept_numbers.new.pairs c.walk.new.pairs
    (Knows true c.deref.result.now (Some (walk_of c.start.result))) (EndsKnown true c.deref.result.now next)) c.in-None.is
    (c.in-Ok-walk.ensures.ok true)))

pub returns-clause-goes : goal.returns-clause-goes
returns-clause-goes g c =
    goes-then g.P.Pairs.told c.args.pairs.now c.kept_numbers.new.pairs c.walk.new.pairs 0 0 c.kept_numbers.ensures.goes
    c.walk.ensures.goes

pub returns-clause-few : goal.returns-clause-few
returns-clause-few g c = c.in-Ok-walk.ensures.few

pub returns-clause-ok : goal.returns-clause-ok
returns-clause-ok g c =
    sweep-keeps g.P.Pairs.told c.args.pairs.now c.kept_numbers.new.pairs c.walk.new.pairs 0 c.deref.result.now c.start.result
    c.in-Ok-walk.swept.next c.walk.ensures.fits c.walk.ensures.goes
    (subst (λ (ks : List ℕ). Reads g.P.Pairs.told c.args.pairs.now c.kept_numbers.new.pairs (λ t. ⊤) (AreKept ks))
    (sym c.deref.ensures.value) c.in-Ok.ensures.ok) (c.in-Ok-walk.ensures.ok false)

pub returns-clause-done : goal.returns-clause-done
returns-clause-done g c = λ less. absurd (omega (arith, c.if-swept-budget.false, less))

pub returns-then-swept-budget-clause-goes : goal.returns-then-swept-budget-clause-goes
returns-then-swept-budget-clause-goes g c =
    goes-then g.P.Pairs.told c.args.pairs.now c.kept_numbers.new.pairs c.walk.new.pairs 0 0 c.kept_numbers.ensures.goes
    c.walk.ensures.goes

pub returns-then-swept-budget-clause-fault : goal.returns-then-swept-budget-clause-fault
returns-then-swept-budget-clause-fault g c =
    up-memory g.P.Pairs.told c.args.pairs.now c.walk.new.pairs IsSound c.from.result c.from.ensures
