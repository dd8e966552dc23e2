-- The numbers of the snapshots are read, and then it walks.
use Rattle.std.proofs.Common.{ℕ, false, List, sym, subst}
use Rattle.fs_rules.specs.Sound.{IsSound}
use Rattle.std.specs.Prelude.{⊤}
use Rattle.fs_shows.specs.Steps.{Reads}
use Rattle.fs_shows.proofs.Doing.{goes-then}
use Rattle.sweeper.specs.Knowing.{AreKept}
use Rattle.sweeper.proofs.Ends.{sweep-up, sweep-keeps}
use Rattle.sweeper.proofs.sweep.sweep_from.Goals as goal

pub returns-in-Err-clause-goes : goal.returns-in-Err-clause-goes
returns-in-Err-clause-goes g c = c.kept_numbers.ensures.goes

pub returns-in-Err-clause-fault : goal.returns-in-Err-clause-fault
returns-in-Err-clause-fault g c = c.in-Err.ensures.fault

pub returns-in-Ok-walk-clause-goes : goal.returns-in-Ok-walk-clause-goes
returns-in-Ok-walk-clause-goes g c =
    goes-then g.P.Pairs.told c.args.pairs.now c.kept_numbers.new.pairs c.walk.new.pairs 0 0 c.kept_numbers.ensures.goes
    c.walk.ensures.goes

pub returns-in-Ok-walk-clause-few : goal.returns-in-Ok-walk-clause-few
returns-in-Ok-walk-clause-few g c = c.in-Ok-walk.ensures.few

pub returns-in-Ok-walk-clause-ok : goal.returns-in-Ok-walk-clause-ok
returns-in-Ok-walk-clause-ok g c =
    sweep-keeps g.P.Pairs.told c.args.pairs.now c.kept_numbers.new.pairs c.walk.new.pairs 0 c.deref.result.now c.args.place
    c.in-Ok-walk.swept.next c.walk.ensures.fits c.walk.ensures.goes
    (subst (λ (ks : List ℕ). Reads g.P.Pairs.told c.args.pairs.now c.kept_numbers.new.pairs (λ t. ⊤) (AreKept ks))
    (sym c.deref.ensures.value) c.in-Ok.ensures.ok) (c.in-Ok-walk.ensures.ok false)

pub returns-clause-goes : goal.returns-clause-goes
returns-clause-goes g c =
    goes-then g.P.Pairs.told c.args.pairs.now c.kept_numbers.new.pairs c.walk.new.pairs 0 0 c.kept_numbers.ensures.goes
    c.walk.ensures.goes

pub returns-clause-fault : goal.returns-clause-fault
returns-clause-fault g c =
    sweep-up g.P.Pairs.told c.args.pairs.now c.kept_numbers.new.pairs c.walk.new.pairs 0 0 c.deref.result.now IsSound
    c.in-Err-walk.fault c.kept_numbers.ensures.goes c.walk.ensures.goes
    (subst (λ (ks : List ℕ). Reads g.P.Pairs.told c.args.pairs.now c.kept_numbers.new.pairs (λ t. ⊤) (AreKept ks))
    (sym c.deref.ensures.value) c.in-Ok.ensures.ok) c.in-Err-walk.ensures.fault
