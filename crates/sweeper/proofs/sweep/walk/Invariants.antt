-- So far the walk kept what is known, and did no more than it was told to.
use Rattle.std.proofs.Common.{◌≤◌, Bool, Some}
use Rattle.pairs.specs.Told.{Goes}
use Rattle.sweeper.specs.Keeping.{Keeps}
use Rattle.sweeper.specs.Knowing.{Knows}
use Rattle.sweeper.specs.Sweeping.{walk_of}
use Rattle.sweeper.proofs.sweep.walk.Given as goal

abbrev pub invariant-loop : goal.invariant-loop
invariant-loop g l = record {
  goes : Goes g.P.Pairs.told l.fn.pairs l.pairs 0;
  few : l.count ≤ l.fn.budget;
  keeps : (trusted : Bool) → Keeps g.P.Pairs.told l.fn.pairs l.pairs (Knows trusted l.fn.kept (Some (walk_of l.fn.place)))
      (Knows trusted l.fn.kept (Some l.walk));
}
