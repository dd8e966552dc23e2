use Rattle.std.proofs.Common.{◌≡◌}
use Rattle.std.specs.Prelude.{⊤}
use Rattle.fs_rules.specs.Renaming.{climb, through}
use Rattle.pairs.specs.Told.{Goes}
use Rattle.fs_shows.specs.Steps.{Reads}
use Rattle.procs_rename.proofs.climbing.climb.Given as goal

-- the way from where it begins is the way on from here
abbrev pub invariant-loop-left : goal.invariant-loop-left
invariant-loop-left g l = record {
  goes : Goes g.P.Pairs.told l.initial.pairs l.pairs 0;
  reads : Reads g.P.Pairs.told l.initial.pairs l.pairs (λ t. ⊤)
      (λ t. climb t.nodes l.sought l.most l.fileid ≡ through l.is_through (climb t.nodes l.sought l.left l.at));
}

abbrev pub decreases-loop-left : goal.decreases-loop-left
decreases-loop-left g l = l.left
