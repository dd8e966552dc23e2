use Rattle.std.proofs.Common.{◌≡◌, ◌⊎◌}
use Rattle.nfs3_types.specs.Count.{Rose}
use Rattle.two_phase.proofs.Onwards.{Trying}
use Rattle.two_phase.proofs.tries.retry.Given as goal

abbrev pub invariant-loop-tried : goal.invariant-loop-tried
invariant-loop-tried g l = record {
  trying : Trying (g.P.Port.state l.fn.port) (g.P.Port.state l.port) l.store l.command l._tried;
  rose : (l._tried ≡ 0) ⊎ Rose (g.P.Port.state l.fn.port).doubts (g.P.Port.state l.port).doubts;
}
