use Rattle.paxos_group.specs.Scene.{scene}
use Rattle.paxos_group.specs.Steps.{Endures, Goes, IsFreshOf, ReachesBelow}
use Rattle.paxos_group.proofs.net.Net.send_all.Given as goal

abbrev pub invariant-loop-replica : goal.invariant-loop-replica
invariant-loop-replica g l =
    let w = g.W.Weather in
    let old = scene w.told l.initial.weather l.initial.self l.initial.proposer in
    let now = scene w.told l.weather l.self l.proposer in
    record {
      endures : Endures w.told l.initial.weather l.weather;
      goes : Goes (λ x. IsFreshOf x l.message) old now;
      reaches : ReachesBelow l.replica l.message old now;
    }
