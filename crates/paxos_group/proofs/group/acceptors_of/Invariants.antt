use Rattle.std.proofs.Common.{◌≡◌, ℕ, ◌<◌, length}
use Rattle.paxos_core.specs.Standing.{blank}
use Rattle.paxos_group.specs.Scene.{kept_at, number_at}
use Rattle.paxos_group.proofs.group.acceptors_of.Given as goal

abbrev pub invariant-loop-replica : goal.invariant-loop-replica
invariant-loop-replica g l = record {
  count : length l.acceptors.items ≡ l.replica;
  numbers : (r : ℕ) → r < l.replica → number_at l.acceptors.items r ≡ r;
  nothing : (r i : ℕ) → kept_at l.acceptors.items r i ≡ blank;
}
