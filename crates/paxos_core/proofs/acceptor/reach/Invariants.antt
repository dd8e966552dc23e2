use Rattle.std.proofs.Common.{◌≡◌, ◌-◌, ◌+◌, ℕ, length}
use Rattle.paxos_core.specs.Standing.{row_at}
use Rattle.paxos_core.proofs.acceptor.reach.Given as goal

abbrev pub invariant-loop-rows : goal.invariant-loop-rows
invariant-loop-rows g l = (i : ℕ) → row_at l.rows.items i ≡ row_at l.fn.rows.items i

abbrev pub decreases-loop-rows : goal.decreases-loop-rows
decreases-loop-rows g l = l.place + 1 - length l.rows.items
