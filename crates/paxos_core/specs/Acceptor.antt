-- What a contract sees of an acceptor: whose it is, and what it keeps at each index.
use Rattle.std.specs.Prelude.{ℕ}
use Rattle.paxos_core.specs.declared.acceptor.Standing.{Standing}
use Rattle.paxos_core.specs.declared.acceptor.Acceptor.{Acceptor}
use Rattle.paxos_core.specs.Standing.{row_at}

module _ {V : Type 0} where
  -- the replica's number
  abbrev pub replica_of : Acceptor V → ℕ
  replica_of a = a.replica

  -- what it keeps at the index
  abbrev pub standing_of : Acceptor V → ℕ → Standing V
  standing_of a i = row_at a.rows.items i
