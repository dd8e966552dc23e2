-- Ballots in their order.
use Rattle.std.specs.Prelude.{ℕ, ◌+◌, ◌*◌, ◌^◌, Bool, nat_lt}
use Rattle.paxos_core.specs.declared.ballot.Ballot.{Ballot}

-- a ballot as one number: by the round, and in one round by the proposer, who has 32 bits
abbrev pub rank : Ballot → ℕ
rank b = b.round * 2 ^ 32 + b.proposer

-- whether the first is below the second
abbrev pub is_below : Ballot → Ballot → Bool
is_below b c = nat_lt (rank b) (rank c)
