-- What a contract sees of a group.
use Rattle.std.specs.Prelude.{◌≡◌, ℕ, zero, suc, Bool, true, false, List, [], ◌∷◌, ◌++◌, length, Option, Some, None, slice_get}
use Rattle.std.specs.Prelude.{map, ⊤}
use Rattle.std.specs.Prelude.{count_by}
use Rattle.paxos_core.specs.declared.ballot.Ballot.{Ballot}
use Rattle.paxos_core.specs.declared.acceptor.Acceptor.{Acceptor}
use Rattle.paxos_core.specs.Acceptor.{standing_of}
use Rattle.paxos_core.specs.Majority.{IsMajority}

-- a group of replicas: its store, how many they are, the settled commands from index 0 on, at each of these indices what
-- each replica accepted last and under which ballot, the command that may be settled already, the round of the next
-- attempt, and how many messages are held back
pub record Settling (V : Type 0) : Type 0 where
  pub store : ℕ
  pub replicas : ℕ
  pub accepted : List (List (Option (Ballot × V)))
  pub log : List V
  pub pending : Option V
  pub round : ℕ
  pub held : ℕ

-- exactly so many of the numbers below n have the fact
pub record IsCount (n : ℕ) (Has : ℕ → Type 0) (count : ℕ) : Type 0 where
  pub marks : List Bool
  pub each_of : length marks ≡ n
  pub marked : count_by (λ mark. mark) marks ≡ count
  pub those : (r : ℕ) → slice_get marks r ≡ Some true → Has r
  pub no_others : (r : ℕ) → slice_get marks r ≡ Some false → Has r → ⊥

-- f of each number below n
abbrev pub each_below : {X : Type 0} → (ℕ → X) → ℕ → List X
each_below f zero = []
each_below f (suc n) = each_below f n ++ f n ∷ []

module _ {V : Type 0} where
  -- what each replica accepted last at an index
  abbrev pub accepted_by : List (Acceptor V) → ℕ → List (Option (Ballot × V))
  accepted_by acceptors i = map (λ a. (standing_of a i).accepted) acceptors

  abbrev pub row_at : Option (List (Option (Ballot × V))) → ℕ → Option (Option (Ballot × V))
  row_at None r = None
  row_at (Some row) r = slice_get row r

  -- what the replica accepted last at the settled index
  abbrev pub accepted_at : Settling V → ℕ → ℕ → Option (Option (Ballot × V))
  accepted_at g index r = row_at (slice_get g.accepted index) r

  -- a vote stays: it is for the same command, under the same ballot or another
  abbrev pub VoteStays : Option (Option (Ballot × V)) → Option (Option (Ballot × V)) → Type 0
  VoteStays (Some (Some vote)) now = (b : Ballot) × (now ≡ Some (Some (b, vote.1)))
  VoteStays (Some None) now = ⊤
  VoteStays None now = ⊤

  -- the replica accepted the settled command of the index, last under this ballot
  pub record Holds (g : Settling V) (index r : ℕ) (b : Ballot) : Type 0 where
    pub command : V
    pub settled : slice_get g.log index ≡ Some command
    pub accepted : accepted_at g index r ≡ Some (Some (b, command))

  -- a majority of the replicas accepted the settled command of the index under one ballot
  abbrev pub IsSettled : Settling V → ℕ → Type 0
  IsSettled g index = (b : Ballot) × IsMajority g.replicas (λ r. Holds g index r b)
