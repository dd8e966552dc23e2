-- What holds of a group between two attempts.
use Rattle.std.specs.Prelude.{◌≡◌, ℕ, ◌<◌, ◌≤◌, List, [], ◌∷◌, ◌++◌, length, Option, Some, None}
use Rattle.slab.specs.Slab.{slab_len}
use Rattle.paxos_group.specs.declared.net.Net.{Net}
use Rattle.paxos_group.specs.declared.net.TheConstants.{MOST_HELD}
use Rattle.paxos_group.specs.Scene.{kept_at, number_at}
use Rattle.paxos_group.specs.Sound.{Attempt, Rests}
use Rattle.paxos_group.specs.Steps.{IsGroupSize}

module _ {V : Type 0} where
  -- a command, where there is one
  abbrev pub list_of : Option V → List V
  list_of None = []
  list_of (Some v) = v ∷ []

  -- A group with these replicas, this log, this pending command and this next round. Its commands so far are those of
  -- the log, and the pending one; every message is of an earlier round.
  pub record IsFormed (replicas : ℕ) (net : Net V) (log : List V) (pending : Option V) (round : ℕ) : Type 0 where
    pub x : Attempt V
    pub size : IsGroupSize replicas
    pub count : length net.acceptors.items ≡ replicas
    pub rests : Rests x (length net.acceptors.items) (number_at net.acceptors.items) (kept_at net.acceptors.items) net.held
    pub index : x.index ≡ length log
    pub is_next : x.round ≡ round
    pub last : x.last < x.round
    pub commands : x.commands ≡ log ++ list_of pending
    pub within : slab_len net.held ≤ MOST_HELD
