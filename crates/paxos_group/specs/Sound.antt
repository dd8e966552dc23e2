-- What holds at each moment of an attempt.
use Rattle.std.specs.Prelude.{◌≡◌, ℕ, ◌<◌, ◌≤◌, Bool, true, false, List, length, Option, Some, None, slice_get, ⊤}
use Rattle.slab.specs.Slab.{Slab, get}
use Rattle.outside.specs.declared.weather.MessageKind.{MessageKind}
use Rattle.outside.specs.declared.weather.MessageKind.TheVariants as kind
use Rattle.paxos_core.specs.declared.ballot.Ballot.{Ballot}
use Rattle.paxos_core.specs.declared.message.Message.{Message}
use Rattle.paxos_core.specs.declared.message.Message.TheVariants.{Ask, Promise, Put, Ack, Nack}
use Rattle.paxos_core.specs.declared.acceptor.Standing.{Standing}
use Rattle.paxos_core.specs.Ballot.{rank}
use Rattle.paxos_core.specs.Majority.{IsMajority}
use Rattle.paxos_core.specs.Proposing.{Proposing}
use Rattle.paxos_group.specs.declared.letter.Letter.{Letter}
use Rattle.paxos_group.specs.Scene.{Scene}

-- the group's ballot of a round: it is the only proposer
abbrev pub ballot_of : ℕ → Ballot
ballot_of round = record { round = round; proposer = 0 }

-- An attempt, as the proof sees it: its index, below which each index is settled; its round; the highest round of any
-- message so far; the commands that were ever proposed, one for each index from 0 on; the highest round of a Put at
-- each index; and the messages of each replica that the weather always loses.
pub record Attempt (V : Type 0) : Type 0 where
  pub index : ℕ
  pub round : ℕ
  pub last : ℕ
  pub commands : List V
  pub tops : ℕ → ℕ
  pub silent : ℕ → MessageKind → Bool

module _ {V : Type 0} where
  -- the ballot is of no later round than any message so far
  abbrev pub IsReached : Attempt V → Ballot → Type 0
  IsReached x b = rank b ≤ rank (ballot_of x.last)

  -- the index and the ballot are the attempt's
  abbrev pub IsPresent : Attempt V → ℕ → Ballot → Type 0
  IsPresent x i b = (i ≡ x.index) × (rank b ≡ rank (ballot_of x.round))

  -- the replica keeps the index's command, under the highest ballot that put it
  pub record Keeps (x : Attempt V) (kept : ℕ → ℕ → Standing V) (r i : ℕ) : Type 0 where
    pub command : V
    pub proposed : slice_get x.commands i ≡ Some command
    pub accepted : (kept r i).accepted ≡ Some (ballot_of (x.tops i), command)

  -- an accepted value is the index's command
  abbrev pub IsProposed : Attempt V → ℕ → Option (Ballot × V) → Type 0
  IsProposed x i None = ⊤
  IsProposed x i (Some y) = slice_get x.commands i ≡ Some y.1

  -- an accepted value is of no higher ballot
  abbrev pub IsWithin : Ballot → Option (Ballot × V) → Type 0
  IsWithin b None = ⊤
  IsWithin b (Some y) = rank y.0 ≤ rank b

  pub record PutOk (x : Attempt V) (i : ℕ) (b : Ballot) (v : V) : Type 0 where
    pub ballot : b ≡ ballot_of b.round
    pub top : b.round ≤ x.tops i
    pub command : slice_get x.commands i ≡ Some v

  pub record PromiseOk (x : Attempt V) (r q i : ℕ) (b : Ballot) (accepted : Option (Ballot × V)) : Type 0 where
    pub from : q ≡ r
    pub reached : IsReached x b
    pub proposed : IsProposed x i accepted

  pub record AckOk (x : Attempt V) (kept : ℕ → ℕ → Standing V) (r q i : ℕ) (b : Ballot) : Type 0 where
    pub from : q ≡ r
    pub reached : IsReached x b
    pub keeps : IsPresent x i b → Keeps x kept r i
    pub put : IsPresent x i b → x.silent r kind.Put ≡ false

  -- what is known of a message that was sent, to this replica or by it
  abbrev pub IsSent : Attempt V → (ℕ → ℕ → Standing V) → ℕ → Message V → Type 0
  IsSent x kept r (Ask i b) = IsReached x b
  IsSent x kept r (Promise q i b accepted) = PromiseOk x r q i b accepted
  IsSent x kept r (Put i b v) = PutOk x i b v
  IsSent x kept r (Ack q i b) = AckOk x kept r q i b
  IsSent x kept r (Nack q i b) = ⊤

  -- the weather does not always lose such a message, if it is one of this attempt
  abbrev pub IsNotLost : Attempt V → ℕ → Message V → Type 0
  IsNotLost x r (Ask i b) = ⊤
  IsNotLost x r (Promise q i b accepted) = ⊤
  IsNotLost x r (Put i b v) = IsPresent x i b → x.silent r kind.Put ≡ false
  IsNotLost x r (Ack q i b) = IsPresent x i b → x.silent r kind.Ack ≡ false
  IsNotLost x r (Nack q i b) = ⊤

  -- what a replica keeps at an index
  pub record StandingOk (x : Attempt V) (i : ℕ) (s : Standing V) : Type 0 where
    pub promised : IsReached x s.promised
    pub within : IsWithin s.promised s.accepted
    pub proposed : IsProposed x i s.accepted

  pub record ProposerOk (x : Attempt V) (count : ℕ) (kept : ℕ → ℕ → Standing V) (p : Proposing V) : Type 0 where
    pub index : p.index ≡ x.index
    pub ballot : p.ballot ≡ ballot_of x.round
    pub own : slice_get x.commands x.index ≡ Some p.own
    pub best : IsProposed x x.index p.best
    pub heard : length p.heard ≡ count
    pub acked : length p.acked ≡ count
    pub keeps : (r : ℕ) → slice_get p.acked r ≡ Some true → Keeps x kept r x.index
    pub put : (r : ℕ) → slice_get p.acked r ≡ Some true → x.silent r kind.Put ≡ false
    pub ack : (r : ℕ) → slice_get p.acked r ≡ Some true → x.silent r kind.Ack ≡ false

  -- what is known of a message that is held
  pub record LetterOk (x : Attempt V) (count : ℕ) (kept : ℕ → ℕ → Standing V) (l : Letter V) : Type 0 where
    pub replica : l.replica < count
    pub sent : IsSent x kept l.replica l.message
    pub not_lost : IsNotLost x l.replica l.message

  -- what holds also between two attempts
  pub record Rests (x : Attempt V) (count : ℕ) (numbers : ℕ → ℕ) (kept : ℕ → ℕ → Standing V) (held : Slab (Letter V)) : Type 0
    where
      pub tops : (i : ℕ) → x.tops i ≤ x.last
      pub numbered : (r : ℕ) → r < count → numbers r ≡ r
      pub standings : (r i : ℕ) → StandingOk x i (kept r i)
      pub letters : (key : ℕ) (l : Letter V) → get held key ≡ Some l → LetterOk x count kept l
      pub settled : (i : ℕ) → i < x.index → IsMajority count (λ r. Keeps x kept r i)

  -- what holds at each moment of the attempt
  pub record Stands (x : Attempt V) (s : Scene V) : Type 0 where
    pub rests : Rests x s.count s.numbers s.kept s.held
    pub last : x.last ≡ x.round
    pub here : x.tops x.index ≡ x.round
    pub silent : (r : ℕ) (k : MessageKind) → s.weather.silent r k ≡ x.silent r k
    pub proposer : ProposerOk x s.count s.kept s.proposing
