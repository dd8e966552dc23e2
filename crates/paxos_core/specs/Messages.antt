-- What a list of messages, the newest first, tells a proposer: said of the messages alone.
use Rattle.std.specs.Prelude.{◌≡◌, ℕ, ◌<◌, ◌≤◌, Bool, true, false, ◌&&◌, ◌==◌, ◌⊎◌, if◌then◌else◌, List, [], ◌∷◌, ◌++◌, Option}
use Rattle.std.specs.Prelude.{Some, None, IsSome}
use Rattle.std.specs.List.{list_any}
use Rattle.paxos_core.specs.declared.ballot.Ballot.{Ballot}
use Rattle.paxos_core.specs.declared.message.Message.{Message}
use Rattle.paxos_core.specs.declared.message.Message.TheVariants.{Ask, Promise, Put, Ack, Nack}
use Rattle.paxos_core.specs.declared.proposer.Stage.{Stage}
use Rattle.paxos_core.specs.declared.proposer.Stage.TheVariants.{Waiting, Promised, Chosen}
use Rattle.paxos_core.specs.Ballot.{rank}
use Rattle.paxos_core.specs.Majority.{IsMajority}
use Rattle.paxos_core.specs.Proposing.{Proposing, told}

-- the earlier of two, where there is one
abbrev pub first_of : {X : Type 0} → Option X → Option X → Option X
first_of None later = later
first_of (Some x) later = Some x

module _ {V : Type 0} where
  -- a proposer, once these messages have come
  abbrev pub told_all : Proposing V → List (Message V) → Proposing V
  told_all p [] = p
  told_all p (m ∷ earlier) = told (told_all p earlier) m

  -- what the replica's promise of this index and ballot carries, where the message is one
  abbrev pub carried : ℕ → Ballot → ℕ → Message V → Option (Option (Ballot × V))
  carried i b r (Promise q j c accepted) = if (j == i) && ((rank c == rank b) && (q == r)) then Some accepted else None
  carried i b r (Ask j c) = None
  carried i b r (Put j c v) = None
  carried i b r (Ack q j c) = None
  carried i b r (Nack q j c) = None

  -- what the first promise of the replica carries
  abbrev pub first_carried : ℕ → Ballot → List (Message V) → ℕ → Option (Option (Ballot × V))
  first_carried i b [] r = None
  first_carried i b (m ∷ earlier) r = first_of (first_carried i b earlier r) (carried i b r m)

  -- the replica promised this index and ballot
  abbrev pub HasPromised : ℕ → Ballot → List (Message V) → ℕ → Type 0
  HasPromised i b messages r = IsSome (first_carried i b messages r)

  -- whether the message is the replica's ack of this index and ballot
  abbrev pub is_ack : ℕ → Ballot → ℕ → Message V → Bool
  is_ack i b r (Ack q j c) = (j == i) && ((rank c == rank b) && (q == r))
  is_ack i b r (Ask j c) = false
  is_ack i b r (Put j c v) = false
  is_ack i b r (Promise q j c a) = false
  is_ack i b r (Nack q j c) = false

  -- the replica acked this index and ballot
  abbrev pub HasAcked : ℕ → Ballot → List (Message V) → ℕ → Type 0
  HasAcked i b messages r = list_any (is_ack i b r) messages ≡ true

  -- a majority of n replicas promised, and after that a majority acked
  pub record IsAcked (n i : ℕ) (b : Ballot) (messages : List (Message V)) : Type 0 where
    pub later : List (Message V)
    pub earlier : List (Message V)
    pub split : later ++ earlier ≡ messages
    pub promises : IsMajority n (HasPromised i b earlier)
    pub acks : IsMajority n (HasAcked i b later)

  -- how far a proposal is after the messages
  abbrev pub IsStage : ℕ → ℕ → Ballot → List (Message V) → Stage → Type 0
  IsStage n i b messages Waiting = IsMajority n (HasPromised i b messages) → ⊥
  IsStage n i b messages Promised = IsMajority n (HasPromised i b messages) × (IsAcked n i b messages → ⊥)
  IsStage n i b messages Chosen = IsAcked n i b messages

  -- the value is what a replica's first promise carries, of the highest ballot that any carries
  pub record IsHighest (n i : ℕ) (b : Ballot) (messages : List (Message V)) (v : V) : Type 0 where
    pub replica : ℕ
    pub ballot : Ballot
    pub below : replica < n
    pub carries : first_carried i b messages replica ≡ Some (Some (ballot, v))
    pub highest : (r : ℕ) (c : Ballot) (x : V) → r < n → first_carried i b messages r ≡ Some (Some (c, x)) →
        rank c ≤ rank ballot

  -- no replica's first promise carries a value
  abbrev pub CarriesNone : ℕ → ℕ → Ballot → List (Message V) → Type 0
  CarriesNone n i b messages = (r : ℕ) (c : Ballot) (x : V) → r < n → first_carried i b messages r ≡ Some (Some (c, x)) → ⊥

  -- the value that a proposer with this value of its own has to propose
  abbrev pub IsPreferred : ℕ → ℕ → Ballot → V → List (Message V) → V → Type 0
  IsPreferred n i b own messages v = IsHighest n i b messages v ⊎ (CarriesNone n i b messages × (v ≡ own))
