-- What an acceptor keeps at an index, what a message makes of it, and what the acceptor answers.
use Rattle.std.specs.Prelude.{ℕ, ◌==◌, if◌then◌else◌, List, slice_get, Option, Some, None, unwrap_or, ⊤}
use Rattle.paxos_core.specs.declared.ballot.Ballot.{Ballot}
use Rattle.paxos_core.specs.declared.message.Message.{Message}
use Rattle.paxos_core.specs.declared.message.Message.TheVariants.{Ask, Promise, Put, Ack, Nack}
use Rattle.paxos_core.specs.declared.acceptor.Standing.{Standing}
use Rattle.paxos_core.specs.Ballot.{is_below}

module _ {V : Type 0} where
  -- nothing promised and nothing accepted
  abbrev pub blank : Standing V
  blank = record { promised = record { round = 0; proposer = 0 }; accepted = None }

  -- what rows have for an index: none is there where nothing was promised or accepted
  abbrev pub row_at : List (Standing V) → ℕ → Standing V
  row_at rows i = unwrap_or (slice_get rows i) blank

  -- the index that a message is about
  abbrev pub index_of : Message V → ℕ
  index_of (Ask i b) = i
  index_of (Promise r i b a) = i
  index_of (Put i b v) = i
  index_of (Ack r i b) = i
  index_of (Nack r i b) = i

  -- the standing at the message's index, once the message has come
  abbrev pub after : Standing V → Message V → Standing V
  after s (Ask i b) = if is_below b s.promised then s else record { promised = b; accepted = s.accepted }
  after s (Put i b v) = if is_below b s.promised then s else record { promised = b; accepted = Some (b, v) }
  after s (Promise r i b a) = s
  after s (Ack r i b) = s
  after s (Nack r i b) = s

  -- the standings at all indices, once the message has come: only that at its own index moves
  abbrev pub with_message : (ℕ → Standing V) → Message V → ℕ → Standing V
  with_message standings m i = if i == index_of m then after (standings i) m else standings i

  -- the ballot that an acceptor is asked for: only asks and puts have one
  abbrev pub asked_of : Message V → Option Ballot
  asked_of (Ask i b) = Some b
  asked_of (Put i b v) = Some b
  asked_of (Promise r i b a) = None
  asked_of (Ack r i b) = None
  asked_of (Nack r i b) = None

  -- the answer is a refusal
  abbrev pub IsNack : Option (Message V) → Type 0
  IsNack (Some (Nack r i b)) = ⊤
  IsNack (Some (Ask i b)) = ⊥
  IsNack (Some (Promise r i b a)) = ⊥
  IsNack (Some (Put i b v)) = ⊥
  IsNack (Some (Ack r i b)) = ⊥
  IsNack None = ⊥

  -- what the acceptor of the replica answers, at this standing at the message's index
  abbrev pub reply : ℕ → Standing V → Message V → Option (Message V)
  reply r s (Ask i b) = Some (if is_below b s.promised then Nack r i s.promised else Promise r i b s.accepted)
  reply r s (Put i b v) = Some (if is_below b s.promised then Nack r i s.promised else Ack r i b)
  reply r s (Promise q i b a) = None
  reply r s (Ack q i b) = None
  reply r s (Nack q i b) = None

  -- what it answers, at these standings
  abbrev pub answer : ℕ → (ℕ → Standing V) → Message V → Option (Message V)
  answer r standings m = reply r (standings (index_of m)) m
