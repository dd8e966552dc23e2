-- Everyone at once: a machine whose steps are what may happen next, by the very words that the handlers keep.
use Rattle.std.specs.Prelude.{ℕ, Bool, false, ◌&&◌, ◌==◌, if◌then◌else◌, List, [], ◌∷◌, Option, Some, None, slice_get}
use Rattle.paxos_core.specs.declared.ballot.Ballot.{Ballot}
use Rattle.paxos_core.specs.declared.message.Message.{Message}
use Rattle.paxos_core.specs.declared.message.Message.TheVariants.{Ask, Promise, Put, Ack, Nack}
use Rattle.paxos_core.specs.declared.acceptor.Standing.{Standing}
use Rattle.paxos_core.specs.Ballot.{rank, is_below}
use Rattle.paxos_core.specs.Standing.{blank, with_message, answer}
use Rattle.paxos_core.specs.Proposing.{Proposing, begins, told, is_promised, value_of}

-- a replica accepted this value at this index, under this ballot
pub record Vote (V : Type 0) : Type 0 where
  pub replica : ℕ
  pub index : ℕ
  pub ballot : Ballot
  pub value : V

-- what each replica keeps at each index, the proposers by index and rank, every message that was ever sent,
-- and every vote, both the newest first
pub record World (V : Type 0) : Type 0 where
  pub standings : ℕ → ℕ → Standing V
  pub proposers : ℕ → ℕ → Option (Proposing V)
  pub sent : List (Message V)
  pub votes : List (Vote V)

-- What may happen next. A message that was ever sent may come to anybody, at any time and any number of
-- times: so messages are lost, repeated and reordered.
pub data Event (V : Type 0) : Type 0 where
  -- a proposer begins, at this index, with this ballot and value, and asks; one that restarts begins another
  Begin : (index : ℕ) → (ballot : Ballot) → (value : V) → Event V
  -- the message at this place among those sent comes to the acceptor of this replica
  To_acceptor : (replica : ℕ) → (place : ℕ) → Event V
  -- it comes to the proposer of this index and ballot
  To_proposer : (index : ℕ) → (ballot : Ballot) → (place : ℕ) → Event V
  -- the proposer of this index and ballot, once promised, puts its value
  Propose : (index : ℕ) → (ballot : Ballot) → Event V
  -- the acceptor of this replica restarts, with what it keeps
  Restart : (replica : ℕ) → Event V

module _ {V : Type 0} where
  -- nobody said or did anything
  abbrev pub start : World V
  start = record { standings = λ r i. blank; proposers = λ i b. None; sent = []; votes = [] }

  -- the messages, with an answer where there is one
  abbrev pub with_answer : Option (Message V) → List (Message V) → List (Message V)
  with_answer None sent = sent
  with_answer (Some m) sent = m ∷ sent

  -- the votes, with that of the replica where it accepts what the message puts
  abbrev pub with_vote : ℕ → (ℕ → Standing V) → Message V → List (Vote V) → List (Vote V)
  with_vote r standings (Put i b v) votes =
      if is_below b (standings i).promised then votes else record { replica = r; index = i; ballot = b; value = v } ∷ votes
  with_vote r standings (Ask i b) votes = votes
  with_vote r standings (Promise q i b a) votes = votes
  with_vote r standings (Ack q i b) votes = votes
  with_vote r standings (Nack q i b) votes = votes

  -- a message comes to the acceptor of the replica
  abbrev pub at_acceptor : World V → ℕ → Option (Message V) → World V
  at_acceptor w r None = w
  at_acceptor w r (Some m) =
      record {
        standings = λ q. if q == r then with_message (w.standings r) m else w.standings q;
        proposers = w.proposers;
        sent = with_answer (answer r (w.standings r) m) w.sent;
        votes = with_vote r (w.standings r) m w.votes;
      }

  -- the proposers, with this one at its index and rank
  abbrev pub with_proposer : (ℕ → ℕ → Option (Proposing V)) → ℕ → ℕ → Proposing V → ℕ → ℕ → Option (Proposing V)
  with_proposer proposers i b p = λ j c. if (j == i) && (c == b) then Some p else proposers j c

  -- a message comes to the proposer of the index and rank
  abbrev pub at_proposer : World V → ℕ → ℕ → Option (Proposing V) → Option (Message V) → World V
  at_proposer w i b None m = w
  at_proposer w i b (Some p) None = w
  at_proposer w i b (Some p) (Some m) = record w { proposers = with_proposer w.proposers i b (told p m) }

  -- a proposer puts its value, once promised
  abbrev pub put_by : World V → Option (Proposing V) → World V
  put_by w None = w
  put_by w (Some p) = if is_promised p then record w { sent = Put p.index p.ballot (value_of p) ∷ w.sent } else w

  -- one step, among n replicas
  abbrev pub happens : ℕ → World V → Event V → World V
  happens n w (Begin i b v) =
      record w { proposers = with_proposer w.proposers i (rank b) (begins n i b v); sent = Ask i b ∷ w.sent }
  happens n w (To_acceptor r k) = at_acceptor w r (slice_get w.sent k)
  happens n w (To_proposer i b k) = at_proposer w i (rank b) (w.proposers i (rank b)) (slice_get w.sent k)
  happens n w (Propose i b) = put_by w (w.proposers i (rank b))
  happens n w (Restart r) = w

  -- a whole schedule, the first event first
  abbrev pub run : ℕ → List (Event V) → World V → World V
  run n [] w = w
  run n (e ∷ es) w = run n es (happens n w e)

  -- whether the event begins a proposer of this index and rank
  abbrev pub is_begin : ℕ → ℕ → Event V → Bool
  is_begin i b (Begin j c v) = (j == i) && (rank c == b)
  is_begin i b (To_acceptor r k) = false
  is_begin i b (To_proposer j c k) = false
  is_begin i b (Propose j c) = false
  is_begin i b (Restart r) = false
