-- What holds of every world that can be reached, in parts.
use Rattle.std.proofs.Common.{◌≡◌, ℕ, ◌<◌, ◌≤◌, true, List, [], ◌∷◌, length, ◌⊎◌}
use Rattle.std.specs.Prelude.{slice_get, Option, Some, None}
use Rattle.paxos_core.specs.declared.ballot.Ballot.{Ballot}
use Rattle.paxos_core.specs.declared.message.Message.{Message}
use Rattle.paxos_core.specs.declared.message.Message.TheVariants.{Ask, Promise, Put, Ack, Nack}
use Rattle.paxos_core.specs.Ballot.{rank}
use Rattle.paxos_core.specs.Majority.{IsMajority}
use Rattle.paxos_core.specs.Proposing.{Proposing, is_promised, value_of}
use Rattle.paxos_core.specs.World.{World}
use Rattle.paxos_core.specs.Votes.{HasVote}

module _ {V : Type 0} where
  -- the rank of what the replica promised at the index
  abbrev pub floor : World V → ℕ → ℕ → ℕ
  floor w r i = rank (w.standings r i).promised

  -- the value may still be, or is, chosen under the ballot: a majority voted for it, or may still vote there
  abbrev pub Choosable : ℕ → World V → ℕ → ℕ → V → Type 0
  Choosable n w i b v = IsMajority n (λ r. HasVote w.votes r i b v ⊎ (floor w r i ≤ b))

  -- the proposer of the index and ballot is promised, and proposes this value
  pub record Decided (w : World V) (i b : ℕ) (v : V) : Type 0 where
    pub who : Proposing V
    pub there : w.proposers i b ≡ Some who
    pub promised : is_promised who ≡ true
    pub value : value_of who ≡ v

  -- the ballot's value, and the only one that is choosable below it
  pub record Safe (n : ℕ) (w : World V) (i b : ℕ) (v : V) : Type 0 where
    pub decided : Decided w i b v
    pub only : (c : ℕ) (x : V) → c < b → Choosable n w i c x → x ≡ v

  -- an accepted value is of this rank or a higher one
  abbrev pub Reaches : Option (Ballot × V) → ℕ → Type 0
  Reaches None c = ⊥
  Reaches (Some y) c = c ≤ rank y.0

  -- an accepted value is the vote of the replica, of at most this rank
  abbrev pub IsVoteOf : World V → ℕ → ℕ → ℕ → Option (Ballot × V) → Type 0
  IsVoteOf w r i top None = Unit {0}
  IsVoteOf w r i top (Some y) = HasVote w.votes r i (rank y.0) y.1 × (rank y.0 ≤ top)

  -- an accepted value is the vote of some replica, below this rank
  abbrev pub IsSomeVote : World V → ℕ → ℕ → Option (Ballot × V) → Type 0
  IsSomeVote w i top None = Unit {0}
  IsSomeVote w i top (Some y) = (q : ℕ) × HasVote w.votes q i (rank y.0) y.1 × (rank y.0 < top)

  -- a standing has the replica's highest vote
  pub record StandingOk (w : World V) (r i : ℕ) (accepted : Option (Ballot × V)) : Type 0 where
    pub reach : (c : ℕ) (x : V) → HasVote w.votes r i c x → Reaches accepted c
    pub real : IsVoteOf w r i (floor w r i) accepted

  -- a promise has the replica's highest vote below its ballot
  pub record PromiseOk (w : World V) (r i b : ℕ) (accepted : Option (Ballot × V)) : Type 0 where
    pub floors : b ≤ floor w r i
    pub reach : (c : ℕ) (x : V) → HasVote w.votes r i c x → c < b → Reaches accepted c
    pub real : IsVoteOf w r i b accepted

  abbrev pub MessageOk : ℕ → World V → Message V → Type 0
  MessageOk n w (Ask i b) = Unit {0}
  MessageOk n w (Promise r i b accepted) = PromiseOk w r i (rank b) accepted
  MessageOk n w (Put i b v) = Safe n w i (rank b) v
  MessageOk n w (Ack r i b) = (v : V) × HasVote w.votes r i (rank b) v
  MessageOk n w (Nack r i b) = Unit {0}

  abbrev pub MessagesOk : ℕ → World V → List (Message V) → Type 0
  MessagesOk n w [] = Unit {0}
  MessagesOk n w (m ∷ ms) = MessageOk n w m × MessagesOk n w ms

  -- a proposer knows the votes below its ballot of those that it heard, and only calls accepted what is
  pub record ProposerOk (n : ℕ) (w : World V) (i b : ℕ) (p : Proposing V) : Type 0 where
    pub index : p.index ≡ i
    pub ballot : rank p.ballot ≡ b
    pub heard_length : length p.heard ≡ n
    pub acked_length : length p.acked ≡ n
    pub floors : (r : ℕ) → slice_get p.heard r ≡ Some true → b ≤ floor w r i
    pub reach : (r c : ℕ) (x : V) → slice_get p.heard r ≡ Some true → HasVote w.votes r i c x → c < b → Reaches p.best c
    pub real : IsSomeVote w i b p.best
    pub acked : (r : ℕ) → slice_get p.acked r ≡ Some true → (is_promised p ≡ true) × HasVote w.votes r i b (value_of p)

  -- all of it
  pub record Ok (n : ℕ) (w : World V) : Type 0 where
    pub standings : (r i : ℕ) → StandingOk w r i (w.standings r i).accepted
    pub messages : MessagesOk n w w.sent
    pub voted : (r i c : ℕ) (x : V) → HasVote w.votes r i c x → Safe n w i c x
    pub proposers : (i b : ℕ) (p : Proposing V) → w.proposers i b ≡ Some p → ProposerOk n w i b p

  -- what only grows from one world to a later one
  pub record IsLater (w w' : World V) : Type 0 where
    pub floors : (r i : ℕ) → floor w r i ≤ floor w' r i
    pub votes : (r i c : ℕ) (x : V) → HasVote w.votes r i c x → HasVote w'.votes r i c x
    pub new : (r i c : ℕ) (x : V) → HasVote w'.votes r i c x → HasVote w.votes r i c x ⊎ (floor w r i ≤ c)
    pub decided : (i b : ℕ) (v : V) → Decided w i b v → Decided w' i b v
