-- Votes, when a value is chosen, and what a schedule has to keep.
use Rattle.std.specs.Prelude.{◌≡◌, ℕ, ◌≤◌, ◌⊎◌, List, [], ◌∷◌, Option, Some, None}
use Rattle.std.specs.List.{count_by}
use Rattle.paxos_core.specs.declared.ballot.Ballot.{Ballot}
use Rattle.paxos_core.specs.Ballot.{rank}
use Rattle.paxos_core.specs.Majority.{IsMajority}
use Rattle.paxos_core.specs.World.{Vote, Event, start, run, is_begin}

module _ {V : Type 0} where
  -- the vote is the replica's, at this index, under the ballot of this rank, for this value
  pub record IsVote (vote : Vote V) (r i b : ℕ) (v : V) : Type 0 where
    pub replica : vote.replica ≡ r
    pub index : vote.index ≡ i
    pub ballot : rank vote.ballot ≡ b
    pub value : vote.value ≡ v

  -- one of the votes is
  abbrev pub HasVote : List (Vote V) → ℕ → ℕ → ℕ → V → Type 0
  HasVote [] r i b v = ⊥
  HasVote (vote ∷ votes) r i b v = IsVote vote r i b v ⊎ HasVote votes r i b v

  -- the votes after a schedule among n replicas
  abbrev pub votes_after : ℕ → List (Event V) → List (Vote V)
  votes_after n events = (run n events start).votes

  -- what a replica keeps as accepted is its vote of the highest ballot; it keeps none where it never voted
  abbrev pub IsHighestVote : List (Vote V) → ℕ → ℕ → Option (Ballot × V) → Type 0
  IsHighestVote votes r i None = (b : ℕ) (v : V) → HasVote votes r i b v → ⊥
  IsHighestVote votes r i (Some kept) =
      HasVote votes r i (rank kept.0) kept.1 × ((b : ℕ) (v : V) → HasVote votes r i b v → b ≤ rank kept.0)

  -- a majority of n replicas have votes at the index with one ballot and this value
  abbrev pub IsChosen : ℕ → List (Vote V) → ℕ → V → Type 0
  IsChosen n votes i v = (b : ℕ) × IsMajority n (λ r. HasVote votes r i b v)

  -- no two proposers of one index have one ballot: at most one event begins each
  abbrev pub HasOwnBallots : List (Event V) → Type 0
  HasOwnBallots events = (i b : ℕ) → count_by (is_begin i b) events ≤ 1

  -- the value can be chosen: by some schedule among three replicas, in which each proposer has a ballot of its own
  pub record CanChoose (v : V) : Type 0 where
    pub events : List (Event V)
    pub own : HasOwnBallots events
    pub chosen : IsChosen 3 (votes_after 3 events) 0 v
