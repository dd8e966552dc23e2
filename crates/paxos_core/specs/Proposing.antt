-- What a proposer keeps, what a message makes of it, and what it proposes.
use Rattle.std.specs.Prelude.{ℕ, Bool, true, false, not, ◌&&◌, ◌==◌, if◌then◌else◌, List, Option, Some, None, replicate}
use Rattle.std.specs.Prelude.{slice_index_or, slice_set}
use Rattle.paxos_core.specs.declared.ballot.Ballot.{Ballot}
use Rattle.paxos_core.specs.declared.message.Message.{Message}
use Rattle.paxos_core.specs.declared.message.Message.TheVariants.{Ask, Promise, Put, Ack, Nack}
use Rattle.paxos_core.specs.declared.proposer.Stage.{Stage}
use Rattle.paxos_core.specs.declared.proposer.Stage.TheVariants.{Waiting, Promised, Chosen}
use Rattle.paxos_core.specs.Ballot.{rank, is_below}
use Rattle.paxos_core.specs.Majority.{is_majority}

-- an index, a ballot and a value of its own; the best value that a promise carried; and a mark for each
-- replica that promised, and for each that accepted
pub record Proposing (V : Type 0) : Type 0 where
  pub index : ℕ
  pub ballot : Ballot
  pub own : V
  pub best : Option (Ballot × V)
  pub heard : List Bool
  pub acked : List Bool

module _ {V : Type 0} where
  -- a proposer to n replicas that heard nothing yet
  abbrev pub begins : ℕ → ℕ → Ballot → V → Proposing V
  begins n i b v = record { index = i; ballot = b; own = v; best = None; heard = replicate n false; acked = replicate n false }

  -- a majority promised: from now on the value is settled
  abbrev pub is_promised : Proposing V → Bool
  is_promised p = is_majority p.heard

  -- whether an answer with this index and ballot is for this proposer
  abbrev pub is_for : Proposing V → ℕ → Ballot → Bool
  is_for p i b = (i == p.index) && (rank b == rank p.ballot)

  -- whether the replica, one of those that have a mark, has not promised yet
  abbrev pub is_new : Proposing V → ℕ → Bool
  is_new p r = not (slice_index_or p.heard r true)

  -- of two accepted values that of the higher ballot, and of equal ones the first
  abbrev pub better : Option (Ballot × V) → Option (Ballot × V) → Option (Ballot × V)
  better best None = best
  better None (Some x) = Some x
  better (Some best) (Some x) = if is_below best.0 x.0 then Some x else Some best

  -- the proposer, once the message has come
  abbrev pub told : Proposing V → Message V → Proposing V
  told p (Promise r i b accepted) =
      if is_for p i b && (is_new p r && not (is_promised p))
      then record p { best = better p.best accepted; heard = slice_set p.heard r true }
      else p
  told p (Ack r i b) = if is_for p i b && is_promised p then record p { acked = slice_set p.acked r true } else p
  told p (Ask i b) = p
  told p (Put i b v) = p
  told p (Nack r i b) = p

  -- how far the proposal is
  abbrev pub stage_of : Proposing V → Stage
  stage_of p = if is_promised p then (if is_majority p.acked then Chosen else Promised) else Waiting

  -- the best accepted value, or else its own
  abbrev pub preferred : V → Option (Ballot × V) → V
  preferred own None = own
  preferred own (Some best) = best.1

  -- the value of the proposal
  abbrev pub value_of : Proposing V → V
  value_of p = preferred p.own p.best
