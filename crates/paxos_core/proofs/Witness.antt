-- A schedule in which a value is chosen: two of three replicas promise and accept.
use Rattle.std.proofs.Common.{◌≡◌, ℕ, zero, suc, ◌+◌, ◌≤◌, Bool, true, false, cond, List, [], ◌∷◌, inl, inr, arith, refl}
use Rattle.std.specs.Prelude.{slice_get, Some}
use Rattle.paxos_core.specs.declared.ballot.Ballot.{Ballot}
use Rattle.paxos_core.specs.Ballot.{rank}
use Rattle.paxos_core.specs.World.{Event, Begin, To_acceptor, To_proposer, Propose, start, run, is_begin}
use Rattle.paxos_core.specs.Votes.{HasVote, HasOwnBallots, CanChoose}

abbrev pub first_ballot : Ballot
first_ballot = record { round = 1; proposer = 0 }

module _ {V : Type 0} (v : V) where
  -- asked, promised twice, heard twice, put, accepted twice
  abbrev pub schedule : List (Event V)
  schedule =
      Begin 0 first_ballot v
      ∷ To_acceptor 0 0
      ∷ To_acceptor 1 1
      ∷ To_proposer 0 first_ballot 0
      ∷ To_proposer 0 first_ballot 1
      ∷ Propose 0 first_ballot
      ∷ To_acceptor 0 0
      ∷ To_acceptor 1 1
      ∷ []

  pub schedule_own : HasOwnBallots schedule
  schedule_own i b = go (is_begin i b (Begin 0 first_ballot v))
    where
      go : (t : Bool) → ((((((((0 + cond t 1 0) + 0) + 0) + 0) + 0) + 0) + 0) + 0) ≤ 1
      go true = omega arith
      go false = omega arith

  pub schedule_voted : (r : ℕ) → slice_get (true ∷ true ∷ false ∷ []) r ≡ Some true →
      HasVote (run 3 schedule start).votes r 0 (rank first_ballot) v
  schedule_voted zero h = inr (inl (record { replica = refl; index = refl; ballot = refl; value = refl }))
  schedule_voted (suc zero) h = inl (record { replica = refl; index = refl; ballot = refl; value = refl })
  schedule_voted (suc (suc zero)) h = cc
  schedule_voted (suc (suc (suc r))) h = cc

  pub can_choose : CanChoose v
  can_choose =
      record {
        events = schedule;
        own = schedule_own;
        chosen = (
          rank first_ballot,
          record {
            marks = true ∷ true ∷ false ∷ [];
            count = refl;
            most = refl;
            each =
                schedule_voted;
          },
        );
      }
