-- Every part of the invariant is carried along to a later world.
use Rattle.std.proofs.Common.{◌≡◌, ℕ, zero, suc, ◌<◌, ◌≤◌, List, [], ◌∷◌, inl, inr, arith, subst}
use Rattle.std.specs.Prelude.{slice_get, Option, Some, None}
use Rattle.paxos_core.specs.declared.ballot.Ballot.{Ballot}
use Rattle.paxos_core.specs.declared.message.Message.{Message}
use Rattle.paxos_core.specs.declared.message.Message.TheVariants.{Ask, Promise, Put, Ack, Nack}
use Rattle.paxos_core.specs.Ballot.{rank}
use Rattle.paxos_core.specs.Proposing.{Proposing}
use Rattle.paxos_core.specs.World.{World}
use Rattle.paxos_core.specs.Votes.{HasVote}
use Rattle.paxos_core.proofs.MajorityLemmas.{IsMajority-map}
use Rattle.paxos_core.proofs.Invariant.{floor, Choosable, Safe, IsVoteOf, IsSomeVote, PromiseOk, MessageOk, MessagesOk}
use Rattle.paxos_core.proofs.Invariant.{ProposerOk, IsLater}

module _ {V : Type 0} (n : ℕ) (w w' : World V) (later : IsLater w w') where
  -- a vote below what the replica had promised is not new
  pub old_vote : (r i c : ℕ) (x : V) → HasVote w'.votes r i c x → c < floor w r i → HasVote w.votes r i c x
  old_vote r i c x h lt = elim (later.new r i c x h) [ inl old ↦ old | inr le ↦ absurd (omega arith) ]

  pub choosable_before : (i c : ℕ) (x : V) → Choosable n w' i c x → Choosable n w i c x
  choosable_before i c x =
      IsMajority-map n (λ r h.
      let floors : floor w r i ≤ floor w' r i = later.floors r i in
      elim h [ inl vote ↦ later.new r i c x vote | inr le ↦ inr (omega arith) ])

  pub safe_later : (i b : ℕ) (v : V) → Safe n w i b v → Safe n w' i b v
  safe_later i b v s =
      record {
        decided = later.decided i b v s.decided;
        only = λ c x lt may. s.only c x lt (choosable_before i c x may);
      }

  pub vote_of_later : (r i top : ℕ) (accepted : Option (Ballot × V)) → IsVoteOf w r i top accepted →
      IsVoteOf w' r i top accepted
  vote_of_later r i top None h = tt
  vote_of_later r i top (Some y) h = (later.votes r i (rank y.0) y.1 h.0, h.1)

  pub some_vote_later : (i top : ℕ) (accepted : Option (Ballot × V)) → IsSomeVote w i top accepted →
      IsSomeVote w' i top accepted
  some_vote_later i top None h = tt
  some_vote_later i top (Some y) h = (h.0, later.votes h.0 i (rank y.0) y.1 h.1, h.2)

  pub promise_later : (r i b : ℕ) (accepted : Option (Ballot × V)) → PromiseOk w r i b accepted → PromiseOk w' r i b accepted
  promise_later r i b accepted ok =
      let floors : floor w r i ≤ floor w' r i = later.floors r i in
      let at_least : b ≤ floor w r i = ok.floors in
      record {
        floors = omega arith;
        reach = λ c x h lt. ok.reach c x (old_vote r i c x h (omega arith)) lt;
        real = vote_of_later r i b accepted ok.real;
      }

  pub message_later : (m : Message V) → MessageOk n w m → MessageOk n w' m
  message_later (Ask i b) ok = tt
  message_later (Promise r i b accepted) ok = promise_later r i (rank b) accepted ok
  message_later (Put i b v) ok = safe_later i (rank b) v ok
  message_later (Ack r i b) ok = (ok.0, later.votes r i (rank b) ok.0 ok.1)
  message_later (Nack r i b) ok = tt

  pub messages_later : (ms : List (Message V)) → MessagesOk n w ms → MessagesOk n w' ms
  messages_later [] ok = tt
  messages_later (m ∷ ms) ok = (message_later m ok.0, messages_later ms ok.1)

  pub proposer_later : (i b : ℕ) (p : Proposing V) → ProposerOk n w i b p → ProposerOk n w' i b p
  proposer_later i b p ok =
      record {
        index = ok.index;
        ballot = ok.ballot;
        heard_length = ok.heard_length;
        acked_length = ok.acked_length;
        floors = λ r h. let floors : floor w r i ≤ floor w' r i = later.floors r i in let k = ok.floors r h in omega arith;
        reach = λ r c x heard vote lt. let k = ok.floors r heard in
            ok.reach r c x heard (old_vote r i c x vote (omega arith)) lt;
        real = some_vote_later i b p.best ok.real;
        acked = λ r h. let k = ok.acked r h in (k.0, later.votes r i b _ k.1);
      }

-- what is true of all messages is true of the one at a place
pub message_at : {V : Type 0} (n : ℕ) (w : World V) (ms : List (Message V)) (k : ℕ) (m : Message V) → slice_get ms k ≡ Some m →
    MessagesOk n w ms → MessageOk n w m
message_at n w [] k m e ok = cc
message_at n w (x ∷ ms) zero m e ok = let same : x ≡ m = cc in subst (λ y. MessageOk n w y) same ok.0
message_at n w (x ∷ ms) (suc k) m e ok = message_at n w ms k m e ok.1
