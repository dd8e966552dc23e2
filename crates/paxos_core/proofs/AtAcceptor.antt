-- A message comes to an acceptor: it promises, accepts, or stays as it is.
use Rattle.std.proofs.Common.{◌≡◌, ℕ, ◌≤◌, Bool, true, false, ◌∷◌, ◌⊎◌, inl, inr, arith, subst, refl, sym, ◌∙◌, ap}
use Rattle.std.specs.Prelude.{Option, Some, None, ◌==◌}
use Rattle.std.proofs.lemmas.Bool.Decides.{nat_tests}
use Rattle.paxos_core.specs.declared.ballot.Ballot.{Ballot}
use Rattle.paxos_core.specs.Ballot.{rank}
use Rattle.paxos_core.specs.Proposing.{Proposing}
use Rattle.paxos_core.specs.World.{World}
use Rattle.paxos_core.specs.Votes.{HasVote}
use Rattle.paxos_core.proofs.Invariant.{floor, Decided, Safe, Reaches, IsVoteOf, StandingOk, MessagesOk, ProposerOk, IsLater}
use Rattle.paxos_core.proofs.Invariant.{Ok}
use Rattle.paxos_core.proofs.Later.{safe_later, proposer_later, vote_of_later}

-- the same place, or another
pub same_place : (q r j i : ℕ) → ((q ≡ r) × (j ≡ i)) ⊎ (q ≡ r → j ≡ i → ⊥)
same_place q r j i = same_place_by q r j i (q == r) (j == i) refl refl
  where
    same_place_by : (q r j i : ℕ) (t u : Bool) → (q == r) ≡ t → (j == i) ≡ u → ((q ≡ r) × (j ≡ i)) ⊎ (q ≡ r → j ≡ i → ⊥)
    same_place_by q r j i true true e f = inl (grind (arith, nat_tests), grind (arith, nat_tests))
    same_place_by q r j i true false e f = inr (λ x y. grind (arith, nat_tests))
    same_place_by q r j i false u e f = inr (λ x y. grind (arith, nat_tests))

-- a vote of at most this rank is one of at most a higher
pub vote_of_rises : {V : Type 0} (w : World V) (r i top high : ℕ) (accepted : Option (Ballot × V)) → top ≤ high →
    IsVoteOf w r i top accepted → IsVoteOf w r i high accepted
vote_of_rises w r i top high None le h = tt
vote_of_rises w r i top high (Some y) le h = let k = h.1 in (h.0, omega arith)

-- the acceptor of the replica raises its promise at the index, or stays, and does nothing else
pub record Raises {V : Type 0} (w w' : World V) (r i : ℕ) : Type 0 where
  pub floors : floor w r i ≤ floor w' r i
  pub accepted : (w'.standings r i).accepted ≡ (w.standings r i).accepted
  pub others : (q j : ℕ) → (q ≡ r → j ≡ i → ⊥) → w'.standings q j ≡ w.standings q j
  pub proposers : w'.proposers ≡ w.proposers
  pub votes : w'.votes ≡ w.votes

-- it accepts a value that its promise allows
pub record Accepts {V : Type 0} (w w' : World V) (r i : ℕ) (b : Ballot) (v : V) : Type 0 where
  pub allowed : floor w r i ≤ rank b
  pub here : w'.standings r i ≡ record { promised = b; accepted = Some (b, v) }
  pub others : (q j : ℕ) → (q ≡ r → j ≡ i → ⊥) → w'.standings q j ≡ w.standings q j
  pub proposers : w'.proposers ≡ w.proposers
  pub votes : w'.votes ≡ record { replica = r; index = i; ballot = b; value = v } ∷ w.votes

module _ {V : Type 0} (w w' : World V) where
  pub decided_kept : w'.proposers ≡ w.proposers → (i b : ℕ) (v : V) → Decided w i b v → Decided w' i b v
  decided_kept e i b v d =
      record { who = d.who; there = ap (λ f. f i b) e ∙ d.there; promised = d.promised; value = d.value }

  pub later_by_raise : (r i : ℕ) → Raises w w' r i → IsLater w w'
  later_by_raise r i s =
      record {
        floors = λ q j. elim (same_place q r j i) [
          | inl e ↦ subst (λ q. floor w q j ≤ floor w' q j) (sym e.0)
              (subst (λ j. floor w r j ≤ floor w' r j) (sym e.1) s.floors)
          | inr other ↦ let k : floor w' q j ≡ floor w q j = ap (λ s. rank s.promised) (s.others q j other) in omega arith
        ];
        votes = λ q j c x h. subst (λ votes. HasVote votes q j c x) (sym s.votes) h;
        new = λ q j c x h. inl (subst (λ votes. HasVote votes q j c x) s.votes h);
        decided = decided_kept s.proposers;
      }

  pub later_by_accept : (r i : ℕ) (b : Ballot) (v : V) → Accepts w w' r i b v → IsLater w w'
  later_by_accept r i b v s =
      let here : floor w' r i ≡ rank b = ap (λ s. rank s.promised) s.here in
      let allowed : floor w r i ≤ rank b = s.allowed in
      record {
        floors = λ q j. elim (same_place q r j i) [
          | inl e ↦ subst (λ q. floor w q j ≤ floor w' q j) (sym e.0)
              (subst (λ j. floor w r j ≤ floor w' r j) (sym e.1) (omega arith))
          | inr other ↦ let k : floor w' q j ≡ floor w q j = ap (λ s. rank s.promised) (s.others q j other) in omega arith
        ];
        votes = λ q j c x h. subst (λ votes. HasVote votes q j c x) (sym s.votes) (inr h);
        new = λ q j c x h.
            let k : HasVote (record { replica = r; index = i; ballot = b; value = v } ∷ w.votes) q j c x =
            subst (λ votes. HasVote votes q j c x) s.votes h in
            elim k [
              | inl is ↦ inr (subst (λ q. floor w q j ≤ c) is.replica
                  (subst (λ j. floor w r j ≤ c) is.index (let f : rank b ≡ c = is.ballot in omega arith)))
              | inr old ↦ inl old
            ];
        decided = decided_kept s.proposers;
      }

  -- a standing elsewhere has its replica's highest vote still
  pub standing_elsewhere : IsLater w w' → (q j : ℕ) → w'.standings q j ≡ w.standings q j →
      ((c : ℕ) (x : V) → HasVote w'.votes q j c x → HasVote w.votes q j c x) →
      StandingOk w q j (w.standings q j).accepted → StandingOk w' q j (w'.standings q j).accepted
  standing_elsewhere later q j e old ok =
      let top : floor w q j ≤ floor w' q j = later.floors q j in
      subst (λ s. StandingOk w' q j s.accepted) (sym e)
      (record {
        reach = λ c x h. ok.reach c x (old c x h);
        real = vote_of_rises w' q j (floor w q j) (floor w' q j) (w.standings q j).accepted top
            (vote_of_later 0 w w' later q j (floor w q j) (w.standings q j).accepted ok.real);
      })

  pub standings_by_raise : (r i : ℕ) → Raises w w' r i → ((q j : ℕ) → StandingOk w q j (w.standings q j).accepted) →
      (q j : ℕ) → StandingOk w' q j (w'.standings q j).accepted
  standings_by_raise r i s ok q j =
      let later = later_by_raise r i s in
      let top : floor w q j ≤ floor w' q j = later.floors q j in
      let same : (w'.standings q j).accepted ≡ (w.standings q j).accepted =
      elim (same_place q r j i) [
        | inl e ↦ subst (λ q. (w'.standings q j).accepted ≡ (w.standings q j).accepted) (sym e.0)
            (subst (λ j. (w'.standings r j).accepted ≡ (w.standings r j).accepted) (sym e.1) s.accepted)
        | inr other ↦ ap (λ s. s.accepted) (s.others q j other)
      ] in
      let k = ok q j in
      subst (λ a. StandingOk w' q j a) (sym same)
      (record {
        reach = λ c x h. k.reach c x (subst (λ votes. HasVote votes q j c x) s.votes h);
        real = vote_of_rises w' q j (floor w q j) (floor w' q j) (w.standings q j).accepted top
            (vote_of_later 0 w w' later q j (floor w q j) (w.standings q j).accepted k.real);
      })

  -- no accepted value of this rank or higher is below what a replica promised
  pub reached : (r i c : ℕ) (accepted : Option (Ballot × V)) → Reaches accepted c → IsVoteOf w r i (floor w r i) accepted →
      c ≤ floor w r i
  reached r i c None h k = absurd h
  reached r i c (Some y) h k = let top = k.1 in omega arith

  pub standings_by_accept : (r i : ℕ) (b : Ballot) (v : V) → Accepts w w' r i b v →
      ((q j : ℕ) → StandingOk w q j (w.standings q j).accepted) →
      (q j : ℕ) → StandingOk w' q j (w'.standings q j).accepted
  standings_by_accept r i b v s ok q j =
      let later = later_by_accept r i b v s in
      let here : floor w' r i ≡ rank b = ap (λ s. rank s.promised) s.here in
      let allowed : floor w r i ≤ rank b = s.allowed in
      let split : (c : ℕ) (x : V) → HasVote w'.votes q j c x →
      HasVote (record { replica = r; index = i; ballot = b; value = v } ∷ w.votes) q j c x =
      λ c x h. subst (λ votes. HasVote votes q j c x) s.votes h in
      elim (same_place q r j i) [
        | inl e ↦
            subst (λ q. StandingOk w' q j (w'.standings q j).accepted) (sym e.0)
            (subst (λ j. StandingOk w' r j (w'.standings r j).accepted) (sym e.1)
            (subst (λ t. StandingOk w' r i t.accepted) (sym s.here)
            (record {
              reach = λ c x h.
                  let k : HasVote (record { replica = r; index = i; ballot = b; value = v } ∷ w.votes) r i c x =
                  subst (λ votes. HasVote votes r i c x) s.votes h in
                  elim k [
                    | inl is ↦ let f : rank b ≡ c = is.ballot in omega arith
                    | inr old ↦ let f = reached r i c (w.standings r i).accepted ((ok r i).reach c x old) (ok r i).real in
                        omega arith
                  ];
              real = (
                subst (λ votes. HasVote votes r i (rank b) v) (sym s.votes)
                    (inl (record { replica = refl; index = refl; ballot = refl; value = refl })),
                omega arith,
              );
            })))
        | inr other ↦ standing_elsewhere later q j (s.others q j other)
            (λ c x h. elim (split c x h) [ inl is ↦ absurd (other (sym is.replica) (sym is.index)) | inr old ↦ old ]) (ok q j)
      ]

module _ {V : Type 0} (n : ℕ) (w w' : World V) where
  pub proposers_later : IsLater w w' → w'.proposers ≡ w.proposers →
      ((i b : ℕ) (p : Proposing V) → w.proposers i b ≡ Some p → ProposerOk n w i b p) →
      (i b : ℕ) (p : Proposing V) → w'.proposers i b ≡ Some p → ProposerOk n w' i b p
  proposers_later later e ok i b p there = proposer_later n w w' later i b p (ok i b p (ap (λ f. f i b) (sym e) ∙ there))

  pub ok_by_raise : (r i : ℕ) → Raises w w' r i → Ok n w → MessagesOk n w' w'.sent → Ok n w'
  ok_by_raise r i s ok messages =
      let later = later_by_raise w w' r i s in
      record {
        standings = standings_by_raise w w' r i s ok.standings;
        messages = messages;
        voted = λ q j c x h. safe_later n w w' later j c x
            (ok.voted q j c x (subst (λ votes. HasVote votes q j c x) s.votes h));
        proposers = proposers_later later s.proposers ok.proposers;
      }

  pub ok_by_accept : (r i : ℕ) (b : Ballot) (v : V) → Accepts w w' r i b v → Safe n w i (rank b) v → Ok n w →
      MessagesOk n w' w'.sent → Ok n w'
  ok_by_accept r i b v s safe ok messages =
      let later = later_by_accept w w' r i b v s in
      record {
        standings = standings_by_accept w w' r i b v s ok.standings;
        messages = messages;
        voted = λ q j c x h.
            let k : HasVote (record { replica = r; index = i; ballot = b; value = v } ∷ w.votes) q j c x =
            subst (λ votes. HasVote votes q j c x) s.votes h in
            safe_later n w w' later j c x
            (elim k [
              | inl is ↦ subst (λ j. Safe n w j c x) is.index
                  (subst (λ c. Safe n w i c x) is.ballot (subst (λ x. Safe n w i (rank b) x) is.value safe))
              | inr old ↦ ok.voted q j c x old
            ]);
        proposers = proposers_later later s.proposers ok.proposers;
      }
