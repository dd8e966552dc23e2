-- Whole schedules.
use Rattle.std.proofs.Common.{◌≡◌, ℕ, ◌+◌, ◌<◌, ◌≤◌, Bool, true, false, cond, List, [], ◌∷◌, ◌++◌, ◌⊎◌, inl, inr, arith, subst}
use Rattle.std.proofs.Common.{refl, sym, ◌∙◌, ap}
use Rattle.std.specs.Prelude.{slice_get, Option, Some, None, ◌==◌, nat_lt, if◌then◌else◌}
use Rattle.std.specs.List.{count_by}
use Rattle.std.proofs.lemmas.Bool.Decides.{nat_tests}
use Rattle.std.proofs.lemmas.List.Sums.{sum_by-cons}
use Rattle.paxos_core.specs.declared.ballot.Ballot.{Ballot}
use Rattle.paxos_core.specs.declared.message.Message.{Message}
use Rattle.paxos_core.specs.declared.message.Message.TheVariants.{Ask, Promise, Put, Ack, Nack}
use Rattle.paxos_core.specs.declared.acceptor.Standing.{Standing}
use Rattle.paxos_core.specs.Ballot.{rank, is_below}
use Rattle.paxos_core.specs.declared.proposer.Stage.TheVariants.{Waiting, Promised, Chosen}
use Rattle.paxos_core.specs.Majority.{is_majority, IsMajority}
use Rattle.paxos_core.specs.Proposing.{Proposing, begins, is_promised, stage_of, told, value_of}
use Rattle.paxos_core.specs.World.{Vote, World, Event, Begin, To_acceptor, To_proposer, Propose, Restart, start, with_vote}
use Rattle.paxos_core.specs.World.{at_acceptor, at_proposer, put_by, happens, run, is_begin}
use Rattle.paxos_core.specs.Votes.{HasVote, IsChosen, HasOwnBallots, IsHighestVote}
use Rattle.paxos_core.proofs.MajorityLemmas.{meet, IsMajority-map}
use Rattle.paxos_core.proofs.Invariant.{floor, Reaches, IsVoteOf, StandingOk, Ok}
use Rattle.paxos_core.proofs.Later.{message_at}
use Rattle.paxos_core.proofs.AtAcceptor.{same_place}
use Rattle.paxos_core.proofs.Acceptance.{same_number, ok_comes}
use Rattle.paxos_core.proofs.AtProposer.{votes_agree, proposer_there, ok_begin, ok_at_proposer, ok_put_by}

-- of two numbers one is below the other, or they are equal
pub compared : (b c : ℕ) → (b ≡ c) ⊎ ((b < c) ⊎ (c < b))
compared b c = go (b == c) (nat_lt b c) refl refl
  where
    go : (t u : Bool) → (b == c) ≡ t → nat_lt b c ≡ u → (b ≡ c) ⊎ ((b < c) ⊎ (c < b))
    go true u e f = inl (grind (arith, nat_tests))
    go false true e f = inr (inl (grind (arith, nat_tests)))
    go false false e f = inr (inr (grind (arith, nat_tests)))

module _ {V : Type 0} where
  pub run-append : (n : ℕ) (es fs : List (Event V)) (w : World V) → run n (es ++ fs) w ≡ run n fs (run n es w)
  run-append n [] fs w = refl
  run-append n (e ∷ es) fs w = run-append n es fs (happens n w e)

  -- votes that were there stay
  pub vote_stays_at : (r : ℕ) (standings : ℕ → Standing V) (m : Message V) (votes : List (Vote V)) (q i b : ℕ) (v : V) →
      HasVote votes q i b v → HasVote (with_vote r standings m votes) q i b v
  vote_stays_at r standings (Ask j c) votes q i b v h = h
  vote_stays_at r standings (Promise p j c a) votes q i b v h = h
  vote_stays_at r standings (Ack p j c) votes q i b v h = h
  vote_stays_at r standings (Nack p j c) votes q i b v h = h
  vote_stays_at r standings (Put j c x) votes q i b v h = go (is_below c (standings j).promised)
    where
      go : (t : Bool) → HasVote (if t then votes else record { replica = r; index = j; ballot = c; value = x } ∷ votes) q i b v
      go true = h
      go false = inr h

  pub vote_stays_comes : (w : World V) (r : ℕ) (m : Option (Message V)) (q i b : ℕ) (v : V) → HasVote w.votes q i b v →
      HasVote (at_acceptor w r m).votes q i b v
  vote_stays_comes w r None q i b v h = h
  vote_stays_comes w r (Some m) q i b v h = vote_stays_at r (w.standings r) m w.votes q i b v h

  pub votes-at_proposer : (w : World V) (i b : ℕ) (o : Option (Proposing V)) (m : Option (Message V)) →
      (at_proposer w i b o m).votes ≡ w.votes
  votes-at_proposer w i b None m = refl
  votes-at_proposer w i b (Some p) None = refl
  votes-at_proposer w i b (Some p) (Some m) = refl

  pub votes-put_by : (w : World V) (o : Option (Proposing V)) → (put_by w o).votes ≡ w.votes
  votes-put_by w None = refl
  votes-put_by w (Some p) = go (is_promised p) refl
    where
      go : (t : Bool) → is_promised p ≡ t → (put_by w (Some p)).votes ≡ w.votes
      go true e = rw e refl
      go false e = rw e refl

  pub vote_stays : (n : ℕ) (w : World V) (e : Event V) (q i b : ℕ) (v : V) → HasVote w.votes q i b v →
      HasVote (happens n w e).votes q i b v
  vote_stays n w (Begin j c x) q i b v h = h
  vote_stays n w (To_acceptor r k) q i b v h = vote_stays_comes w r (slice_get w.sent k) q i b v h
  vote_stays n w (To_proposer j c k) q i b v h =
      subst (λ votes. HasVote votes q i b v)
      (sym (votes-at_proposer w j (rank c) (w.proposers j (rank c)) (slice_get w.sent k))) h
  vote_stays n w (Propose j c) q i b v h =
      subst (λ votes. HasVote votes q i b v) (sym (votes-put_by w (w.proposers j (rank c)))) h
  vote_stays n w (Restart r) q i b v h = h

  pub votes_stay : (n : ℕ) (es : List (Event V)) (w : World V) (q i b : ℕ) (v : V) → HasVote w.votes q i b v →
      HasVote (run n es w).votes q i b v
  votes_stay n [] w q i b v h = h
  votes_stay n (e ∷ es) w q i b v h = votes_stay n es (happens n w e) q i b v (vote_stays n w e q i b v h)

  -- what is chosen stays chosen
  pub chosen_stays : (n i : ℕ) (v : V) (es : List (Event V)) (w : World V) → IsChosen n w.votes i v →
      IsChosen n (run n es w).votes i v
  chosen_stays n i v es w h = (h.0, IsMajority-map n (λ r k. votes_stay n es w r i h.0 v k) h.1)

  -- where a ballot was not begun, only its beginning changes that
  pub free_at_proposer : (w : World V) (i b : ℕ) (o : Option (Proposing V)) → w.proposers i b ≡ o →
      (m : Option (Message V)) (j c : ℕ) → w.proposers j c ≡ None → (at_proposer w i b o m).proposers j c ≡ None
  free_at_proposer w i b None there m j c free = free
  free_at_proposer w i b (Some p) there None j c free = free
  free_at_proposer w i b (Some p) there (Some m) j c free =
      elim (same_place j i c b) [
        | inl e ↦
            let free' : w.proposers i b ≡ None =
            subst (λ j. w.proposers j b ≡ None) e.0 (subst (λ c. w.proposers j c ≡ None) e.1 free) in
            let clash : Some p ≡ None = sym there ∙ free' in absurd (cc)
        | inr other ↦ proposer_there w.proposers i b (told p m) j c other ∙ free
      ]

  pub free_put_by : (w : World V) (o : Option (Proposing V)) (j c : ℕ) → w.proposers j c ≡ None →
      (put_by w o).proposers j c ≡ None
  free_put_by w None j c free = free
  free_put_by w (Some p) j c free = go (is_promised p) refl
    where
      go : (t : Bool) → is_promised p ≡ t → (put_by w (Some p)).proposers j c ≡ None
      go true e = rw e free
      go false e = rw e free

  pub free_at_acceptor : (w : World V) (r : ℕ) (m : Option (Message V)) (j c : ℕ) → w.proposers j c ≡ None →
      (at_acceptor w r m).proposers j c ≡ None
  free_at_acceptor w r None j c free = free
  free_at_acceptor w r (Some m) j c free = free

  -- each ballot that is yet to begin is free
  pub record IsReady (w : World V) (es : List (Event V)) : Type 0 where
    pub own : HasOwnBallots es
    pub free : (i b : ℕ) → (w.proposers i b ≡ None) ⊎ (count_by (is_begin i b) es ≡ 0)

  pub count-cons : (i b : ℕ) (e : Event V) (es : List (Event V)) →
      count_by (is_begin i b) (e ∷ es) ≡ cond (is_begin i b e) 1 0 + count_by (is_begin i b) es
  count-cons i b e es = sum_by-cons (λ e. cond (is_begin i b e) 1 0) e es

  pub fewer : (i b : ℕ) (e : Event V) (es : List (Event V)) → count_by (is_begin i b) es ≤ count_by (is_begin i b) (e ∷ es)
  fewer i b e es = omega (arith, count-cons i b e es)

  pub ready_next : (n : ℕ) (w : World V) (e : Event V) (es : List (Event V)) → IsReady w (e ∷ es) → IsReady (happens n w e) es
  ready_next n w e es ready =
      record {
        own = λ i b. let k = ready.own i b in omega (arith, fewer i b e es);
        free = λ i b. elim (ready.free i b) [
          | inl free ↦ next e i b free (ready.own i b)
          | inr none ↦ inr (omega (arith, fewer i b e es))
        ];
      }
    where
      next : (e : Event V) (i b : ℕ) → w.proposers i b ≡ None → count_by (is_begin i b) (e ∷ es) ≤ 1 →
          ((happens n w e).proposers i b ≡ None) ⊎ (count_by (is_begin i b) es ≡ 0)
      next (To_acceptor r k) i b free own = inl (free_at_acceptor w r (slice_get w.sent k) i b free)
      next (To_proposer j c k) i b free own =
          inl (free_at_proposer w j (rank c) (w.proposers j (rank c)) refl (slice_get w.sent k) i b free)
      next (Propose j c) i b free own = inl (free_put_by w (w.proposers j (rank c)) i b free)
      next (Restart r) i b free own = inl free
      next (Begin j c v) i b free own =
          elim (same_place i j b (rank c)) [
            | inl e ↦
                let one : (is_begin i b (Begin j c v)) ≡ true =
                subst (λ i. is_begin i b (Begin j c v) ≡ true) (sym e.0)
                (subst (λ b. is_begin j b (Begin j c v) ≡ true) (sym e.1)
                (let x = same_number j in let y = same_number (rank c) in rw (x, y) refl)) in
                let step : count_by (is_begin i b) (Begin j c v ∷ es) ≡ 1 + count_by (is_begin i b) es =
                count-cons i b (Begin j c v) es ∙ ap (λ t. cond t 1 0 + count_by (is_begin i b) es) one in
                inr (omega arith)
            | inr other ↦ inl (proposer_there w.proposers j (rank c) (begins n j c v) i b other ∙ free)
          ]

  -- the invariant over one step, and over a whole schedule
  pub ok_next : (n : ℕ) (w : World V) (e : Event V) (es : List (Event V)) → IsReady w (e ∷ es) → Ok n w → Ok n (happens n w e)
  ok_next n w (To_acceptor r k) es ready ok =
      ok_comes n w r ok (slice_get w.sent k) (λ m e. message_at n w w.sent k m e ok.messages)
  ok_next n w (To_proposer i b k) es ready ok =
      ok_at_proposer n w ok i (rank b) (w.proposers i (rank b)) refl (slice_get w.sent k)
      (λ m e. message_at n w w.sent k m e ok.messages)
  ok_next n w (Propose i b) es ready ok = ok_put_by n w ok i (rank b) (w.proposers i (rank b)) refl
  ok_next n w (Restart r) es ready ok = ok
  ok_next n w (Begin i b v) es ready ok =
      elim (ready.free i (rank b)) [
        | inl free ↦ ok_begin n w ok i b v free
        | inr none ↦
            let one : (is_begin i (rank b) (Begin i b v)) ≡ true =
            (let x = same_number i in let y = same_number (rank b) in rw (x, y) refl) in
            let step : count_by (is_begin i (rank b)) (Begin i b v ∷ es) ≡ 1 + count_by (is_begin i (rank b)) es =
            count-cons i (rank b) (Begin i b v) es ∙ ap (λ t. cond t 1 0 + count_by (is_begin i (rank b)) es) one in
            absurd (omega arith)
      ]

  pub ok_run : (n : ℕ) (es : List (Event V)) (w : World V) → IsReady w es → Ok n w → Ok n (run n es w)
  ok_run n [] w ready ok = ok
  ok_run n (e ∷ es) w ready ok = ok_run n es (happens n w e) (ready_next n w e es ready) (ok_next n w e es ready ok)

  pub ok_start : (n : ℕ) → Ok n (start {V = V})
  ok_start n =
      record {
        standings = λ r i. record { reach = λ c x h. h; real = tt };
        messages = tt;
        voted = λ r i c x h. absurd h;
        proposers = λ i b p there. absurd (cc);
      }

  pub ok_from_start : (n : ℕ) (es : List (Event V)) → HasOwnBallots es → Ok n (run n es start)
  ok_from_start n es own = ok_run n es start (record { own = own; free = λ i b. inl refl }) (ok_start n)

  -- two chosen values are equal
  pub agree_at : (n : ℕ) (w : World V) → Ok n w → (i : ℕ) (x y : V) → IsChosen n w.votes i x → IsChosen n w.votes i y → x ≡ y
  agree_at n w ok i x y h k = elim (compared h.0 k.0) [
    | inl e ↦
        let late : IsMajority n (λ r. HasVote w.votes r i h.0 y) =
        subst (λ b. IsMajority n (λ r. HasVote w.votes r i b y)) (sym e) k.1 in
        let both = meet n h.1 late in
        votes_agree n w ok both.0 both.0 i h.0 x y both.1 both.2
    | inr apart ↦ elim apart [
      | inl lt ↦ below h.0 k.0 x y lt h.1 k.1
      | inr gt ↦ sym (below k.0 h.0 y x gt k.1 h.1)
    ]
  ]
    where
      below : (b c : ℕ) (x y : V) → b < c → IsMajority n (λ r. HasVote w.votes r i b x) →
          IsMajority n (λ r. HasVote w.votes r i c y) → x ≡ y
      below b c x y lt early late =
          let voter = meet n late late in
          (ok.voted voter.0 i c y voter.1).only b x lt (IsMajority-map n (λ r vote. inl vote) early)

  pub agree : (n i : ℕ) (x y : V) (es fs : List (Event V)) → HasOwnBallots (es ++ fs) → IsChosen n (run n es start).votes i x →
      IsChosen n (run n (es ++ fs) start).votes i y → x ≡ y
  agree n i x y es fs own h k =
      let later : IsChosen n (run n (es ++ fs) start).votes i x =
      subst (λ (w : World V). IsChosen n w.votes i x) (sym (run-append n es fs start))
      (chosen_stays n i x fs (run n es start) h) in
      agree_at n (run n (es ++ fs) start) (ok_from_start n (es ++ fs) own) i x y later k

  pub stays : (n i : ℕ) (x : V) (es fs : List (Event V)) → IsChosen n (run n es start).votes i x →
      IsChosen n (run n (es ++ fs) start).votes i x
  stays n i x es fs h =
      subst (λ (w : World V). IsChosen n w.votes i x) (sym (run-append n es fs start))
      (chosen_stays n i x fs (run n es start) h)

  -- what a proposer calls chosen is chosen
  pub known : (n i b : ℕ) (p : Proposing V) (es : List (Event V)) → HasOwnBallots es →
      (run n es start).proposers i b ≡ Some p → stage_of p ≡ Chosen → IsChosen n (run n es start).votes i (value_of p)
  known n i b p es own there stage = go (is_promised p) (is_majority p.acked) refl refl
    where
      go : (t u : Bool) → is_promised p ≡ t → is_majority p.acked ≡ u → IsChosen n (run n es start).votes i (value_of p)
      go false u e f = let clash : Waiting ≡ Chosen = sym (rw e refl) ∙ stage in absurd (cc)
      go true false e f = let clash : Promised ≡ Chosen = sym (rw (e, f) refl) ∙ stage in absurd (cc)
      go true true e f =
          let k = (ok_from_start n es own).proposers i b p there in
          (b, record { marks = p.acked; count = k.acked_length; most = f; each = λ r h. (k.acked r h).1 })

  -- what a replica keeps is its highest vote
  pub kept : (n r i : ℕ) (es : List (Event V)) → HasOwnBallots es →
      IsHighestVote (run n es start).votes r i ((run n es start).standings r i).accepted
  kept n r i es own = highest (run n es start) (floor (run n es start) r i) ((run n es start).standings r i).accepted k.reach
      k.real
    where
      k : StandingOk (run n es start) r i ((run n es start).standings r i).accepted
      k = (ok_from_start n es own).standings r i

      highest : (w : World V) (top : ℕ) (accepted : Option (Ballot × V)) →
          ((c : ℕ) (x : V) → HasVote w.votes r i c x → Reaches accepted c) → IsVoteOf w r i top accepted →
          IsHighestVote w.votes r i accepted
      highest w top None reach real = reach
      highest w top (Some y) reach real = (real.0, reach)
