-- A message comes to a replica: what holds still holds, and what it answers is as it should be.
use Rattle.std.proofs.Common.{◌≡◌, ℕ, ◌<◌, ◌≤◌, Bool, true, false, length, ◌⊎◌, inl, inr, arith, subst, refl, sym, ◌∙◌, ap}
use Rattle.std.specs.Prelude.{slice_get, Option, Some, None, ◌==◌}
use Rattle.std.proofs.lemmas.Bool.Decides.{nat_tests}
use Rattle.slab.specs.Slab.{Slab}
use Rattle.paxos_core.specs.declared.ballot.Ballot.{Ballot}
use Rattle.paxos_core.specs.declared.message.Message.{Message}
use Rattle.paxos_core.specs.declared.message.Message.TheVariants.{Ask, Promise, Put, Ack, Nack}
use Rattle.paxos_core.specs.declared.acceptor.Standing.{Standing}
use Rattle.paxos_core.specs.Ballot.{rank, is_below}
use Rattle.paxos_core.specs.Standing.{index_of, after, answer}
use Rattle.paxos_core.specs.Proposing.{Proposing, is_for}
use Rattle.paxos_core.proofs.MajorityLemmas.{IsMajority-map}
use Rattle.paxos_group.specs.declared.letter.Letter.{Letter}
use Rattle.paxos_group.specs.Scene.{moved}
use Rattle.paxos_group.specs.Sound.{Attempt, ballot_of, IsReached, IsWithin, IsSent, IsNotLost, Keeps, StandingOk, ProposerOk}
use Rattle.paxos_group.specs.Sound.{Rests}
use Rattle.paxos_group.specs.Steps.{IsFresh, IsAwaited, IsMarked, IsCounted}

pub same_number : (x : ℕ) → (x == x) ≡ true
same_number x = grind (arith, nat_tests)

module _ {V : Type 0} where
  -- a standing stays, or is the one that the message came to
  pub moved_cases : (kept : ℕ → ℕ → Standing V) (r : ℕ) (m : Message V) (q i : ℕ) →
      (moved kept r m q i ≡ kept q i) ⊎ ((q ≡ r) × (i ≡ index_of m) × (moved kept r m q i ≡ after (kept q i) m))
  moved_cases kept r m q i = go (q == r) (i == index_of m) refl refl
    where
      go : (t u : Bool) → (q == r) ≡ t → (i == index_of m) ≡ u →
          (moved kept r m q i ≡ kept q i) ⊎ ((q ≡ r) × (i ≡ index_of m) × (moved kept r m q i ≡ after (kept q i) m))
      go false u e f = inl (rw e refl)
      go true false e f = let same : q ≡ r = grind (arith, nat_tests) in inl (rw e (rw f (ap (λ q. kept q i) (sym same))))
      go true true e f =
          let same : q ≡ r = grind (arith, nat_tests) in
          let here : i ≡ index_of m = grind (arith, nat_tests) in
          inr (same, here, rw e (rw f (ap (λ q. after (kept q i) m) (sym same))))

  -- the replica's standing at the message's own index
  pub moved_here : (kept : ℕ → ℕ → Standing V) (r : ℕ) (m : Message V) →
      moved kept r m r (index_of m) ≡ after (kept r (index_of m)) m
  moved_here kept r m = let e = same_number r in let f = same_number (index_of m) in rw e (rw f refl)

  pub keeps_after : (x : Attempt V) (kept : ℕ → ℕ → Standing V) (r i : ℕ) (s : Standing V) (m : Message V) (v : V) →
      IsSent x kept r m → i ≡ index_of m →
      slice_get x.commands i ≡ Some v → IsWithin s.promised s.accepted → s.accepted ≡ Some (ballot_of (x.tops i), v) →
      (after s m).accepted ≡ Some (ballot_of (x.tops i), v)
  keeps_after x kept r i s (Promise q j b a) v sent e c w h = h
  keeps_after x kept r i s (Ack q j b) v sent e c w h = h
  keeps_after x kept r i s (Nack q j b) v sent e c w h = h
  keeps_after x kept r i s (Ask j b) v sent e c w h = go (is_below b s.promised) refl
    where
      go : (t : Bool) → is_below b s.promised ≡ t → (after s (Ask j b)).accepted ≡ Some (ballot_of (x.tops i), v)
      go true f = rw f h
      go false f = rw f h
  keeps_after x kept r i s (Put j b u) v sent e c w h = go (is_below b s.promised) refl
    where
      go : (t : Bool) → is_below b s.promised ≡ t → (after s (Put j b u)).accepted ≡ Some (ballot_of (x.tops i), v)
      go true f = rw f h
      go false f =
          let within : rank (ballot_of (x.tops i)) ≤ rank s.promised = subst (λ a. IsWithin s.promised a) h w in
          let above : rank s.promised ≤ rank b = grind (arith, nat_tests) in
          let is : rank b ≡ rank (ballot_of b.round) = ap (λ b. rank b) sent.ballot in
          let top : b.round ≤ x.tops i = subst (λ j. b.round ≤ x.tops j) (sym e) sent.top in
          let same : b.round ≡ x.tops i = omega arith in
          let ballot : b ≡ ballot_of (x.tops i) = sent.ballot ∙ ap ballot_of same in
          let there : slice_get x.commands i ≡ Some u = subst (λ j. slice_get x.commands j ≡ Some u) (sym e) sent.command in
          let both : Some u ≡ Some v = sym there ∙ c in
          let value : u ≡ v = cc in
          rw f (ap (λ b. Some (b, u)) ballot ∙ ap (λ u. Some (ballot_of (x.tops i), u)) value)

  pub keeps_moved : (x : Attempt V) (kept : ℕ → ℕ → Standing V) (r : ℕ) (m : Message V) →
      ((r i : ℕ) → StandingOk x i (kept r i)) → IsSent x kept r m →
      (q i : ℕ) → Keeps x kept q i → Keeps x (moved kept r m) q i
  keeps_moved x kept r m ok sent q i k = elim (moved_cases kept r m q i) [
    | inl same ↦ record { command = k.command; proposed = k.proposed; accepted = ap (λ s. s.accepted) same ∙ k.accepted }
    | inr here ↦ record {
      command = k.command;
      proposed = k.proposed;
      accepted = ap (λ s. s.accepted) here.2 ∙ keeps_after x kept r i (kept q i) m k.command sent here.1 k.proposed
          (ok q i).within k.accepted;
    }
  ]

  pub standing_after : (x : Attempt V) (kept : ℕ → ℕ → Standing V) (r i : ℕ) (s : Standing V) (m : Message V) →
      ((i : ℕ) → x.tops i ≤ x.last) → IsSent x kept r m → i ≡ index_of m →
      StandingOk x i s → StandingOk x i (after s m)
  standing_after x kept r i s (Promise q j b a) tops sent e h = h
  standing_after x kept r i s (Ack q j b) tops sent e h = h
  standing_after x kept r i s (Nack q j b) tops sent e h = h
  standing_after x kept r i s (Ask j b) tops sent e h = go (is_below b s.promised) refl
    where
      rises : (accepted : Option (Ballot × V)) → rank s.promised ≤ rank b → IsWithin s.promised accepted → IsWithin b accepted
      rises None le w = tt
      rises (Some y) le w = omega arith

      go : (t : Bool) → is_below b s.promised ≡ t → StandingOk x i (after s (Ask j b))
      go true f = rw f h
      go false f = let le : rank s.promised ≤ rank b = grind (arith, nat_tests) in
          rw f (record { promised = sent; within = rises s.accepted le h.within; proposed = h.proposed })
  standing_after x kept r i s (Put j b v) tops sent e h = go (is_below b s.promised) refl
    where
      go : (t : Bool) → is_below b s.promised ≡ t → StandingOk x i (after s (Put j b v))
      go true f = rw f h
      go false f =
          let is : rank b ≡ rank (ballot_of b.round) = ap (λ b. rank b) sent.ballot in
          let top = sent.top in
          let most = tops j in
          let reached : IsReached x b = omega arith in
          rw f (record {
            promised = reached;
            within = omega arith;
            proposed =
                subst (λ j. slice_get x.commands j ≡ Some v) (sym e) sent.command;
          })

  pub sent_along : (x : Attempt V) (kept now : ℕ → ℕ → Standing V) (r : ℕ) (m : Message V) →
      ((q i : ℕ) → Keeps x kept q i → Keeps x now q i) → IsSent x kept r m → IsSent x now r m
  sent_along x kept now r (Ask i b) later h = h
  sent_along x kept now r (Put i b v) later h = record { ballot = h.ballot; top = h.top; command = h.command }
  sent_along x kept now r (Promise q i b a) later h = record { from = h.from; reached = h.reached; proposed = h.proposed }
  sent_along x kept now r (Nack q i b) later h = tt
  sent_along x kept now r (Ack q i b) later h =
      record { from = h.from; reached = h.reached; keeps = λ present. later r i (h.keeps present); put = h.put }

  pub rests_moved : (x : Attempt V) (count : ℕ) (numbers : ℕ → ℕ) (kept : ℕ → ℕ → Standing V) (held : Slab (Letter V)) (r : ℕ)
      (m : Message V) → IsSent x kept r m →
      Rests x count numbers kept held → Rests x count numbers (moved kept r m) held
  rests_moved x count numbers kept held r m sent h =
      let later = keeps_moved x kept r m h.standings sent in
      record {
        tops = h.tops;
        numbered = h.numbered;
        standings = λ q i. elim (moved_cases kept r m q i) [
          | inl same ↦ subst (λ s. StandingOk x i s) (sym same) (h.standings q i)
          | inr here ↦ subst (λ s. StandingOk x i s) (sym here.2)
              (standing_after x kept r i (kept q i) m h.tops sent here.1 (h.standings q i))
        ];
        letters = λ key l k. let ok = h.letters key l k in
            record {
              replica = ok.replica;
              sent =
                  sent_along x kept (moved kept r m) l.replica l.message later ok.sent;
              not_lost = ok.not_lost;
            };
        settled = λ i lt. IsMajority-map count (λ q k. later q i k) (h.settled i lt);
      }

  pub proposer_moved : (x : Attempt V) (count : ℕ) (kept : ℕ → ℕ → Standing V) (r : ℕ) (m : Message V) (p : Proposing V) →
      ((r i : ℕ) → StandingOk x i (kept r i)) → IsSent x kept r m →
      ProposerOk x count kept p → ProposerOk x count (moved kept r m) p
  proposer_moved x count kept r m p ok sent h =
      record {
        index = h.index;
        ballot = h.ballot;
        own = h.own;
        best = h.best;
        heard = h.heard;
        acked = h.acked;
        keeps = λ q k. keeps_moved x kept r m ok sent q x.index (h.keeps q k);
        put = h.put;
        ack = h.ack;
      }

  -- an answer is one that the replica may send
  pub reply_sent : (x : Attempt V) (kept : ℕ → ℕ → Standing V) (r : ℕ) (m reply : Message V) → x.tops x.index ≡ x.round →
      ((i : ℕ) → x.tops i ≤ x.last) → ((r i : ℕ) → StandingOk x i (kept r i)) →
      IsSent x kept r m → IsNotLost x r m → answer r (kept r) m ≡ Some reply → IsSent x (moved kept r m) r reply
  reply_sent x kept r (Promise q i b a) reply here tops ok sent heard e = absurd (cc)
  reply_sent x kept r (Ack q i b) reply here tops ok sent heard e = absurd (cc)
  reply_sent x kept r (Nack q i b) reply here tops ok sent heard e = absurd (cc)
  reply_sent x kept r (Ask i b) reply here tops ok sent heard e = go (is_below b (kept r i).promised) refl
    where
      go : (t : Bool) → is_below b (kept r i).promised ≡ t → IsSent x (moved kept r (Ask i b)) r reply
      go true f = let is : Some (Nack r i (kept r i).promised) ≡ Some reply = rw f at e in
          let same : Nack r i (kept r i).promised ≡ reply = cc in
          subst (λ reply. IsSent x (moved kept r (Ask i b)) r reply) same tt
      go false f = let is : Some (Promise r i b (kept r i).accepted) ≡ Some reply = rw f at e in
          let same : Promise r i b (kept r i).accepted ≡ reply = cc in
          subst (λ reply. IsSent x (moved kept r (Ask i b)) r reply) same (record {
            from = refl;
            reached = sent;
            proposed =
                (ok r i).proposed;
          })
  reply_sent x kept r (Put i b v) reply here tops ok sent heard e = go (is_below b (kept r i).promised) refl
    where
      go : (t : Bool) → is_below b (kept r i).promised ≡ t → IsSent x (moved kept r (Put i b v)) r reply
      go true f = let is : Some (Nack r i (kept r i).promised) ≡ Some reply = rw f at e in
          let same : Nack r i (kept r i).promised ≡ reply = cc in
          subst (λ reply. IsSent x (moved kept r (Put i b v)) r reply) same tt
      go false f = let is : Some (Ack r i b) ≡ Some reply = rw f at e in
          let same : Ack r i b ≡ reply = cc in
          let ballot_is : rank b ≡ rank (ballot_of b.round) = ap (λ b. rank b) sent.ballot in
          let top = sent.top in
          let most = tops i in
          subst (λ reply. IsSent x (moved kept r (Put i b v)) r reply) same (record {
            from = refl;
            reached = omega arith;
            keeps = λ present.
                let under : rank b ≡ rank (ballot_of x.round) = present.1 in
                let at : x.tops i ≡ x.round = ap x.tops present.0 ∙ here in
                let round : b.round ≡ x.tops i = omega arith in
                let ballot : b ≡ ballot_of (x.tops i) = sent.ballot ∙ ap ballot_of round in
                let now : (moved kept r (Put i b v) r i) ≡ record { promised = b; accepted = Some (b, v) } =
                moved_here kept r (Put i b v) ∙ rw f refl in
                record {
                  command = v;
                  proposed = sent.command;
                  accepted = ap (λ s. s.accepted) now ∙ ap (λ b. Some (b, v)) ballot;
                };
            put = heard;
          })

  for_it : (x : Attempt V) (count : ℕ) (kept : ℕ → ℕ → Standing V) (p : Proposing V) (i : ℕ) (b : Ballot) →
      ProposerOk x count kept p → i ≡ x.index → b ≡ ballot_of x.round → is_for p i b ≡ true
  for_it x count kept p i b h e f =
      let at : p.index ≡ i = h.index ∙ sym e in
      let under : rank p.ballot ≡ rank b = ap (λ b. rank b) (h.ballot ∙ sym f) in
      let same = same_number i in
      let same_rank = same_number (rank b) in
      rw (at, under, same) same_rank

  -- the answer to a fresh message is awaited, and once it is counted the replica is marked
  pub reply_awaited : (x : Attempt V) (count : ℕ) (kept : ℕ → ℕ → Standing V) (p : Proposing V) (r : ℕ) (m reply : Message V) →
      r < count → x.last ≡ x.round → StandingOk x (index_of m) (kept r (index_of m)) →
      ProposerOk x count kept p → IsFresh x p m → answer r (kept r) m ≡ Some reply →
      IsAwaited p reply × ((q : Proposing V) → IsCounted q reply → IsMarked m q r)
  reply_awaited x count kept p r (Promise q i b a) reply lt last ok h fresh e = absurd fresh.of
  reply_awaited x count kept p r (Ack q i b) reply lt last ok h fresh e = absurd fresh.of
  reply_awaited x count kept p r (Nack q i b) reply lt last ok h fresh e = absurd fresh.of
  reply_awaited x count kept p r (Ask i b) reply lt last ok h fresh e =
      let under : rank b ≡ rank (ballot_of x.round) = ap (λ b. rank b) fresh.of.1 in
      let reached : rank (kept r i).promised ≤ rank (ballot_of x.last) = ok.promised in
      let free : is_below b (kept r i).promised ≡ false = grind (arith, nat_tests) in
      let is : Some (Promise r i b (kept r i).accepted) ≡ Some reply = rw free at e in
      let same : Promise r i b (kept r i).accepted ≡ reply = cc in
      let len : length p.heard ≡ count = h.heard in
      let fits : is_for p i b ≡ true = for_it x count kept p i b h fresh.of.0 fresh.of.1 in
      subst (λ reply. IsAwaited p reply × ((q : Proposing V) → IsCounted q reply → IsMarked (Ask i b) q r)) same
      ((fits, omega arith), λ q k. k)
  reply_awaited x count kept p r (Put i b v) reply lt last ok h fresh e =
      let under : rank b ≡ rank (ballot_of x.round) = ap (λ b. rank b) fresh.of.1 in
      let reached : rank (kept r i).promised ≤ rank (ballot_of x.last) = ok.promised in
      let free : is_below b (kept r i).promised ≡ false = grind (arith, nat_tests) in
      let is : Some (Ack r i b) ≡ Some reply = rw free at e in
      let same : Ack r i b ≡ reply = cc in
      let len : length p.acked ≡ count = h.acked in
      let fits : is_for p i b ≡ true = for_it x count kept p i b h fresh.of.0 fresh.of.1 in
      subst (λ reply. IsAwaited p reply × ((q : Proposing V) → IsCounted q reply → IsMarked (Put i b v) q r)) same
      ((fits, fresh.in_turn, omega arith), λ q k. k)
