-- A proposer begins, takes a message, or puts its value.
use Rattle.std.proofs.Common.{◌≡◌, ℕ, ◌<◌, ◌≤◌, Bool, true, false, not, ◌&&◌, ◌∷◌, inl, inr, arith, subst, refl, sym, ◌∙◌, ap}
use Rattle.std.specs.Prelude.{slice_get, Option, Some, None, ◌==◌}
use Rattle.std.proofs.lemmas.Bool.Decides.{nat_tests}
use Rattle.std.proofs.lemmas.List.{length-set, length-replicate}
use Rattle.paxos_core.specs.declared.ballot.Ballot.{Ballot}
use Rattle.paxos_core.specs.declared.message.Message.{Message}
use Rattle.paxos_core.specs.declared.message.Message.TheVariants.{Ask, Promise, Put, Ack, Nack}
use Rattle.paxos_core.specs.Ballot.{rank}
use Rattle.paxos_core.specs.Majority.{IsMajority}
use Rattle.paxos_core.specs.Proposing.{Proposing, begins, is_promised, is_for, is_new, told, preferred, value_of}
use Rattle.paxos_core.specs.World.{World, with_proposer, at_proposer, put_by}
use Rattle.paxos_core.specs.Votes.{HasVote}
use Rattle.paxos_core.proofs.MajorityLemmas.{meet, true_in_set, none_at_first}
use Rattle.paxos_core.proofs.Invariant.{floor, Choosable, Decided, Safe, Reaches, IsVoteOf, IsSomeVote, StandingOk, PromiseOk}
use Rattle.paxos_core.proofs.Invariant.{MessageOk, MessagesOk, ProposerOk, IsLater, Ok}
use Rattle.paxos_core.proofs.Later.{safe_later, messages_later, proposer_later, vote_of_later}
use Rattle.paxos_core.proofs.AtAcceptor.{same_place}
use Rattle.paxos_core.proofs.Acceptance.{same_number}
use Rattle.paxos_core.proofs.ProposingLemmas.{and_true, not_true, is_for_means, promised_stays, better_reaches, better_is_vote}

module _ {V : Type 0} where
  -- the ballot's proposer, where its value is decided
  pub decided_is : (w : World V) (i b : ℕ) (v : V) (p : Proposing V) → Decided w i b v → w.proposers i b ≡ Some p →
      (is_promised p ≡ true) × (value_of p ≡ v)
  decided_is w i b v p d there =
      let both : Some d.who ≡ Some p = sym d.there ∙ there in
      let same : d.who ≡ p = cc in
      (subst (λ p. is_promised p ≡ true) same d.promised, subst (λ p. value_of p ≡ v) same d.value)

  -- two votes under one ballot are for one value
  pub votes_agree : (n : ℕ) (w : World V) → Ok n w → (r q i b : ℕ) (x y : V) → HasVote w.votes r i b x →
      HasVote w.votes q i b y → x ≡ y
  votes_agree n w ok r q i b x y h k =
      let d = (ok.voted r i b x h).decided in
      let e = decided_is w i b y d.who (ok.voted q i b y k).decided d.there in
      sym d.value ∙ e.1

  -- a promised proposer's value is safe to put
  pub safe_value : (n : ℕ) (w : World V) → Ok n w → (i b : ℕ) (p : Proposing V) → w.proposers i b ≡ Some p →
      is_promised p ≡ true → Safe n w i b (value_of p)
  safe_value n w ok i b p there promised =
      let k = ok.proposers i b p there in
      record {
        decided = record { who = p; there = there; promised = promised; value = refl };
        only = λ c x lt may.
            let heard : IsMajority n (λ r. slice_get p.heard r ≡ Some true) =
            record { marks = p.heard; count = k.heard_length; most = promised; each = λ r h. h } in
            let both = meet n heard may in
            let top = k.floors both.0 both.1 in
            elim both.2 [
              | inl vote ↦ highest c x lt may both.0 vote p.best (k.reach both.0 c x both.1 vote lt) k.real
              | inr low ↦ absurd (omega arith)
            ];
      }
    where
      highest : (c : ℕ) (x : V) → c < b → Choosable n w i c x → (r : ℕ) → HasVote w.votes r i c x →
          (best : Option (Ballot × V)) → Reaches best c → IsSomeVote w i b best → x ≡ preferred p.own best
      highest c x lt may r vote None reach real = absurd reach
      highest c x lt may r vote (Some y) reach real = equal_or_below (rank y.0 == c) refl
        where
          equal_or_below : (t : Bool) → (rank y.0 == c) ≡ t → x ≡ y.1
          equal_or_below true e =
              let same : rank y.0 ≡ c = grind (arith, nat_tests) in
              votes_agree n w ok r real.0 i c x y.1 vote (subst (λ c. HasVote w.votes real.0 i c y.1) same real.1)
          equal_or_below false e =
              let below : c < rank y.0 = grind (arith, nat_tests) in
              (ok.voted real.0 i (rank y.0) y.1 real.1).only c x below may

-- one proposer is set, at its index and rank, and standings and votes stay
pub record Sets {V : Type 0} (w w' : World V) (i b : ℕ) (p : Proposing V) : Type 0 where
  pub standings : w'.standings ≡ w.standings
  pub votes : w'.votes ≡ w.votes
  pub here : w'.proposers i b ≡ Some p
  pub others : (j c : ℕ) → (j ≡ i → c ≡ b → ⊥) → w'.proposers j c ≡ w.proposers j c
  pub held : (v : V) → Decided w i b v → (is_promised p ≡ true) × (value_of p ≡ v)

-- the proposers with one set, at its place and elsewhere
module _ {V : Type 0} (proposers : ℕ → ℕ → Option (Proposing V)) (i b : ℕ) (p : Proposing V) where
  pub proposer_here : with_proposer proposers i b p i b ≡ Some p
  proposer_here =
      let e = same_number i in
      let f = same_number b in
      rw (e, f) refl

  pub proposer_there : (j c : ℕ) → (j ≡ i → c ≡ b → ⊥) → with_proposer proposers i b p j c ≡ proposers j c
  proposer_there j c other = go (j == i) (c == b) refl refl
    where
      go : (t u : Bool) → (j == i) ≡ t → (c == b) ≡ u → with_proposer proposers i b p j c ≡ proposers j c
      go false u e f = rw e refl
      go true false e f = rw (e, f) refl
      go true true e f = absurd (other (grind (arith, nat_tests)) (grind (arith, nat_tests)))

module _ {V : Type 0} (n : ℕ) (w w' : World V) (i b : ℕ) (p : Proposing V) (s : Sets w w' i b p) where
  pub later_by_set : IsLater w w'
  later_by_set =
      record {
        floors = λ q j. let k : floor w' q j ≡ floor w q j = ap (λ f. rank (f q j).promised) s.standings in omega arith;
        votes = λ q j c x h. subst (λ votes. HasVote votes q j c x) (sym s.votes) h;
        new = λ q j c x h. inl (subst (λ votes. HasVote votes q j c x) s.votes h);
        decided = λ j c v d. elim (same_place j i c b) [
          | inl e ↦
              let d' : Decided w i b v = subst (λ j. Decided w j b v) e.0 (subst (λ c. Decided w j c v) e.1 d) in
              let k = s.held v d' in
              subst (λ j. Decided w' j c v) (sym e.0)
              (subst (λ c. Decided w' i c v) (sym e.1) (record { who = p; there = s.here; promised = k.0; value = k.1 }))
          | inr other ↦ record { who = d.who; there = s.others j c other ∙ d.there; promised = d.promised; value = d.value }
        ];
      }

  pub ok_by_set : ProposerOk n w i b p → Ok n w → MessagesOk n w' w'.sent → Ok n w'
  ok_by_set here ok messages =
      record {
        standings = λ q j.
            let k = ok.standings q j in
            let same : floor w' q j ≡ floor w q j = ap (λ f. rank (f q j).promised) s.standings in
            subst (λ f. StandingOk w' q j (f q j).accepted) (sym s.standings)
            (record {
              reach = λ c x h. k.reach c x (subst (λ votes. HasVote votes q j c x) s.votes h);
              real = subst (λ top. IsVoteOf w' q j top (w.standings q j).accepted) (sym same)
                  (vote_of_later n w w' later_by_set q j (floor w q j) (w.standings q j).accepted k.real);
            });
        messages = messages;
        voted = λ q j c x h. safe_later n w w' later_by_set j c x
            (ok.voted q j c x (subst (λ votes. HasVote votes q j c x) s.votes h));
        proposers = λ j c p' there. elim (same_place j i c b) [
          | inl e ↦
              let there' : w'.proposers i b ≡ Some p' =
              subst (λ j. w'.proposers j b ≡ Some p') e.0 (subst (λ c. w'.proposers j c ≡ Some p') e.1 there) in
              let both : Some p ≡ Some p' = sym s.here ∙ there' in
              let same : p ≡ p' = cc in
              subst (λ j. ProposerOk n w' j c p') (sym e.0) (subst (λ c. ProposerOk n w' i c p') (sym e.1)
              (subst (λ p'. ProposerOk n w' i b p') same (proposer_later n w w' later_by_set i b p here)))
          | inr other ↦ proposer_later n w w' later_by_set j c p' (ok.proposers j c p' (sym (s.others j c other) ∙ there))
        ];
      }

module _ {V : Type 0} (n : ℕ) (w : World V) (ok : Ok n w) where
  -- a proposer begins, under a ballot that was not begun
  pub ok_begin : (i : ℕ) (b : Ballot) (v : V) → w.proposers i (rank b) ≡ None →
      Ok n (record w { proposers = with_proposer w.proposers i (rank b) (begins n i b v); sent = Ask i b ∷ w.sent })
  ok_begin i b v free =
      let w' : World V = record w {
        proposers = with_proposer w.proposers i (rank b) (begins n i b v);
        sent =
            Ask i b ∷ w.sent;
      } in
      let p = begins n i b v in
      let s : Sets w w' i (rank b) p =
      record {
        standings = refl;
        votes = refl;
        here = proposer_here w.proposers i (rank b) p;
        others = proposer_there w.proposers i (rank b) p;
        held = λ x d. let clash : None ≡ Some d.who = sym free ∙ d.there in absurd (cc);
      } in
      ok_by_set n w w' i (rank b) p s
      (record {
        index = refl;
        ballot = refl;
        heard_length = length-replicate n false;
        acked_length = length-replicate n false;
        floors = λ r h. absurd (none_at_first n r h);
        reach = λ r c x h vote lt. absurd (none_at_first n r h);
        real = tt;
        acked = λ r h. absurd (none_at_first n r h);
      })
      ok (tt, messages_later n w w' (later_by_set n w w' i (rank b) p s) w.sent ok.messages)

  -- what a message makes of a proposer
  pub told_ok : (i b : ℕ) (p : Proposing V) → w.proposers i b ≡ Some p → (m : Message V) → MessageOk n w m →
      ProposerOk n w i b (told p m)
  told_ok i b p there (Ask j a) h = ok.proposers i b p there
  told_ok i b p there (Put j a v) h = ok.proposers i b p there
  told_ok i b p there (Nack r j a) h = ok.proposers i b p there
  told_ok i b p there (Promise r j a accepted) h = go (is_for p j a && (is_new p r && not (is_promised p))) refl
    where
      k : ProposerOk n w i b p
      k = ok.proposers i b p there

      -- an accepted value that a promise carries to a proposer that waits is of a lower ballot
      lower : is_promised p ≡ false → (y : Option (Ballot × V)) → IsVoteOf w r i b y → IsSomeVote w i b y
      lower waits None real = tt
      lower waits (Some y) real =
          elim (same_place (rank y.0) b 0 0) [
            | inl e ↦
                let vote : HasVote w.votes r i b y.1 = subst (λ c. HasVote w.votes r i c y.1) e.0 real.0 in
                let d = decided_is w i b y.1 p (ok.voted r i b y.1 vote).decided there in
                let clash : true ≡ false = sym d.0 ∙ waits in absurd (cc)
            | inr other ↦ (r, real.0, not_equal (rank y.0) b real.1 (λ e. other e refl))
          ]
        where
          not_equal : (x y : ℕ) → x ≤ y → (x ≡ y → ⊥) → x < y
          not_equal x y le ne = omega arith

      go : (t : Bool) → (is_for p j a && (is_new p r && not (is_promised p))) ≡ t →
          ProposerOk n w i b (told p (Promise r j a accepted))
      go false e = rw e k
      go true e =
          let parts = and_true (is_for p j a) (is_new p r && not (is_promised p)) e in
          let rest = and_true (is_new p r) (not (is_promised p)) parts.1 in
          let waits = not_true (is_promised p) rest.1 in
          let mine = is_for_means p j a parts.0 in
          let at_index : j ≡ i = mine.0 ∙ k.index in
          let at_ballot : rank a ≡ b = mine.1 ∙ k.ballot in
          let promise : PromiseOk w r i b accepted =
          subst (λ b. PromiseOk w r i b accepted) at_ballot (subst (λ j. PromiseOk w r j (rank a) accepted) at_index h) in
          rw e
          (record {
            index = k.index;
            ballot = k.ballot;
            heard_length = length-set p.heard r true ∙ k.heard_length;
            acked_length = k.acked_length;
            floors = λ q g. elim (true_in_set p.heard r q g) [
              | inl e ↦ subst (λ q. b ≤ floor w q i) (sym e) promise.floors
              | inr old ↦ k.floors q old
            ];
            reach = λ q c x g vote lt. better_reaches p.best accepted c (elim (true_in_set p.heard r q g) [
              | inl e ↦ inr (promise.reach c x (subst (λ q. HasVote w.votes q i c x) e vote) lt)
              | inr old ↦ inl (k.reach q c x old vote lt)
            ]);
            real = better_is_vote w i b p.best accepted k.real (lower waits accepted promise.real);
            acked = λ q g. let clash : true ≡ false = sym (k.acked q g).0 ∙ waits in absurd (cc);
          })
  told_ok i b p there (Ack r j a) h = go (is_for p j a && is_promised p) refl
    where
      k : ProposerOk n w i b p
      k = ok.proposers i b p there

      go : (t : Bool) → (is_for p j a && is_promised p) ≡ t → ProposerOk n w i b (told p (Ack r j a))
      go false e = rw e k
      go true e =
          let parts = and_true (is_for p j a) (is_promised p) e in
          let mine = is_for_means p j a parts.0 in
          let at_index : j ≡ i = mine.0 ∙ k.index in
          let at_ballot : rank a ≡ b = mine.1 ∙ k.ballot in
          let vote : HasVote w.votes r i b h.0 =
          subst (λ b. HasVote w.votes r i b h.0) at_ballot (subst (λ j. HasVote w.votes r j (rank a) h.0) at_index h.1) in
          let d = decided_is w i b h.0 p (ok.voted r i b h.0 vote).decided there in
          let mine : HasVote w.votes r i b (value_of p) = subst (λ x. HasVote w.votes r i b x) (sym d.1) vote in
          rw e
          (record {
            index = k.index;
            ballot = k.ballot;
            heard_length = k.heard_length;
            acked_length = length-set p.acked r true ∙ k.acked_length;
            floors = k.floors;
            reach = k.reach;
            real = k.real;
            acked = λ q g. (
              parts.1,
              elim (true_in_set p.acked r q g) [
                | inl e ↦ subst (λ q. HasVote w.votes q i b (value_of p)) (sym e) mine
                | inr old ↦ (k.acked q old).1
              ],
            );
          })

  -- a message comes to a proposer
  pub ok_at_proposer : (i b : ℕ) (o : Option (Proposing V)) → w.proposers i b ≡ o → (m : Option (Message V)) →
      ((x : Message V) → m ≡ Some x → MessageOk n w x) → Ok n (at_proposer w i b o m)
  ok_at_proposer i b None there m h = ok
  ok_at_proposer i b (Some p) there None h = ok
  ok_at_proposer i b (Some p) there (Some m) h =
      let w' : World V = record w { proposers = with_proposer w.proposers i b (told p m) } in
      let s : Sets w w' i b (told p m) =
      record {
        standings = refl;
        votes = refl;
        here = proposer_here w.proposers i b (told p m);
        others = proposer_there w.proposers i b (told p m);
        held = λ v d. let k = decided_is w i b v p d there in let l = promised_stays p m k.0 in (l.0, l.1 ∙ k.1);
      } in
      ok_by_set n w w' i b (told p m) s (told_ok i b p there m (h m refl)) ok
      (messages_later n w w' (later_by_set n w w' i b (told p m) s) w.sent ok.messages)

  -- a promised proposer puts its value
  pub ok_put_by : (i b : ℕ) (o : Option (Proposing V)) → w.proposers i b ≡ o → Ok n (put_by w o)
  ok_put_by i b None there = ok
  ok_put_by i b (Some p) there = go (is_promised p) refl
    where
      go : (t : Bool) → is_promised p ≡ t → Ok n (put_by w (Some p))
      go false e = rw e ok
      go true e =
          let w' : World V = record w { sent = Put p.index p.ballot (value_of p) ∷ w.sent } in
          let k = ok.proposers i b p there in
          let s : Sets w w' i b p = record {
            standings = refl;
            votes = refl;
            here = there;
            others = λ j c other. refl;
            held =
                λ v d. decided_is w i b v p d there;
          } in
          let later = later_by_set n w w' i b p s in
          let safe = safe_later n w w' later i b (value_of p) (safe_value n w ok i b p there e) in
          let safe' : Safe n w' p.index (rank p.ballot) (value_of p) =
          subst (λ j. Safe n w' j (rank p.ballot) (value_of p)) (sym k.index)
          (subst (λ c. Safe n w' i c (value_of p)) (sym k.ballot) safe) in
          rw e (ok_by_set n w w' i b p s k ok (safe', messages_later n w w' later w.sent ok.messages))
