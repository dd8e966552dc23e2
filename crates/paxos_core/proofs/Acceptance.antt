-- The machine's step at an acceptor keeps the invariant.
use Rattle.std.proofs.Common.{◌≡◌, ℕ, ◌≤◌, Bool, true, false, ◌∷◌, inl, arith, subst, refl, sym, ◌∙◌, ap}
use Rattle.std.specs.Prelude.{Option, Some, None, ◌==◌, if◌then◌else◌}
use Rattle.std.proofs.lemmas.Bool.Decides.{nat_tests}
use Rattle.paxos_core.specs.declared.ballot.Ballot.{Ballot}
use Rattle.paxos_core.specs.declared.message.Message.{Message}
use Rattle.paxos_core.specs.declared.message.Message.TheVariants.{Ask, Promise, Put, Ack, Nack}
use Rattle.paxos_core.specs.Ballot.{rank, is_below}
use Rattle.paxos_core.specs.Standing.{after, index_of}
use Rattle.paxos_core.specs.World.{World, at_acceptor}
use Rattle.paxos_core.specs.Votes.{HasVote}
use Rattle.paxos_core.proofs.Invariant.{floor, Safe, PromiseOk, MessageOk, MessagesOk, IsLater, Ok}
use Rattle.paxos_core.proofs.Later.{messages_later, vote_of_later}
use Rattle.paxos_core.proofs.AtAcceptor.{Raises, Accepts, vote_of_rises, later_by_raise, later_by_accept, ok_by_raise}
use Rattle.paxos_core.proofs.AtAcceptor.{ok_by_accept}

pub same_number : (q : ℕ) → (q == q) ≡ true
same_number q = grind (arith, nat_tests)

module _ {V : Type 0} (w : World V) (r : ℕ) (m : Message V) where
  pub standing_here : (at_acceptor w r (Some m)).standings r (index_of m) ≡ after (w.standings r (index_of m)) m
  standing_here =
      let e = same_number r in
      let f = same_number (index_of m) in
      rw (e, f) refl

  pub standing_there : (q j : ℕ) → (q ≡ r → j ≡ index_of m → ⊥) → (at_acceptor w r (Some m)).standings q j ≡ w.standings q j
  standing_there q j other = go (q == r) (j == index_of m) refl refl
    where
      go : (t u : Bool) → (q == r) ≡ t → (j == index_of m) ≡ u → (at_acceptor w r (Some m)).standings q j ≡ w.standings q j
      go false u e f = rw e refl
      go true false e f = let same : q ≡ r = grind (arith, nat_tests) in rw (e, f) (ap (λ q. w.standings q j) (sym same))
      go true true e f = absurd (other (grind (arith, nat_tests)) (grind (arith, nat_tests)))

module _ {V : Type 0} (n : ℕ) (w : World V) (r : ℕ) (ok : Ok n w) where
  -- a step that leaves standing, votes and proposers as they are, and may send a message that says nothing
  pub ok_by_nothing : (m : Message V) → after (w.standings r (index_of m)) m ≡ w.standings r (index_of m) →
      (at_acceptor w r (Some m)).votes ≡ w.votes →
      (IsLater w (at_acceptor w r (Some m)) → MessagesOk n (at_acceptor w r (Some m)) (at_acceptor w r (Some m)).sent) →
      Ok n (at_acceptor w r (Some m))
  ok_by_nothing m e votes messages =
      let w' = at_acceptor w r (Some m) in
      let i = index_of m in
      let here : w'.standings r i ≡ w.standings r i = standing_here w r m ∙ e in
      let same : floor w' r i ≡ floor w r i = ap (λ s. rank s.promised) here in
      let s : Raises w w' r i = record {
        floors = omega arith;
        accepted = ap (λ s. s.accepted) here;
        others =
            standing_there w r m;
        proposers = refl;
        votes = votes;
      } in
      ok_by_raise n w w' r i s ok (messages (later_by_raise w w' r i s))

  pub ok_by_ask : (i : ℕ) (b : Ballot) → (t : Bool) → is_below b (w.standings r i).promised ≡ t →
      Ok n (at_acceptor w r (Some (Ask i b)))
  ok_by_ask i b true e =
      let m : Message V = Ask i b in
      let w' = at_acceptor w r (Some m) in
      let s = w.standings r i in
      ok_by_nothing m (rw e refl) refl
      (λ later. subst (λ (x : Message V). MessagesOk n w' (x ∷ w.sent))
      (sym (ap (λ t. if t then Nack r i s.promised else Promise r i b s.accepted) e))
      (tt, messages_later n w w' later w.sent ok.messages))
  ok_by_ask i b false e =
      let m : Message V = Ask i b in
      let w' = at_acceptor w r (Some m) in
      let s = w.standings r i in
      let after_is : after s m ≡ record { promised = b; accepted = s.accepted } = rw e refl in
      let here : w'.standings r i ≡ record { promised = b; accepted = s.accepted } = standing_here w r m ∙ after_is in
      let top : floor w' r i ≡ rank b = ap (λ s. rank s.promised) here in
      let le : floor w r i ≤ rank b = grind (arith, nat_tests) in
      let step : Raises w w' r i = record {
        floors = omega arith;
        accepted = ap (λ s. s.accepted) here;
        others =
            standing_there w r m;
        proposers = refl;
        votes = refl;
      } in
      let later = later_by_raise w w' r i step in
      let k = ok.standings r i in
      let promise : PromiseOk w' r i (rank b) s.accepted =
      record {
        floors = omega arith;
        reach = λ c x h lt. k.reach c x h;
        real = vote_of_rises w' r i (floor w r i) (rank b) s.accepted le
            (vote_of_later n w w' later r i (floor w r i) s.accepted k.real);
      } in
      ok_by_raise n w w' r i step ok
      (subst (λ (x : Message V). MessagesOk n w' (x ∷ w.sent))
      (sym (ap (λ t. if t then Nack r i s.promised else Promise r i b s.accepted) e))
      (promise, messages_later n w w' later w.sent ok.messages))

  pub ok_by_put : (i : ℕ) (b : Ballot) (v : V) → Safe n w i (rank b) v → (t : Bool) →
      is_below b (w.standings r i).promised ≡ t → Ok n (at_acceptor w r (Some (Put i b v)))
  ok_by_put i b v safe true e =
      let m : Message V = Put i b v in
      let w' = at_acceptor w r (Some m) in
      let s = w.standings r i in
      ok_by_nothing m (rw e refl) (rw e refl)
      (λ later. subst (λ (x : Message V). MessagesOk n w' (x ∷ w.sent))
      (sym (ap (λ t. if t then Nack r i s.promised else Ack r i b) e))
      (tt, messages_later n w w' later w.sent ok.messages))
  ok_by_put i b v safe false e =
      let m : Message V = Put i b v in
      let w' = at_acceptor w r (Some m) in
      let s = w.standings r i in
      let after_is : after s m ≡ record { promised = b; accepted = Some (b, v) } = rw e refl in
      let here : w'.standings r i ≡ record { promised = b; accepted = Some (b, v) } = standing_here w r m ∙ after_is in
      let votes : w'.votes ≡ record { replica = r; index = i; ballot = b; value = v } ∷ w.votes = rw e refl in
      let step : Accepts w w' r i b v = record {
        allowed = grind (arith, nat_tests);
        here = here;
        others =
            standing_there w r m;
        proposers = refl;
        votes = votes;
      } in
      let later = later_by_accept w w' r i b v step in
      ok_by_accept n w w' r i b v step safe ok
      (subst (λ (x : Message V). MessagesOk n w' (x ∷ w.sent)) (sym (ap (λ t. if t then Nack r i s.promised else Ack r i b) e)) (
        (
          v,
          subst (λ votes. HasVote votes r i (rank b) v) (sym votes)
              (inl (record { replica = refl; index = refl; ballot = refl; value = refl })),
        ),
        messages_later n w w' later w.sent ok.messages,
      ))

  -- whatever comes to an acceptor, the invariant stays
  pub ok_at_acceptor : (m : Message V) → MessageOk n w m → Ok n (at_acceptor w r (Some m))
  ok_at_acceptor (Ask i b) h = ok_by_ask i b (is_below b (w.standings r i).promised) refl
  ok_at_acceptor (Put i b v) h = ok_by_put i b v h (is_below b (w.standings r i).promised) refl
  ok_at_acceptor (Promise q i b a) h = let m : Message V = Promise q i b a in
      ok_by_nothing m refl refl (λ later. messages_later n w (at_acceptor w r (Some m)) later w.sent ok.messages)
  ok_at_acceptor (Ack q i b) h = let m : Message V = Ack q i b in
      ok_by_nothing m refl refl (λ later. messages_later n w (at_acceptor w r (Some m)) later w.sent ok.messages)
  ok_at_acceptor (Nack q i b) h = let m : Message V = Nack q i b in
      ok_by_nothing m refl refl (λ later. messages_later n w (at_acceptor w r (Some m)) later w.sent ok.messages)

  pub ok_comes : (m : Option (Message V)) → ((x : Message V) → m ≡ Some x → MessageOk n w x) → Ok n (at_acceptor w r m)
  ok_comes None h = ok
  ok_comes (Some m) h = ok_at_acceptor m (h m refl)
