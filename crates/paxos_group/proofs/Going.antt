-- From one moment of an attempt to a later one: steps in a row, and each kind of step.
use Rattle.std.proofs.Common.{◌≡◌, ℕ, zero, suc, ◌+◌, ◌*◌, ◌<◌, ◌≤◌, Bool, true, false, List, [], ◌∷◌, ◌⊎◌, inl, inr, arith}
use Rattle.std.proofs.Common.{subst, refl, sym, ◌∙◌, ap}
use Rattle.std.proofs.Math.Path.{fun_ext}
use Rattle.std.specs.Prelude.{Option, Some, None, IsSome, Result, Ok, Err, OnOk, nat_lt, IsTrue, ⊤}
use Rattle.slab.specs.Slab.{Slab, get, slab_len}
use Rattle.outside.specs.declared.weather.Fate.{Fate}
use Rattle.outside.specs.declared.weather.Fate.TheVariants.{Deliver, Lose}
use Rattle.outside.specs.declared.weather.MessageKind.{MessageKind}
use Rattle.outside.specs.declared.weather.MessageKind.TheVariants as kind
use Rattle.nfs3_types.specs.Count.{Rose}
use Rattle.outside.specs.Weather.{is_bad, Draws}
use Rattle.paxos_core.specs.declared.message.Message.{Message}
use Rattle.paxos_core.specs.declared.message.Message.TheVariants.{Ask, Promise, Put, Ack, Nack}
use Rattle.paxos_core.specs.declared.acceptor.Standing.{Standing}
use Rattle.std.proofs.lemmas.Bool.Decides.{nat_tests}
use Rattle.paxos_core.specs.Ballot.{rank}
use Rattle.paxos_core.specs.Standing.{index_of, answer}
use Rattle.paxos_core.specs.Proposing.{Proposing, told}
use Rattle.paxos_group.specs.declared.letter.Letter.{Letter}
use Rattle.paxos_group.specs.declared.net.TheConstants.{MOST_HELD}
use Rattle.paxos_group.specs.Fates.{AllDeliver, Delivers}
use Rattle.paxos_group.specs.Letters.{kind_of}
use Rattle.paxos_group.specs.Scene.{Scene, StoreWeather, moved, GainsAtMost}
use Rattle.paxos_group.specs.Sound.{Attempt, ballot_of, IsSent, IsNotLost, ProposerOk, LetterOk, Rests, Stands}
use Rattle.paxos_group.specs.Steps.{Met, Grows, Came, Goes, IsAwaited, IsCounted, IsFresh, IsMarked, IsFreshOf, IsInTurn, Tells}
use Rattle.paxos_group.specs.Steps.{Reaches, ReachesBelow}
use Rattle.paxos_group.proofs.Told.{grows-refl, grows-trans, grows_told, counted_told, proposer_told}
use Rattle.paxos_group.proofs.Votes.{moved_votes}
use Rattle.paxos_group.proofs.Moved.{rests_moved, proposer_moved, reply_sent, reply_awaited}

-- a count that rose, before or after it only stayed or rose
pub rose_before : (a b c : ℕ) → Rose a b → b ≤ c → Rose a c
rose_before a b c h le = omega arith

pub rose_after : (a b c : ℕ) → a ≤ b → Rose b c → Rose a c
rose_after a b c le h = omega arith

-- the first of fates that all deliver
pub draws_deliver : (n : ℕ) (before now : Option (List Fate)) (fate : Fate) → Delivers (1 + n) before → Draws before now fate →
    (fate ≡ Deliver) × Delivers n now
draws_deliver n None now fate h d = absurd h
draws_deliver n (Some before) None fate h d = absurd d
draws_deliver n (Some []) (Some now) fate h d = (d.0, subst (λ l. AllDeliver n l) (sym d.1) (empty n))
  where
    empty : (n : ℕ) → AllDeliver n []
    empty zero = tt
    empty (suc n) = tt
draws_deliver n (Some (first ∷ rest)) (Some now) fate h d =
    let one : 1 + n ≡ suc n = omega arith in
    let k : AllDeliver (suc n) (first ∷ rest) = subst (λ m. AllDeliver m (first ∷ rest)) one h in
    (d.0 ∙ k.0, subst (λ l. AllDeliver n l) (sym d.1) k.1)

-- what follows at Ok
pub ok_map : {T E : Type 0} {P Q : Type 0} (result : Result T E) → (P → Q) → OnOk result P → OnOk result Q
ok_map (Ok v) f h = f h
ok_map (Err e) f h = h

pub on_ok_always : {T E P : Type 0} (result : Result T E) → P → OnOk result P
on_ok_always (Ok v) h = h
on_ok_always (Err e) h = tt

module _ {V : Type 0} where
  pub came-refl : (m : Message V) (p : Proposing V) → Came m p p
  came-refl m p = record { grows = grows-refl p; sound = λ x count kept r h sent heard. h }

  pub came-trans : (m : Message V) (p q s : Proposing V) → Came m p q → Came m q s → Came m p s
  came-trans m p q s f g = record {
    grows = grows-trans p q s f.grows g.grows;
    sound = λ x count kept r h sent heard. g.sound x count kept r (f.sound x count kept r h sent heard) sent heard;
  }

  pub came_told : (m : Message V) (p q : Proposing V) → q ≡ told p m → Came m p q
  came_told m p q e = subst (λ q. Came m p q) (sym e) (record {
    grows = grows_told p m;
    sound =
        λ x count kept r. proposer_told x count kept r p m;
  })

  pub came_same : (m : Message V) (p q : Proposing V) → q ≡ p → Came m p q
  came_same m p q e = subst (λ q. Came m p q) (sym e) (came-refl m p)

  pub told_counted : (m : Message V) (p q : Proposing V) → q ≡ told p m → IsAwaited p m → IsCounted q m
  told_counted m p q e w = subst (λ q. IsCounted q m) (sym e) (counted_told p m w)

  pub goes-trans : (G H : Attempt V → Type 0) (old mid new : Scene V) → Goes G old mid → Goes H mid new →
      ((x : Attempt V) → Stands x old → Stands x mid → G x → H x) → Goes G old new
  goes-trans G H old mid new f g given = record {
    sound = λ x h k. let there = f.sound x h k in g.sound x there (given x h there k);
    grows = grows-trans old.proposing mid.proposing new.proposing f.grows g.grows;
    rises = λ r. let a = f.rises r in let b = g.rises r in omega arith;
    store = g.store ∙ f.store;
    count = g.count ∙ f.count;
    votes = λ r i h. g.votes r i (f.votes r i h);
    within = λ h. g.within (f.within h);
  }

  pub goes-weaken : (G H : Attempt V → Type 0) (old new : Scene V) → Goes G old new →
      ((x : Attempt V) → Stands x old → H x → G x) → Goes H old new
  goes-weaken G H old new f given = record {
    sound = λ x h k. f.sound x h (given x h k);
    grows = f.grows;
    rises =
        f.rises;
    store = f.store;
    count = f.count;
    votes = f.votes;
    within = f.within;
  }

  pub rests_same : (x : Attempt V) (count count' : ℕ) (numbers numbers' : ℕ → ℕ) (kept kept' : ℕ → ℕ →
      Standing V) (held : Slab (Letter V)) →
      count' ≡ count → ((q : ℕ) → numbers' q ≡ numbers q) → ((q i : ℕ) → kept' q i ≡ kept q i) →
      Rests x count numbers kept held → Rests x count' numbers' kept' held
  rests_same x count count' numbers numbers' kept kept' held e f g h =
      let same_numbers : numbers' ≡ numbers = fun_ext f in
      let same_kept : kept' ≡ kept = fun_ext (λ q. fun_ext (g q)) in
      subst (λ c. Rests x c numbers' kept' held) (sym e)
      (subst (λ n. Rests x count n kept' held) (sym same_numbers) (subst (λ k. Rests x count numbers k held) (sym same_kept) h))

  pub proposer_same : (x : Attempt V) (count count' : ℕ) (kept kept' : ℕ → ℕ → Standing V) (p : Proposing V) →
      count' ≡ count → ((q i : ℕ) → kept' q i ≡ kept q i) → ProposerOk x count kept p → ProposerOk x count' kept' p
  proposer_same x count count' kept kept' p e g h =
      let same_kept : kept' ≡ kept = fun_ext (λ q. fun_ext (g q)) in
      subst (λ c. ProposerOk x c kept' p) (sym e) (subst (λ k. ProposerOk x count k p) (sym same_kept) h)

  -- a message that is not lost by its fate is not one that is always lost
  pub not_lost : (x : Attempt V) (silent : ℕ → MessageKind → Bool) (r : ℕ) (m : Message V) (fate : Fate) →
      ((q : ℕ) (j : MessageKind) → silent q j ≡ x.silent q j) →
      (silent r (kind_of m) ≡ true → fate ≡ Lose) → (fate ≡ Lose → ⊥) → IsNotLost x r m
  not_lost x silent r (Ask i b) fate same lost not = tt
  not_lost x silent r (Promise q i b a) fate same lost not = tt
  not_lost x silent r (Nack q i b) fate same lost not = tt
  not_lost x silent r (Put i b v) fate same lost not = λ present. sym (same r kind.Put) ∙ go (silent r kind.Put) refl
    where
      go : (t : Bool) → silent r kind.Put ≡ t → silent r kind.Put ≡ false
      go true e = absurd (not (lost e))
      go false e = e
  not_lost x silent r (Ack q i b) fate same lost not = λ present. sym (same r kind.Ack) ∙ go (silent r kind.Ack) refl
    where
      go : (t : Bool) → silent r kind.Ack ≡ t → silent r kind.Ack ≡ false
      go true e = absurd (not (lost e))
      go false e = e

  -- the weather moves alone: a message was lost, or is still to be delivered
  abbrev pub with_weather : Scene V → StoreWeather → Scene V
  with_weather s air = record s { weather = air }

  pub weather_goes : (s : Scene V) (air : StoreWeather) → ((q : ℕ) → s.weather.bad q ≤ air.bad q) →
      ((q : ℕ) (j : MessageKind) → air.silent q j ≡ s.weather.silent q j) →
      Goes (λ x. ⊤) s (with_weather s air)
  weather_goes s air rises same = record {
    sound = λ x h k. record {
      rests = h.rests;
      last = h.last;
      here = h.here;
      silent =
          λ q j. same q j ∙ h.silent q j;
      proposer = h.proposer;
    };
    grows = grows-refl s.proposing;
    rises = rises;
    store = refl;
    count = refl;
    votes = λ r i h. h;
    within = λ h. h;
  }

  -- a letter is held, perhaps, and its message comes to the proposer, perhaps
  abbrev pub with_letter : Scene V → Slab (Letter V) → Proposing V → Scene V
  with_letter s held p = record s { held = held; proposing = p }

  pub letter_goes : (s : Scene V) (held : Slab (Letter V)) (p : Proposing V) (l : Letter V) → GainsAtMost s.held held l →
      (slab_len s.held ≤ MOST_HELD → slab_len held ≤ MOST_HELD) → Came l.message s.proposing p →
      Goes (λ x. LetterOk x s.count s.kept l) s (with_letter s held p)
  letter_goes s held p l gains within came = record {
    sound = λ x h ok. record {
      rests = record {
        tops = h.rests.tops;
        numbered = h.rests.numbered;
        standings = h.rests.standings;
        letters = λ key other there. elim (gains key other there) [
          | inl old ↦ h.rests.letters key other old
          | inr same ↦ subst (λ l. LetterOk x s.count s.kept l) (sym same) ok
        ];
        settled = h.rests.settled;
      };
      last = h.last;
      here = h.here;
      silent = h.silent;
      proposer = came.sound x s.count s.kept l.replica h.proposer ok.sent ok.not_lost;
    };
    grows = came.grows;
    rises = λ r. omega arith;
    store = refl;
    count = refl;
    votes = λ r i h. h;
    within = within;
  }

  -- a message comes to a replica
  abbrev pub with_replicas : Scene V → ℕ → (ℕ → ℕ) → (ℕ → ℕ → Standing V) → Scene V
  with_replicas s count numbers kept = record s { count = count; numbers = numbers; kept = kept }

  pub moved_goes : (s : Scene V) (count : ℕ) (numbers : ℕ → ℕ) (kept : ℕ → ℕ → Standing V) (r : ℕ) (m : Message V) →
      count ≡ s.count → ((q : ℕ) → numbers q ≡ s.numbers q) → ((q i : ℕ) → kept q i ≡ moved s.kept r m q i) →
      Goes (λ x. IsSent x s.kept r m) s (with_replicas s count numbers kept)
  moved_goes s count numbers kept r m e f g = record {
    sound = λ x h sent. record {
      rests = rests_same x s.count count s.numbers numbers (moved s.kept r m) kept s.held e f g
          (rests_moved x s.count s.numbers s.kept s.held r m sent h.rests);
      last = h.last;
      here = h.here;
      silent = h.silent;
      proposer = proposer_same x s.count count (moved s.kept r m) kept s.proposing e g
          (proposer_moved x s.count s.kept r m s.proposing h.rests.standings sent h.proposer);
    };
    grows = grows-refl s.proposing;
    rises = λ r. omega arith;
    store = refl;
    count = e;
    votes = λ q i h. subst (λ (t : Standing V). IsSome t.accepted) (sym (g q i)) (moved_votes s.kept r m q i h);
    within = λ h. h;
  }

  pub kept_goes : (s : Scene V) (count : ℕ) (numbers : ℕ → ℕ) (kept : ℕ → ℕ → Standing V) →
      count ≡ s.count → ((q : ℕ) → numbers q ≡ s.numbers q) → ((q i : ℕ) → kept q i ≡ s.kept q i) →
      Goes (λ x. ⊤) s (with_replicas s count numbers kept)
  kept_goes s count numbers kept e f g = record {
    sound = λ x h given. record {
      rests = rests_same x s.count count s.numbers numbers s.kept kept s.held e f g h.rests;
      last = h.last;
      here = h.here;
      silent = h.silent;
      proposer = proposer_same x s.count count s.kept kept s.proposing e g h.proposer;
    };
    grows = grows-refl s.proposing;
    rises = λ r. omega arith;
    store = refl;
    count = e;
    votes = λ q i h. subst (λ (t : Standing V). IsSome t.accepted) (sym (g q i)) h;
    within = λ h. h;
  }

  -- an answer whose fate is to be lost
  pub lost_goes : (s : Scene V) (G : Attempt V → Type 0) (air : StoreWeather) (r : ℕ) (k : MessageKind) (fate : Fate) →
      Met s.weather air r k fate → Goes G s (with_weather s air)
  lost_goes s G air r k fate met =
      goes-weaken (λ x. ⊤) G s (with_weather s air) (weather_goes s air met.rises met.same_silence) (λ x h k. tt)

  -- one whose fate is another
  pub answer_goes : (s : Scene V) (air : StoreWeather) (held : Slab (Letter V)) (p : Proposing V) (l : Letter V) (fate : Fate) →
      Met s.weather air l.replica (kind_of l.message) fate → (fate ≡ Lose → ⊥) →
      GainsAtMost s.held held l → (slab_len s.held ≤ MOST_HELD → slab_len held ≤ MOST_HELD) → Came l.message s.proposing p →
      Goes (λ x. (l.replica < s.count) × IsSent x s.kept l.replica l.message) s (with_letter (with_weather s air) held p)
  answer_goes s air held p l fate met not gains within came =
      let mid = with_weather s air in
      goes-trans (λ x. (l.replica < s.count) × IsSent x s.kept l.replica l.message) (λ x. LetterOk x s.count s.kept l) s mid
      (with_letter mid held p)
      (lost_goes s (λ x. (l.replica < s.count) × IsSent x s.kept l.replica l.message) air l.replica (kind_of l.message) fate
      met)
      (letter_goes mid held p l gains within came)
      (λ x h there given. record {
        replica = given.0;
        sent = given.1;
        not_lost =
            not_lost x s.weather.silent l.replica l.message fate h.silent met.lost not;
      })

  -- an answer that came tells
  pub told_tells : (s : Scene V) (air : StoreWeather) (p : Proposing V) (m : Message V) (r : ℕ) (k : MessageKind)
      (fate : Fate) →
      Met s.weather air r k fate → (IsAwaited s.proposing m → IsCounted p m) →
      Tells m r s (with_letter (with_weather s air) s.held p)
  told_tells s air p m r k fate met counted = record {
    counted = λ w. inl (counted w);
    calm = λ n w calm. (
      counted w,
      record {
        empty = calm.empty;
        fates =
            (draws_deliver n s.weather.to_come air.to_come fate calm.fates met.draws).1;
      },
    );
  }

  -- a replica has the message, and its answer was sent
  pub bring_goes : (s : Scene V) (count : ℕ) (numbers : ℕ → ℕ) (kept : ℕ → ℕ → Standing V) (r : ℕ) (m reply : Message V)
      (new : Scene V) →
      r < s.count → count ≡ s.count → ((q : ℕ) → numbers q ≡ s.numbers q) → ((q i : ℕ) → kept q i ≡ moved s.kept r m q i) →
      answer (s.numbers r) (s.kept r) m ≡ Some reply →
      Goes (λ x. (r < count) × IsSent x kept r reply) (with_replicas s count numbers kept) new →
      Goes (λ x. IsSent x s.kept r m × IsNotLost x r m) s new
  bring_goes s count numbers kept r m reply new lt e f g is then =
      let mid = with_replicas s count numbers kept in
      goes-trans (λ x. IsSent x s.kept r m × IsNotLost x r m) (λ x. (r < count) × IsSent x kept r reply) s mid new
      (goes-weaken (λ x. IsSent x s.kept r m) (λ x. IsSent x s.kept r m × IsNotLost x r m) s mid
      (moved_goes s count numbers kept r m e f g) (λ x h given. given.0))
      then
      (λ x h there given.
      let same_kept : kept ≡ moved s.kept r m = fun_ext (λ q. fun_ext (g q)) in
      let number : s.numbers r ≡ r = h.rests.numbered r lt in
      let answered : answer r (s.kept r) m ≡ Some reply = subst (λ n. answer n (s.kept r) m ≡ Some reply) number is in (
        subst (λ c. r < c) (sym e) lt,
        subst (λ k. IsSent x k r reply) (sym same_kept) (reply_sent x s.kept r m reply h.here h.rests.tops h.rests.standings
            given.0 given.1 answered),
      ))

  pub bring_reaches : (s : Scene V) (count : ℕ) (numbers : ℕ → ℕ) (kept : ℕ → ℕ → Standing V) (r : ℕ) (m reply : Message V)
      (new : Scene V) →
      r < s.count → answer (s.numbers r) (s.kept r) m ≡ Some reply → Tells reply r (with_replicas s count numbers kept) new →
      Reaches 1 m r s new
  bring_reaches s count numbers kept r m reply new lt is tells =
      let awaits : (x : Attempt V) → Stands x s → IsFresh x s.proposing m →
      IsAwaited s.proposing reply × ((q : Proposing V) → IsCounted q reply → IsMarked m q r) = λ x h fresh.
      let number : s.numbers r ≡ r = h.rests.numbered r lt in
      let answered : answer r (s.kept r) m ≡ Some reply = subst (λ n. answer n (s.kept r) m ≡ Some reply) number is in
      reply_awaited x s.count s.kept s.proposing r m reply lt h.last (h.rests.standings r (index_of m)) h.proposer fresh
      answered in
      record {
        marked = λ x h fresh. let w = awaits x h fresh in
            elim (tells.counted w.0) [ inl k ↦ inl (w.1 new.proposing k) | inr rose ↦ inr rose ];
        calm = λ x n h fresh calm. let w = awaits x h fresh in let k =
            tells.calm n w.0 (record { empty = calm.empty; fates = calm.fates }) in (w.1 new.proposing k.0, k.1);
      }

  -- a held message is taken, and comes to its receiver
  pub stray_goes : (s : Scene V) (air : StoreWeather) (held : Slab (Letter V)) (l : Letter V) (new : Scene V) →
      ((q : ℕ) → air.bad q ≡ s.weather.bad q) → ((q : ℕ) (j : MessageKind) → air.silent q j ≡ s.weather.silent q j) →
      (key : ℕ) → get s.held key ≡ Some l →
      ((key : ℕ) (l : Letter V) → get held key ≡ Some l → get s.held key ≡ Some l) → slab_len held ≤ slab_len s.held →
      Goes (λ x. IsSent x s.kept l.replica l.message × IsNotLost x l.replica l.message)
      (with_letter (with_weather s air) held s.proposing) new → Goes (λ x. ⊤) s new
  stray_goes s air held l new counts same key there others fewer then =
      let mid = with_letter (with_weather s air) held s.proposing in
      let first : Goes (λ x. ⊤) s mid = record {
        sound = λ x h k. record {
          rests = record {
            tops = h.rests.tops;
            numbered = h.rests.numbered;
            standings = h.rests.standings;
            letters =
                λ key l k. h.rests.letters key l (others key l k);
            settled = h.rests.settled;
          };
          last = h.last;
          here = h.here;
          silent = λ q j. same q j ∙ h.silent q j;
          proposer = h.proposer;
        };
        grows = grows-refl s.proposing;
        rises = λ q. let k = counts q in omega arith;
        store = refl;
        count = refl;
        votes = λ r i h. h;
        within = λ le. omega arith;
      } in
      goes-trans (λ x. ⊤) (λ x. IsSent x s.kept l.replica l.message × IsNotLost x l.replica l.message) s mid new first then
      (λ x h k given. let ok = h.rests.letters key l there in (ok.sent, ok.not_lost))

  pub told_goes : (s : Scene V) (p : Proposing V) (r : ℕ) (m : Message V) → Came m s.proposing p →
      Goes (λ x. IsSent x s.kept r m × IsNotLost x r m) s (record s { proposing = p })
  told_goes s p r m came = record {
    sound = λ x h given. record {
      rests = h.rests;
      last = h.last;
      here = h.here;
      silent = h.silent;
      proposer =
          came.sound x s.count s.kept r h.proposer given.0 given.1;
    };
    grows = came.grows;
    rises = λ q. omega arith;
    store = refl;
    count = refl;
    votes = λ r i h. h;
    within = λ h. h;
  }

  pub goes-refl : (G : Attempt V → Type 0) (s : Scene V) → Goes G s s
  goes-refl G s = record {
    sound = λ x h k. h;
    grows = grows-refl s.proposing;
    rises = λ q. omega arith;
    store = refl;
    count =
        refl;
    votes = λ r i h. h;
    within = λ h. h;
  }

  -- the attempt's own message is one that may be sent
  pub fresh_sent : (x : Attempt V) (s : Scene V) (kept : ℕ → ℕ → Standing V) (r : ℕ) (m : Message V) → Stands x s →
      IsFreshOf x m → IsSent x kept r m
  fresh_sent x s kept r (Promise q i b a) h fresh = absurd fresh
  fresh_sent x s kept r (Ack q i b) h fresh = absurd fresh
  fresh_sent x s kept r (Nack q i b) h fresh = absurd fresh
  fresh_sent x s kept r (Ask i b) h fresh = let under = ap (λ b. rank b) fresh.1 in let last =
      ap (λ k. rank (ballot_of k)) h.last in omega arith
  fresh_sent x s kept r (Put i b v) h fresh =
      let round : b.round ≡ x.round = ap (λ b. b.round) fresh.1 in
      let top : x.tops i ≡ x.round = ap x.tops fresh.0 ∙ h.here in
      record { ballot = fresh.1 ∙ ap ballot_of (sym round); top = omega arith; command = fresh.2 }

  -- a message of the attempt came to a replica
  pub fresh_goes : (s new : Scene V) (r : ℕ) (m : Message V) (fate : Fate) →
      (s.weather.silent r (kind_of m) ≡ true → fate ≡ Lose) → (fate ≡ Lose → ⊥) →
      Goes (λ x. IsSent x s.kept r m × IsNotLost x r m) s new → Goes (λ x. IsFreshOf x m) s new
  fresh_goes s new r m fate lost not then =
      goes-weaken (λ x. IsSent x s.kept r m × IsNotLost x r m) (λ x. IsFreshOf x m) s new then
      (λ x h fresh. (fresh_sent x s s.kept r m h fresh, not_lost x s.weather.silent r m fate h.silent lost not))

  -- its fate first
  pub sent_goes : (s : Scene V) (air : StoreWeather) (new : Scene V) (r : ℕ) (m : Message V) (fate : Fate) →
      Met s.weather air r (kind_of m) fate → (fate ≡ Lose → ⊥) →
      Goes (λ x. IsSent x s.kept r m × IsNotLost x r m) (with_weather s air) new → Goes (λ x. IsFreshOf x m) s new
  sent_goes s air new r m fate met not then =
      let mid = with_weather s air in
      goes-trans (λ x. IsFreshOf x m) (λ x. IsFreshOf x m) s mid new
      (lost_goes s (λ x. IsFreshOf x m) air r (kind_of m) fate met)
      (fresh_goes mid new r m fate (λ e. met.lost (sym (met.same_silence r (kind_of m)) ∙ e)) not then)
      (λ x h k given. given)

  -- it came twice
  pub twice_goes : (s : Scene V) (air : StoreWeather) (twice new : Scene V) (r : ℕ) (m : Message V) (fate : Fate) →
      Met s.weather air r (kind_of m) fate → (fate ≡ Lose → ⊥) →
      Goes (λ x. IsSent x s.kept r m × IsNotLost x r m) (with_weather s air) twice →
      Goes (λ x. IsSent x twice.kept r m × IsNotLost x r m) twice new → Goes (λ x. IsFreshOf x m) s new
  twice_goes s air twice new r m fate met not first second =
      let mid = with_weather s air in
      let both : Goes (λ x. IsFreshOf x m × IsNotLost x r m) mid new =
      goes-trans (λ x. IsFreshOf x m × IsNotLost x r m) (λ x. IsFreshOf x m × IsNotLost x r m) mid twice new
      (goes-weaken (λ x. IsSent x s.kept r m × IsNotLost x r m) (λ x. IsFreshOf x m × IsNotLost x r m) mid twice first
      (λ x h k. (fresh_sent x mid s.kept r m h k.0, k.1)))
      (goes-weaken (λ x. IsSent x twice.kept r m × IsNotLost x r m) (λ x. IsFreshOf x m × IsNotLost x r m) twice new second
      (λ x h k. (fresh_sent x twice twice.kept r m h k.0, k.1)))
      (λ x h k given. given) in
      goes-trans (λ x. IsFreshOf x m) (λ x. IsFreshOf x m × IsNotLost x r m) s mid new
      (lost_goes s (λ x. IsFreshOf x m) air r (kind_of m) fate met) both
      (λ x h k given. (given, not_lost x s.weather.silent r m fate h.silent met.lost not))

  -- it is held
  pub held_goes : (s : Scene V) (air : StoreWeather) (held : Slab (Letter V)) (l : Letter V) (fate : Fate) →
      Met s.weather air l.replica (kind_of l.message) fate → (fate ≡ Lose → ⊥) → l.replica < s.count →
      GainsAtMost s.held held l → (slab_len s.held ≤ MOST_HELD → slab_len held ≤ MOST_HELD) →
      Goes (λ x. IsFreshOf x l.message) s (with_letter (with_weather s air) held s.proposing)
  held_goes s air held l fate met not lt gains within =
      goes-weaken (λ x. (l.replica < s.count) × IsSent x s.kept l.replica l.message) (λ x. IsFreshOf x l.message) s
      (with_letter (with_weather s air) held s.proposing)
      (answer_goes s air held s.proposing l fate met not gains within (came-refl l.message s.proposing))
      (λ x h fresh. (lt, fresh_sent x s s.kept l.replica l.message h fresh))

  pub marked_grows : (m : Message V) (p q : Proposing V) (r : ℕ) → Grows p q → IsMarked m p r → IsMarked m q r
  marked_grows (Ask i b) p q r g h = elim h [ inl k ↦ inl (g.promised k) | inr k ↦ inr (g.heard r k) ]
  marked_grows (Put i b v) p q r g h = g.acked r h
  marked_grows (Promise s i b a) p q r g h = tt
  marked_grows (Ack s i b) p q r g h = tt
  marked_grows (Nack s i b) p q r g h = tt

  pub in_turn_grows : (m : Message V) (p q : Proposing V) → Grows p q → IsInTurn p m → IsInTurn q m
  in_turn_grows (Ask i b) p q g h = tt
  in_turn_grows (Put i b v) p q g h = g.promised h
  in_turn_grows (Promise s i b a) p q g h = tt
  in_turn_grows (Ack s i b) p q g h = tt
  in_turn_grows (Nack s i b) p q g h = tt

  fresh_grows : (x : Attempt V) (m : Message V) (p q : Proposing V) → Grows p q → IsFresh x p m → IsFresh x q m
  fresh_grows x m p q g h = record { of = h.of; in_turn = in_turn_grows m p q g h.in_turn }

  -- a held message came before
  pub after_stray : (G : Attempt V → Type 0) (m : Message V) (r : ℕ) (old mid new : Scene V) → Goes (λ x. ⊤) old mid →
      (slab_len old.held ≡ 0 → (slab_len mid.held ≡ 0) × (mid.weather.to_come ≡ old.weather.to_come)) → Reaches 2 m r mid new →
      Reaches 2 m r old new
  after_stray G m r old mid new goes idle reaches = record {
    marked = λ x h fresh. elim
        (reaches.marked x (goes.sound x h tt) (fresh_grows x m old.proposing mid.proposing goes.grows fresh)) [
          | inl k ↦ inl k
          | inr rose ↦ inr (rose_after (old.weather.bad r) (mid.weather.bad r) (new.weather.bad r) (goes.rises r) rose)
        ];
    calm = λ x n h fresh calm.
        let k = idle calm.empty in
        reaches.calm x n (goes.sound x h tt) (fresh_grows x m old.proposing mid.proposing goes.grows fresh)
        (record { empty = k.0; fates = subst (λ f. Delivers (2 + n) f) (sym k.1) calm.fates });
  }

  -- its fate is a bad one
  pub bad_reaches : (s : Scene V) (air : StoreWeather) (new : Scene V) (m : Message V) (r : ℕ) (k : MessageKind) (fate : Fate) →
      Met s.weather air r k fate → IsTrue (is_bad fate) → (fate ≡ Deliver → ⊥) → air.bad r ≤ new.weather.bad r →
      Reaches 2 m r s new
  bad_reaches s air new m r k fate met is_bad not le = record {
    marked = λ x h fresh. inr (rose_before (s.weather.bad r) (air.bad r) (new.weather.bad r) (met.rose is_bad) le);
    calm = λ x n h fresh calm.
        let more : 2 + n ≡ 1 + (1 + n) = omega arith in
        absurd (not (draws_deliver (1 + n) s.weather.to_come air.to_come fate
        (subst (λ n. Delivers n s.weather.to_come) more calm.fates) met.draws).0);
  }

  -- it comes to the replica
  pub good_reaches : (s : Scene V) (air : StoreWeather) (new : Scene V) (m : Message V) (r : ℕ) (k : MessageKind)
      (fate : Fate) →
      Met s.weather air r k fate → Reaches 1 m r (with_weather s air) new → Reaches 2 m r s new
  good_reaches s air new m r k fate met reaches = record {
    marked = λ x h fresh. elim (reaches.marked x (stands x h) fresh) [
      | inl k ↦ inl k
      | inr rose ↦ inr (rose_after (s.weather.bad r) (air.bad r) (new.weather.bad r) (met.rises r) rose)
    ];
    calm = λ x n h fresh calm.
        let more : 2 + n ≡ 1 + (1 + n) = omega arith in
        reaches.calm x n (stands x h) fresh (record {
          empty = calm.empty;
          fates =
              (draws_deliver (1 + n) s.weather.to_come air.to_come fate
              (subst (λ n. Delivers n s.weather.to_come) more calm.fates) met.draws).1;
        });
  }
    where
      stands : (x : Attempt V) → Stands x s → Stands x (with_weather s air)
      stands x h = (weather_goes s air met.rises met.same_silence).sound x h tt

  -- it comes twice
  pub twice_reaches : (s mid new : Scene V) (air : StoreWeather) (G : Attempt V →
      Type 0) (m : Message V) (r : ℕ) (k : MessageKind) (fate : Fate) →
      Met s.weather air r k fate → (fate ≡ Deliver → ⊥) → Reaches 1 m r (with_weather s air) mid → Goes G mid new →
      Reaches 2 m r s new
  twice_reaches s mid new air G m r k fate met not reaches goes = record {
    marked = λ x h fresh. elim ((good_reaches s air mid m r k fate met reaches).marked x h fresh) [
      | inl k ↦ inl (marked_grows m mid.proposing new.proposing r goes.grows k)
      | inr rose ↦ inr (rose_before (s.weather.bad r) (mid.weather.bad r) (new.weather.bad r) rose (goes.rises r))
    ];
    calm = λ x n h fresh calm.
        let more : 2 + n ≡ 1 + (1 + n) = omega arith in
        absurd (not (draws_deliver (1 + n) s.weather.to_come air.to_come fate
        (subst (λ n. Delivers n s.weather.to_come) more calm.fates) met.draws).0);
  }

  -- one replica more
  pub reaches_next : (k : ℕ) (m : Message V) (old mid new : Scene V) → Goes (λ x. IsFreshOf x m) old mid →
      Goes (λ x. IsFreshOf x m) mid new → ReachesBelow k m old mid → Reaches 2 m k mid new → ReachesBelow (k + 1) m old new
  reaches_next k m old mid new before then below here = record {
    marked = λ x h fresh r lt. elim (below_or r lt) [
      | inl less ↦ elim (below.marked x h fresh r less) [
        | inl marked ↦ inl (marked_grows m mid.proposing new.proposing r then.grows marked)
        | inr rose ↦ inr (rose_before (old.weather.bad r) (mid.weather.bad r) (new.weather.bad r) rose (then.rises r))
      ]
      | inr same ↦ subst (λ r. IsMarked m new.proposing r ⊎ Rose (old.weather.bad r) (new.weather.bad r)) (sym same)
          (elim (here.marked x (before.sound x h fresh.of) (fresh_grows x m old.proposing mid.proposing before.grows fresh)) [
            | inl marked ↦ inl marked
            | inr rose ↦ inr (rose_after (old.weather.bad k) (mid.weather.bad k) (new.weather.bad k) (before.rises k) rose)
          ])
    ];
    calm = λ x n h fresh calm.
        let more : 2 * (k + 1) + n ≡ 2 * k + (2 + n) = omega arith in
        let first = below.calm x (2 + n) h fresh (record {
          empty = calm.empty;
          fates =
              subst (λ n. Delivers n old.weather.to_come) more calm.fates;
        }) in
        let second = here.calm x n (before.sound x h fresh.of) (fresh_grows x m old.proposing mid.proposing before.grows fresh)
        first.1 in (
          λ r lt. elim (below_or r lt) [
            | inl less ↦ marked_grows m mid.proposing new.proposing r then.grows (first.0 r less)
            | inr same ↦ subst (λ r. IsMarked m new.proposing r) (sym same) second.0
          ],
          second.1,
        );
  }
    where
      below_or : (r : ℕ) → r < k + 1 → (r < k) ⊎ (r ≡ k)
      below_or r lt = go (nat_lt r k) refl
        where
          go : (t : Bool) → nat_lt r k ≡ t → (r < k) ⊎ (r ≡ k)
          go true e = inl (grind (arith, nat_tests))
          go false e = inr (grind (arith, nat_tests))

  pub reaches_none : (m : Message V) (s : Scene V) → ReachesBelow 0 m s s
  reaches_none m s = record {
    marked = λ x h fresh r lt. absurd (omega arith);
    calm = λ x n h fresh calm. let same : 2 * 0 + n ≡ n = omega arith in (
      λ r lt. absurd (omega arith),
      record {
        empty = calm.empty;
        fates =
            subst (λ n. Delivers n s.weather.to_come) same calm.fates;
      },
    );
  }
