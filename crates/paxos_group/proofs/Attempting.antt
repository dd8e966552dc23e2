-- What an attempt leaves, two in a row, and none.
use Rattle.std.proofs.Common.{◌≡◌, ℕ, ◌+◌, ◌*◌, ◌<◌, ◌≤◌, true, List, [], ◌∷◌, ◌++◌, length, arith, subst, refl, sym, ◌∙◌, ap}
use Rattle.std.proofs.Common.{length-append}
use Rattle.std.specs.Prelude.{slice_get, Option, Some, None, option_map, Result, Ok, Err, OnOk, IfErr, IsSome}
use Rattle.slab.specs.Slab.{slab_len}
use Rattle.nfs3_types.specs.Count.{Rose}
use Rattle.outside.specs.Weather.{WeatherTold}
use Rattle.paxos_core.specs.declared.ballot.Ballot.{Ballot}
use Rattle.paxos_core.specs.declared.acceptor.Acceptor.{Acceptor}
use Rattle.paxos_core.specs.declared.proposer.Stage.TheVariants.{Chosen}
use Rattle.paxos_core.specs.Acceptor.{standing_of}
use Rattle.paxos_core.specs.Majority.{IsMajority}
use Rattle.paxos_core.specs.Proposing.{Proposing, stage_of}
use Rattle.paxos_core.proofs.MajorityLemmas.{IsMajority-map}
use Rattle.paxos_group.specs.declared.fault.GroupFault.{GroupFault}
use Rattle.paxos_group.specs.declared.fault.GroupFault.TheVariants as fault
use Rattle.paxos_group.specs.declared.net.Net.{Net}
use Rattle.paxos_group.specs.declared.net.TheConstants.{MOST_HELD}
use Rattle.paxos_group.specs.declared.parts.Parts.{Parts}
use Rattle.paxos_group.specs.Fates.{IsStill}
use Rattle.paxos_group.specs.Scene.{Scene, scene, kept_by, kept_at}
use Rattle.paxos_group.specs.Sound.{Attempt, ballot_of, IsProposed, StandingOk, Stands}
use Rattle.paxos_group.specs.Steps.{Goes, IsAt, Doubts, StaysCalm, Endures}
use Rattle.paxos_group.specs.Settling.{Settling, accepted_by, accepted_at, row_at, VoteStays}
use Rattle.paxos_group.specs.Moments.{Moment, moment, seen_of, Attempts}
use Rattle.paxos_group.proofs.Going.{rose_after, ok_map, on_ok_always}
use Rattle.paxos_group.proofs.Doubt.{if_err_map}
use Rattle.paxos_group.proofs.Attempts.{Begun, chosen_heard, doubt_majority, never_doubts, stays_still}
use Rattle.paxos_group.proofs.Stillness.{still_less, still_split}
use Rattle.paxos_group.proofs.Enduring.{endures_refl, endures_trans}
use Rattle.paxos_group.proofs.Groups.{get_each, get_map, seen}

module _ {V : Type 0} where
  -- votes stay, step by step
  pub stays-refl : (o : Option (Option (Ballot × V))) → VoteStays o o
  stays-refl (Some (Some y)) = (y.0, refl)
  stays-refl (Some None) = tt
  stays-refl None = tt

  pub stays-trans : (a b c : Option (Option (Ballot × V))) → VoteStays a b → VoteStays b c → VoteStays a c
  stays-trans (Some (Some y)) b c f g = subst (λ b. VoteStays b c) f.1 g
  stays-trans (Some None) b c f g = tt
  stays-trans None b c f g = tt

  stays_by : (x : Attempt V) (i : ℕ) (o now : Option (Ballot × V)) → IsProposed x i o → IsProposed x i now →
      (IsSome o → IsSome now) → VoteStays (Some o) (Some now)
  stays_by x i None now p q v = tt
  stays_by x i (Some y) None p q v = let clash = v refl in absurd (cc)
  stays_by x i (Some y) (Some z) p q v =
      let e : Some z.1 ≡ Some y.1 = sym q ∙ p in
      let same : z.1 ≡ y.1 = cc in
      (z.0, ap (λ v. Some (Some (z.0, v))) same)

  abbrev pub vote_by : ℕ → Option (Acceptor V) → Option (Option (Ballot × V))
  vote_by i o = option_map (λ a. (standing_of a i).accepted) o

  stays_at : (x : Attempt V) (i : ℕ) (o now : Option (Acceptor V)) → StandingOk x i (kept_by o i) →
      StandingOk x i (kept_by now i) →
      (IsSome (kept_by o i).accepted → IsSome (kept_by now i).accepted) → VoteStays (vote_by i o) (vote_by i now)
  stays_at x i None now f g v = tt
  stays_at x i (Some a) None f g v = go (standing_of a i).accepted v
    where
      go : (o : Option (Ballot × V)) → (IsSome o → IsSome (kept_by {V = V} None i).accepted) → VoteStays (Some o) None
      go None v = tt
      go (Some y) v = let clash = v refl in absurd (cc)
  stays_at x i (Some a) (Some b) f g v =
      stays_by x i (standing_of a i).accepted (standing_of b i).accepted f.proposed g.proposed v

  -- what a group shows at a settled index
  vote_shown : (replicas : ℕ) (net : Net V) (log : List V) (pending : Option V) (round i r : ℕ) → i < length log →
      accepted_at (seen replicas net log pending round) i r ≡ vote_by i (slice_get net.acceptors.items r)
  vote_shown replicas net log pending round i r lt =
      ap (λ o. row_at o r) (get_each (accepted_by net.acceptors.items) (length log) i lt)
      ∙ get_map (λ a. (standing_of a i).accepted) net.acceptors.items r

  vote_of : (p : Parts V) (i r : ℕ) → i < length p.log.items →
      accepted_at (seen_of p) i r ≡ vote_by i (slice_get p.net.acceptors.items r)
  vote_of p i r lt = vote_shown p.replicas p.net p.log.items p.pending p.round i r lt

  -- an attempt of these moments, that began so
  module _ {W : Type 0} (told : WeatherTold W) (before now : W) (p : Parts V) (net : Net V) (log : List V) (pending : Option V)
      (round : ℕ) (proposing proposed : Proposing V) (own : V) where
    -- the group afterwards
    abbrev pub left : Settling V
    left = seen p.replicas net log pending round

    abbrev pub first : Scene V
    first = scene told before p.net proposing

    abbrev pub last : Scene V
    last = scene told now net proposed

    abbrev pub Began : Type 0
    Began = (x : Attempt V) × Begun x first p.replicas p.log.items own p.round

    abbrev pub Went : Type 0
    Went = Goes (IsAt (length p.log.items) (ballot_of p.round)) first last

    votes_stay : Began → Went → length p.log.items ≤ length log → (i r : ℕ) → i < length p.log.items →
        VoteStays (accepted_at (seen_of p) i r) (accepted_at left i r)
    votes_stay b goes longer i r lt =
        let h = b.1.stands in
        let k = goes.sound b.0 h b.1.at in
        let stays : VoteStays (vote_by i (slice_get p.net.acceptors.items r)) (vote_by i (slice_get net.acceptors.items r)) =
        stays_at b.0 i (slice_get p.net.acceptors.items r) (slice_get net.acceptors.items r) (h.rests.standings r i)
        (k.rests.standings r i) (goes.votes r i) in
        subst (λ o. VoteStays o (accepted_at left i r)) (sym (vote_of p i r lt))
        (subst (λ o. VoteStays (vote_by i (slice_get p.net.acceptors.items r)) o)
        (sym (vote_shown p.replicas net log pending round i r (omega arith))) stays)

    -- it chose its command
    pub chosen_attempts : (u : Unit {0}) → Began → Went → stage_of proposed ≡ Chosen →
        StaysCalm (4 * p.replicas) (IsAt (length p.log.items) (ballot_of p.round)) first last →
        log ≡ p.log.items ++ own ∷ [] → Endures told before now →
        Attempts told 4 (moment (seen_of p) before) (moment left now) (Ok u)
    chosen_attempts u b goes chosen calm same endures = record {
      store = goes.store;
      replicas = refl;
      heard = chosen_heard b.0 first last (told.silent before) p.net.store p.replicas p.log.items own p.round b.1 goes chosen
          (λ r k. refl);
      doubt = tt;
      no_doubt = tt;
      calm = λ n still. stays_still b.0 first last p.replicas p.log.items own p.round n b.1 calm still;
      votes = votes_stay b goes (let len : length log ≡ length (p.log.items ++ own ∷ []) = ap length same in
          omega (arith, length-append p.log.items (own ∷ [])));
      held = goes.within b.1.within;
      endures = endures;
    }

    -- it is in doubt, or wanted memory
    pub failed_attempts : (why : GroupFault) → Began → Went →
        (why ≡ fault.Doubt → Doubts p.replicas (4 * p.replicas) (IsAt (length p.log.items) (ballot_of p.round)) first last) →
        log ≡ p.log.items → Endures told before now → Attempts told 4 (moment (seen_of p) before) (moment left now) (Err why)
    failed_attempts why b goes doubts same endures = record {
      store = goes.store;
      replicas = refl;
      heard = tt;
      doubt = λ is. subst (λ store. IsMajority p.replicas (λ r. Rose (told.bad before p.net.store r) (told.bad now store r)))
          goes.store
          (doubt_majority b.0 first last p.replicas p.log.items own p.round b.1 (doubts is));
      no_doubt = λ is n still. never_doubts b.0 first last p.replicas p.log.items own p.round n b.1 (doubts is) still;
      calm = tt;
      votes = votes_stay b goes (let len : length log ≡ length p.log.items = ap length same in omega arith);
      held = goes.within b.1.within;
      endures = endures;
    }

  module _ {W : Type 0} (told : WeatherTold W) (old new : Moment W V) (end : Result (Unit {0}) GroupFault) where
    -- one attempt is one of at most two
    pub attempts_more : Attempts told 4 old new end → Attempts told 8 old new end
    attempts_more f =
        let r = old.group.replicas in
        record {
          store = f.store;
          replicas = f.replicas;
          heard = f.heard;
          doubt = f.doubt;
          no_doubt = if_err_map end
              (λ why h is n still. h is (4 * r + n) (still_split old.group.held r n (told.to_come old.weather) still))
              f.no_doubt;
          calm = ok_map end (λ h n still. still_less new.group.held (4 * r + n) n (told.to_come new.weather) (omega arith)
              (h (4 * r + n) (still_split old.group.held r n (told.to_come old.weather) still))) f.calm;
          votes = f.votes;
          held = f.held;
          endures = f.endures;
        }

    -- one after another
    pub attempts_twice : (u : Unit {0}) (mid : Moment W V) → Attempts told 4 old mid (Ok u) → Attempts told 4 mid new end →
        length old.group.log ≤ length mid.group.log → Attempts told 8 old new end
    attempts_twice u mid f g longer =
        let r = old.group.replicas in
        let still_mid : (n : ℕ) → IsStill old.group.held (told.to_come old.weather) (8 * r + n) →
        IsStill mid.group.held (told.to_come mid.weather) (4 * mid.group.replicas + n) = λ n still.
        subst (λ q. IsStill mid.group.held (told.to_come mid.weather) (4 * q + n)) (sym f.replicas)
        (f.calm (4 * r + n) (still_split old.group.held r n (told.to_come old.weather) still)) in
        record {
          store = g.store ∙ f.store;
          replicas = g.replicas ∙ f.replicas;
          heard = on_ok_always end f.heard;
          doubt = if_err_map end (λ why h is.
              let rose = subst (λ n. IsMajority n
              (λ q. Rose (told.bad mid.weather old.group.store q) (told.bad new.weather old.group.store q))) f.replicas
              (subst (λ s. IsMajority mid.group.replicas (λ q. Rose (told.bad mid.weather s q) (told.bad new.weather s q)))
              f.store (h is)) in
              IsMajority-map r (λ q k. rose_after (told.bad old.weather old.group.store q)
              (told.bad mid.weather old.group.store q) (told.bad new.weather old.group.store q)
              (f.endures.never_falls old.group.store q) k) rose) g.doubt;
          no_doubt = if_err_map end (λ why h is n still. h is n (still_mid n still)) g.no_doubt;
          calm = ok_map end (λ h n still. h n (still_mid n still)) g.calm;
          votes = λ i q lt. stays-trans (accepted_at old.group i q) (accepted_at mid.group i q) (accepted_at new.group i q)
              (f.votes i q lt) (g.votes i q (omega arith));
          held = g.held;
          endures = endures_trans told old.weather mid.weather new.weather f.endures g.endures;
        }

  module _ {W : Type 0} (told : WeatherTold W) (n : ℕ) (w : W) (new : Moment W V) (end : Result (Unit {0}) GroupFault) where
    other_pending : (s : Settling V) (pending : Option V) (round : ℕ) → Attempts told n (moment s w) new end →
        Attempts told n (moment (record s { pending = pending; round = round }) w) new end
    other_pending s pending round h = record {
      store = h.store;
      replicas = h.replicas;
      heard = h.heard;
      doubt = h.doubt;
      no_doubt = h.no_doubt;
      calm = h.calm;
      votes = h.votes;
      held = h.held;
      endures = h.endures;
    }

    -- the pending command and the round matter to none
    pub attempts_same : (p q : Parts V) (pending : Option V) (round : ℕ) → q.net ≡ p.net → q.replicas ≡ p.replicas →
        q.log.items ≡ p.log.items →
        Attempts told n (moment (record (seen_of q) { pending = pending; round = round }) w) new end →
        Attempts told n (moment (seen_of p) w) new end
    attempts_same p q pending round nets replicas logs h =
        let k = other_pending (record (seen_of q) { pending = pending; round = round }) p.pending p.round h in
        let a = subst (λ l. Attempts told n (moment (seen q.replicas q.net l p.pending p.round) w) new end) logs k in
        let b = subst (λ r. Attempts told n (moment (seen r q.net p.log.items p.pending p.round) w) new end) replicas a in
        subst (λ net. Attempts told n (moment (seen p.replicas net p.log.items p.pending p.round) w) new end) nets b
