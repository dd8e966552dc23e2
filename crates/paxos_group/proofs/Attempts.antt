-- How an attempt begins and ends.
use Rattle.std.proofs.Common.{◌≡◌, ℕ, zero, suc, ◌+◌, ◌*◌, ◌<◌, ◌≤◌, Bool, true, false, List, [], ◌∷◌, ◌++◌, length, ◌⊎◌, inl}
use Rattle.std.proofs.Common.{inr, arith, subst, refl, sym, ◌∙◌, ap, length-append}
use Rattle.std.specs.Prelude.{slice_get, Option, Some, None, ◌==◌, nat_lt, if◌then◌else◌}
use Rattle.std.proofs.lemmas.Bool.Decides.{nat_tests}
use Rattle.std.proofs.lemmas.List.{length-replicate, append-nil}
use Rattle.slab.specs.Slab.{Slab, slab_len}
use Rattle.outside.specs.declared.weather.MessageKind.{MessageKind}
use Rattle.outside.specs.declared.weather.MessageKind.TheVariants as kind
use Rattle.nfs3_types.specs.Count.{Rose}
use Rattle.outside.specs.Weather.{is_heard}
use Rattle.paxos_core.specs.declared.ballot.Ballot.{Ballot}
use Rattle.paxos_core.specs.declared.message.Message.{Message}
use Rattle.paxos_core.specs.declared.message.Message.TheVariants.{Ask, Promise, Put, Ack, Nack}
use Rattle.paxos_core.specs.declared.acceptor.Standing.{Standing}
use Rattle.paxos_core.specs.declared.proposer.Stage.TheVariants.{Chosen}
use Rattle.paxos_core.specs.Ballot.{rank}
use Rattle.paxos_core.specs.Majority.{IsMajority}
use Rattle.paxos_core.specs.Proposing.{begins, stage_of}
use Rattle.paxos_core.proofs.MajorityLemmas.{IsMajority-map, none_at_first}
use Rattle.paxos_group.specs.declared.letter.Letter.{Letter}
use Rattle.paxos_group.specs.declared.net.Net.{Net}
use Rattle.paxos_group.specs.declared.net.TheConstants.{MOST_HELD}
use Rattle.paxos_group.specs.Fates.{IsStill}
use Rattle.paxos_group.specs.Scene.{Scene, kept_at, number_at}
use Rattle.paxos_group.specs.Sound.{Attempt, ballot_of, IsReached, IsPresent, IsProposed, IsSent, IsNotLost, Keeps, PutOk}
use Rattle.paxos_group.specs.Sound.{ProposerOk, Rests, Stands}
use Rattle.paxos_group.specs.Steps.{Goes, IsAt, Doubts, StaysCalm, IsGroupSize}
use Rattle.paxos_group.specs.Formed.{IsFormed, list_of}
use Rattle.paxos_group.proofs.Doubt.{chosen_means}

pub get_append : {X : Type 0} (xs ys : List X) (i : ℕ) (v : X) → slice_get xs i ≡ Some v → slice_get (xs ++ ys) i ≡ Some v
get_append [] ys i v h = let k : None ≡ Some v = h in absurd (cc)
get_append (x ∷ xs) ys zero v h = h
get_append (x ∷ xs) ys (suc i) v h = get_append xs ys i v h

pub get_last : {X : Type 0} (xs : List X) (v : X) → slice_get (xs ++ v ∷ []) (length xs) ≡ Some v
get_last [] v = refl
get_last (x ∷ xs) v = get_last xs v

module _ {V : Type 0} where
  -- what an attempt inherits from an earlier one of fewer commands and earlier rounds
  pub record Follows (x y : Attempt V) : Type 0 where
    pub last : x.last ≤ y.last
    pub earlier : x.last < y.round
    pub commands : (i : ℕ) (v : V) → slice_get x.commands i ≡ Some v → slice_get y.commands i ≡ Some v
    pub tops : (i : ℕ) → x.tops i ≤ y.tops i
    pub bound : (i : ℕ) → y.tops i ≤ y.last

  reached_along : (x y : Attempt V) (b : Ballot) → Follows x y → IsReached x b → IsReached y b
  reached_along x y b f h = let le = f.last in omega arith

  proposed_along : (x y : Attempt V) (i : ℕ) (accepted : Option (Ballot × V)) → Follows x y → IsProposed x i accepted →
      IsProposed y i accepted
  proposed_along x y i None f h = tt
  proposed_along x y i (Some a) f h = f.commands i a.1 h

  -- no earlier message is of the attempt
  not_present : (x y : Attempt V) (i : ℕ) (b : Ballot) → Follows x y → IsReached x b → IsPresent y i b → ⊥
  not_present x y i b f h present = let lt = f.earlier in let same = present.1 in omega arith

  put_reached : (x : Attempt V) (i : ℕ) (b : Ballot) (v : V) → ((i : ℕ) → x.tops i ≤ x.last) → PutOk x i b v → IsReached x b
  put_reached x i b v tops h = let is : rank b ≡ rank (ballot_of b.round) = ap (λ b. rank b) h.ballot in let top = h.top in
      let most = tops i in omega arith

  sent_follows : (x y : Attempt V) (kept : ℕ → ℕ → Standing V) (r : ℕ) (m : Message V) → Follows x y → IsSent x kept r m →
      IsSent y kept r m
  sent_follows x y kept r (Ask i b) f h = reached_along x y b f h
  sent_follows x y kept r (Promise q i b a) f h = record {
    from = h.from;
    reached = reached_along x y b f h.reached;
    proposed =
        proposed_along x y i a f h.proposed;
  }
  sent_follows x y kept r (Put i b v) f h = let a = h.top in let c = f.tops i in
      record { ballot = h.ballot; top = omega arith; command = f.commands i v h.command }
  sent_follows x y kept r (Ack q i b) f h = record {
    from = h.from;
    reached = reached_along x y b f h.reached;
    keeps = λ present. absurd (not_present x y i b f h.reached present);
    put = λ present. absurd (not_present x y i b f h.reached present);
  }
  sent_follows x y kept r (Nack q i b) f h = tt

  not_lost_follows : (x y : Attempt V) (kept : ℕ → ℕ → Standing V) (r : ℕ) (m : Message V) → ((i : ℕ) → x.tops i ≤ x.last) →
      Follows x y → IsSent x kept r m → IsNotLost y r m
  not_lost_follows x y kept r (Ask i b) tops f h = tt
  not_lost_follows x y kept r (Promise q i b a) tops f h = tt
  not_lost_follows x y kept r (Nack q i b) tops f h = tt
  not_lost_follows x y kept r (Put i b v) tops f h =
      λ present. absurd (not_present x y i b f (put_reached x i b v tops h) present)
  not_lost_follows x y kept r (Ack q i b) tops f h = λ present. absurd (not_present x y i b f h.reached present)

  pub rests_follows : (x y : Attempt V) (count : ℕ) (numbers : ℕ → ℕ) (kept : ℕ → ℕ → Standing V) (held : Slab (Letter V)) →
      Follows x y →
      ((i : ℕ) → i < y.index → IsMajority count (λ r. Keeps y kept r i)) → Rests x count numbers kept held →
      Rests y count numbers kept held
  rests_follows x y count numbers kept held f settled h = record {
    tops = f.bound;
    numbered = h.numbered;
    standings = λ r i. let s = h.standings r i in
        record {
          promised = reached_along x y (kept r i).promised f s.promised;
          within = s.within;
          proposed =
              proposed_along x y i (kept r i).accepted f s.proposed;
        };
    letters = λ key l there. let ok = h.letters key l there in
        record {
          replica = ok.replica;
          sent = sent_follows x y kept l.replica l.message f ok.sent;
          not_lost =
              not_lost_follows x y kept l.replica l.message h.tops f ok.sent;
        };
    settled = settled;
  }

  -- the next attempt, to settle this command
  abbrev pub next : Attempt V → List V → V → (ℕ → MessageKind → Bool) → Attempt V
  next x log own silent = record {
    index = x.index;
    round = x.round;
    last = x.round;
    commands = log ++ own ∷ [];
    tops = λ i. if i == x.index then x.round else x.tops i;
    silent = silent;
  }

  -- an attempt that begins, as its parts see it
  pub record Begun (x : Attempt V) (s : Scene V) (replicas : ℕ) (log : List V) (own : V) (round : ℕ) : Type 0 where
    pub stands : Stands x s
    pub at : IsAt (length log) (ballot_of round) x
    pub index : x.index ≡ length log
    pub is_next : x.round ≡ round
    pub commands : x.commands ≡ log ++ own ∷ []
    pub silent : (r : ℕ) (k : MessageKind) → x.silent r k ≡ s.weather.silent r k
    pub size : IsGroupSize replicas
    pub count : s.count ≡ replicas
    pub within : slab_len s.held ≤ MOST_HELD

  tops_here : (x : Attempt V) (i : ℕ) → i ≡ x.index → (if i == x.index then x.round else x.tops i) ≡ x.round
  tops_here x i e = let k : (i == x.index) ≡ true = grind (arith, nat_tests) in rw k refl

  tops_there : (x : Attempt V) (i : ℕ) → (i ≡ x.index → ⊥) → (if i == x.index then x.round else x.tops i) ≡ x.tops i
  tops_there x i ne = let k : (i == x.index) ≡ false = grind (arith, nat_tests) in rw k refl

  tops_cases : (x : Attempt V) (i : ℕ) →
      ((i ≡ x.index) × ((if i == x.index then x.round else x.tops i) ≡ x.round)) ⊎
      ((i ≡ x.index → ⊥) × ((if i == x.index then x.round else x.tops i) ≡ x.tops i))
  tops_cases x i = go (i == x.index) refl
    where
      go : (t : Bool) → (i == x.index) ≡ t →
          ((i ≡ x.index) × ((if i == x.index then x.round else x.tops i) ≡ x.round)) ⊎
          ((i ≡ x.index → ⊥) × ((if i == x.index then x.round else x.tops i) ≡ x.tops i))
      go true e = let k : i ≡ x.index = grind (arith, nat_tests) in inl (k, tops_here x i k)
      go false e = let k : i ≡ x.index → ⊥ = λ same. grind (arith, nat_tests) in inr (k, tops_there x i k)

  pub begins_by : (s : Scene V) (net : Net V) (replicas : ℕ) (log : List V) (pending : Option V) (own : V) (round : ℕ) →
      IsFormed replicas net log pending round →
      ((i : ℕ) (v : V) → slice_get (log ++ list_of pending) i ≡ Some v → slice_get (log ++ own ∷ []) i ≡ Some v) →
      s.count ≡ length net.acceptors.items → s.numbers ≡ number_at net.acceptors.items → s.kept ≡ kept_at net.acceptors.items →
      s.held ≡ net.held →
      s.proposing ≡ begins replicas (length log) (ballot_of round) own → (x : Attempt V) × Begun x s replicas log own round
  begins_by s net replicas log pending own round f more e1 e2 e3 e4 e5 =
      let x = f.x in
      let y : Attempt V = next x log own s.weather.silent in
      let follows : Follows x y = record {
        last = let lt = f.last in omega arith;
        earlier = f.last;
        commands = λ i v h. more i v (subst (λ l. slice_get l i ≡ Some v) f.commands h);
        tops = λ i. let top = f.rests.tops i in let lt = f.last in
            elim (tops_cases x i) [ inl k ↦ let is = k.1 in omega arith | inr k ↦ let is = k.1 in omega arith ];
        bound = λ i. let top = f.rests.tops i in let lt = f.last in
            elim (tops_cases x i) [ inl k ↦ let is = k.1 in omega arith | inr k ↦ let is = k.1 in omega arith ];
      } in
      let settled : (i : ℕ) → i < y.index →
      IsMajority (length net.acceptors.items) (λ r. Keeps y (kept_at net.acceptors.items) r i) = λ i lt.
      IsMajority-map (length net.acceptors.items) (λ r k. record {
        command = k.command;
        proposed = follows.commands i k.command k.proposed;
        accepted = k.accepted ∙ ap (λ t. Some (ballot_of t, k.command)) (sym (tops_there x i (λ e. omega arith)));
      }) (f.rests.settled i lt) in
      let rests = rests_follows x y (length net.acceptors.items) (number_at net.acceptors.items) (kept_at net.acceptors.items)
      net.held follows settled f.rests in
      let rests_s : Rests y s.count s.numbers s.kept s.held =
      subst (λ c. Rests y c s.numbers s.kept s.held) (sym e1)
      (subst (λ n. Rests y (length net.acceptors.items) n s.kept s.held) (sym e2)
      (subst (λ k. Rests y (length net.acceptors.items) (number_at net.acceptors.items) k s.held) (sym e3)
      (subst (λ h. Rests y (length net.acceptors.items) (number_at net.acceptors.items) (kept_at net.acceptors.items) h)
      (sym e4) rests))) in
      let count : s.count ≡ replicas = e1 ∙ f.count in
      let last : slice_get (log ++ own ∷ []) x.index ≡ Some own =
      subst (λ i. slice_get (log ++ own ∷ []) i ≡ Some own) (sym f.index) (get_last log own) in
      let first : ProposerOk y s.count s.kept (begins replicas (length log) (ballot_of round) own) = record {
        index = sym f.index;
        ballot = ap ballot_of (sym f.is_next);
        own = last;
        best = tt;
        heard = length-replicate replicas false ∙ sym count;
        acked = length-replicate replicas false ∙ sym count;
        keeps = λ r h. absurd (none_at_first replicas r h);
        put = λ r h. absurd (none_at_first replicas r h);
        ack = λ r h. absurd (none_at_first replicas r h);
      } in (
        y,
        record {
          stands = record {
            rests = rests_s;
            last = refl;
            here = tops_here x x.index refl;
            silent = λ r k. refl;
            proposer = subst (λ p. ProposerOk y s.count s.kept p) (sym e5) first;
          };
          at = (sym f.index, ap ballot_of (sym f.is_next));
          index = f.index;
          is_next = f.is_next;
          commands = refl;
          silent = λ r k. refl;
          size = f.size;
          count = count;
          within = subst (λ h. slab_len h ≤ MOST_HELD) (sym e4) f.within;
        },
      )

  pub begin : (s : Scene V) (net : Net V) (replicas : ℕ) (log : List V) (own : V) (round : ℕ) →
      IsFormed replicas net log None round ⊎ IsFormed replicas net log (Some own) round →
      s.count ≡ length net.acceptors.items → s.numbers ≡ number_at net.acceptors.items → s.kept ≡ kept_at net.acceptors.items →
      s.held ≡ net.held →
      s.proposing ≡ begins replicas (length log) (ballot_of round) own → (x : Attempt V) × Begun x s replicas log own round
  begin s net replicas log own round formed e1 e2 e3 e4 e5 = elim formed [
    | inl f ↦ begins_by s net replicas log None own round f
        (λ i v h. get_append log (own ∷ []) i v (subst (λ l. slice_get l i ≡ Some v) (append-nil log) h)) e1 e2 e3 e4 e5
    | inr f ↦ begins_by s net replicas log (Some own) own round f (λ i v h. h) e1 e2 e3 e4 e5
  ]

  -- the attempt is over: this many indices are settled
  abbrev pub ended : Attempt V → ℕ → Attempt V
  ended x index = record x { index = index; round = x.round + 1 }

  keeps_ended : (x : Attempt V) (index : ℕ) (kept : ℕ → ℕ → Standing V) (r i : ℕ) → Keeps x kept r i →
      Keeps (ended x index) kept r i
  keeps_ended x index kept r i k = record { command = k.command; proposed = k.proposed; accepted = k.accepted }

  pub rests_ended : (x : Attempt V) (s : Scene V) (index : ℕ) → Stands x s →
      ((i : ℕ) → i < index → IsMajority s.count (λ r. Keeps x s.kept r i)) →
      Rests (ended x index) s.count s.numbers s.kept s.held
  rests_ended x s index h settled =
      let same = h.last in
      rests_follows x (ended x index) s.count s.numbers s.kept s.held
      (record {
        last = omega arith;
        earlier = omega arith;
        commands = λ i v k. k;
        tops = λ i. omega arith;
        bound =
            h.rests.tops;
      })
      (λ i lt. IsMajority-map s.count (λ r k. keeps_ended x index s.kept r i k) (settled i lt))
      h.rests

  formed_by : (x : Attempt V) (s : Scene V) (net : Net V) (replicas : ℕ) (log : List V) (pending : Option V)
      (round index : ℕ) → Stands x s → IsGroupSize replicas → s.count ≡ replicas → slab_len s.held ≤ MOST_HELD →
      index ≡ length log → x.round ≡ round → x.commands ≡ log ++ list_of pending →
      ((i : ℕ) → i < index → IsMajority s.count (λ r. Keeps x s.kept r i)) →
      s.count ≡ length net.acceptors.items → s.numbers ≡ number_at net.acceptors.items → s.kept ≡ kept_at net.acceptors.items →
      s.held ≡ net.held → IsFormed replicas net log pending (round + 1)
  formed_by x s net replicas log pending round index h size count within at is_next commands settled e1 e2 e3 e4 =
      let rests = rests_ended x s index h settled in
      let same = h.last in
      record {
        x = ended x index;
        size = size;
        count = sym e1 ∙ count;
        rests =
            subst (λ c. Rests (ended x index) c (number_at net.acceptors.items) (kept_at net.acceptors.items) net.held) e1
            (subst (λ n. Rests (ended x index) s.count n (kept_at net.acceptors.items) net.held) e2
            (subst (λ k. Rests (ended x index) s.count s.numbers k net.held) e3
            (subst (λ h. Rests (ended x index) s.count s.numbers s.kept h) e4 rests)));
        index = at;
        is_next = ap (λ n. n + 1) is_next;
        last = omega arith;
        commands = commands;
        within = subst (λ h. slab_len h ≤ MOST_HELD) e4 within;
      }

  -- it is in doubt, or wanted memory
  pub formed_pending : (x : Attempt V) (old new : Scene V) (net : Net V) (replicas : ℕ) (log : List V) (own : V) (round : ℕ) →
      Begun x old replicas log own round → Goes (IsAt (length log) (ballot_of round)) old new →
      new.count ≡ length net.acceptors.items → new.numbers ≡ number_at net.acceptors.items →
      new.kept ≡ kept_at net.acceptors.items → new.held ≡ net.held → IsFormed replicas net log (Some own) (round + 1)
  formed_pending x old new net replicas log own round b goes e1 e2 e3 e4 =
      let h = goes.sound x b.stands b.at in
      formed_by x new net replicas log (Some own) round x.index h b.size (goes.count ∙ b.count) (goes.within b.within) b.index
      b.is_next b.commands h.rests.settled e1 e2 e3 e4

  -- it chose its command
  pub chosen_keeps : (x : Attempt V) (s : Scene V) → Stands x s → stage_of s.proposing ≡ Chosen →
      IsMajority s.count (λ r. Keeps x s.kept r x.index)
  chosen_keeps x s h e = record {
    marks = s.proposing.acked;
    count = h.proposer.acked;
    most =
        (chosen_means s.proposing e).1;
    each = h.proposer.keeps;
  }

  pub formed_chosen : (x : Attempt V) (old new : Scene V) (net : Net V) (replicas : ℕ) (log : List V) (own : V) (round : ℕ) →
      Begun x old replicas log own round → Goes (IsAt (length log) (ballot_of round)) old new →
      stage_of new.proposing ≡ Chosen →
      new.count ≡ length net.acceptors.items → new.numbers ≡ number_at net.acceptors.items →
      new.kept ≡ kept_at net.acceptors.items → new.held ≡ net.held →
      IsFormed replicas net (log ++ own ∷ []) None (round + 1)
  formed_chosen x old new net replicas log own round b goes chosen e1 e2 e3 e4 =
      let h = goes.sound x b.stands b.at in
      let here = chosen_keeps x new h chosen in
      let longer : x.index + 1 ≡ length (log ++ own ∷ []) = let k = b.index in omega (arith, length-append log (own ∷ [])) in
      formed_by x new net replicas (log ++ own ∷ []) None round (x.index + 1) h b.size (goes.count ∙ b.count)
      (goes.within b.within) longer b.is_next (b.commands ∙ sym (append-nil (log ++ own ∷ [])))
      (λ i lt. go i lt (nat_lt i x.index) refl) e1 e2 e3 e4
    where
      go : (i : ℕ) → i < x.index + 1 → (t : Bool) → nat_lt i x.index ≡ t → IsMajority new.count (λ r. Keeps x new.kept r i)
      go i lt true e = (goes.sound x b.stands b.at).rests.settled i (grind (arith, nat_tests))
      go i lt false e = let same : x.index ≡ i = grind (arith, nat_tests) in
          subst (λ i. IsMajority new.count (λ r. Keeps x new.kept r i)) same
          (chosen_keeps x new (goes.sound x b.stands b.at) chosen)

  -- a majority is heard
  pub chosen_heard : (x : Attempt V) (old new : Scene V) (silent : ℕ → ℕ → MessageKind →
      Bool) (store replicas : ℕ) (log : List V) (own : V) (round : ℕ) → Begun x old replicas log own round →
      Goes (IsAt (length log) (ballot_of round)) old new → stage_of new.proposing ≡ Chosen →
      ((r : ℕ) (k : MessageKind) → old.weather.silent r k ≡ silent store r k) →
      IsMajority replicas (λ r. is_heard silent store r ≡ true)
  chosen_heard x old new silent store replicas log own round b goes chosen is = record {
    marks = new.proposing.acked;
    count = (goes.sound x b.stands b.at).proposer.acked ∙ goes.count ∙ b.count;
    most = (chosen_means new.proposing chosen).1;
    each = λ r m.
        let h = (goes.sound x b.stands b.at).proposer in
        let put : silent store r kind.Put ≡ false = sym (is r kind.Put) ∙ sym (b.silent r kind.Put) ∙ h.put r m in
        let ack : silent store r kind.Ack ≡ false = sym (is r kind.Ack) ∙ sym (b.silent r kind.Ack) ∙ h.ack r m in
        rw (put, ack) refl;
  }

  pub same_silence : (x : Attempt V) (old new : Scene V) (replicas : ℕ) (log : List V) (own : V) (round : ℕ) →
      Begun x old replicas log own round → Goes (IsAt (length log) (ballot_of round)) old new →
      (r : ℕ) (k : MessageKind) → new.weather.silent r k ≡ old.weather.silent r k
  same_silence x old new replicas log own round b goes r k = (goes.sound x b.stands b.at).silent r k ∙ b.silent r k

  pub doubt_majority : (x : Attempt V) (old new : Scene V) (replicas : ℕ) (log : List V) (own : V) (round : ℕ) →
      Begun x old replicas log own round → Doubts replicas (4 * replicas) (IsAt (length log) (ballot_of round)) old new →
      IsMajority replicas (λ r. Rose (old.weather.bad r) (new.weather.bad r))
  doubt_majority x old new replicas log own round b doubts = doubts.majority x b.stands b.at b.size

  pub never_doubts : (x : Attempt V) (old new : Scene V) (replicas : ℕ) (log : List V) (own : V) (round n : ℕ) →
      Begun x old replicas log own round → Doubts replicas (4 * replicas) (IsAt (length log) (ballot_of round)) old new →
      IsStill (slab_len old.held) old.weather.to_come (4 * replicas + n) → ⊥
  never_doubts x old new replicas log own round n b doubts still =
      doubts.not_calm x n b.stands b.at b.size (record { empty = still.empty; fates = still.fates })

  pub stays_still : (x : Attempt V) (old new : Scene V) (replicas : ℕ) (log : List V) (own : V) (round n : ℕ) →
      Begun x old replicas log own round → StaysCalm (4 * replicas) (IsAt (length log) (ballot_of round)) old new →
      IsStill (slab_len old.held) old.weather.to_come (4 * replicas + n) → IsStill (slab_len new.held) new.weather.to_come n
  stays_still x old new replicas log own round n b calm still =
      let k = calm x n b.stands b.at (record { empty = still.empty; fates = still.fates }) in
      record { empty = k.empty; fates = k.fates }
