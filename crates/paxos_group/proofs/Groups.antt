-- A group as contracts see it.
use Rattle.std.proofs.Common.{◌≡◌, ℕ, zero, suc, ◌+◌, ◌*◌, ◌<◌, ◌≤◌, Bool, true, false, cond, List, [], ◌∷◌, ◌++◌, length, ◌⊎◌}
use Rattle.std.proofs.Common.{inl, inr, arith, subst, refl, sym, ◌∙◌, ap, length-append, ◌^◌}
use Rattle.std.specs.Prelude.{slice_get, map, option_map, Option, Some, None, is_some, Result, Ok, Err, OnErr, nat_lt}
use Rattle.std.specs.Prelude.{slice_index_or}
use Rattle.std.specs.List.{count_by}
use Rattle.std.proofs.lemmas.Bool.Decides.{nat_tests}
use Rattle.std.proofs.lemmas.List.Sums.{sum_by-cons}
use Rattle.slab.specs.Slab.{slab_len}
use Rattle.paxos_core.specs.declared.ballot.Ballot.{Ballot}
use Rattle.paxos_core.specs.declared.acceptor.Acceptor.{Acceptor}
use Rattle.paxos_core.specs.Acceptor.{standing_of, replica_of}
use Rattle.paxos_core.specs.Standing.{blank}
use Rattle.paxos_core.proofs.MajorityLemmas.{yes_count, yes_true, yes_false, yes_count-mono, more_than_half}
use Rattle.paxos_group.proofs.Attempts.{get_append, get_last}
use Rattle.paxos_group.specs.declared.net.Net.{Net}
use Rattle.paxos_group.specs.declared.net.TheConstants.{MOST_HELD}
use Rattle.paxos_group.specs.Scene.{kept_by, kept_at, number_by, number_at}
use Rattle.paxos_group.specs.Sound.{Attempt, ballot_of, Keeps, StandingOk, IsProposed}
use Rattle.paxos_group.specs.Steps.{IsGroupSize}
use Rattle.paxos_group.specs.Formed.{IsFormed, list_of}
use Rattle.paxos_group.specs.declared.fault.GroupFault.{GroupFault}
use Rattle.paxos_group.specs.declared.fault.Appended.{Appended}
use Rattle.paxos_group.specs.declared.parts.Parts.{Parts}
use Rattle.paxos_group.specs.Ledger.{Leaves, ledger_of}
use Rattle.paxos_group.specs.Moments.{seen_of}
use Rattle.paxos_group.specs.Settling.{Settling, IsCount, each_below, accepted_by, row_at, accepted_at, Holds, IsSettled}

pub none_not_some : {X : Type 0} (o : Option X) (v : X) → o ≡ None → o ≡ Some v → ⊥
none_not_some o v e f = let k : None ≡ Some v = sym e ∙ f in cc

pub length_each : {X : Type 0} (f : ℕ → X) (n : ℕ) → length (each_below f n) ≡ n
length_each f zero = refl
length_each f (suc n) = let k = length_each f n in omega (arith, length-append (each_below f n) (f n ∷ []))

pub get_each : {X : Type 0} (f : ℕ → X) (n i : ℕ) → i < n → slice_get (each_below f n) i ≡ Some (f i)
get_each f zero i lt = absurd (omega arith)
get_each f (suc n) i lt = go (λ less. get_each f n i less) (nat_lt i n) refl
  where
    go : (i < n → slice_get (each_below f n) i ≡ Some (f i)) → (t : Bool) → nat_lt i n ≡ t →
        slice_get (each_below f n ++ f n ∷ []) i ≡ Some (f i)
    go before true e = get_append (each_below f n) (f n ∷ []) i (f i) (before (grind (arith, nat_tests)))
    go before false e =
        let same : n ≡ i = grind (arith, nat_tests) in
        let len = length_each f n in
        let at : length (each_below f n) ≡ i = omega arith in
        subst (λ k. slice_get (each_below f n ++ f n ∷ []) k ≡ Some (f i)) at
        (get_last (each_below f n) (f n) ∙ ap (λ n. Some (f n)) same)

pub get_map : {X Y : Type 0} (h : X → Y) (xs : List X) (r : ℕ) → slice_get (map h xs) r ≡ option_map h (slice_get xs r)
get_map h [] r = refl
get_map h (x ∷ xs) zero = refl
get_map h (x ∷ xs) (suc r) = get_map h xs r

-- one more at the end of a list is at its place, and nothing else is new
pub get_push : {X : Type 0} (xs : List X) (x : X) (r : ℕ) →
    ((r ≡ length xs → ⊥) × (slice_get (xs ++ x ∷ []) r ≡ slice_get xs r)) ⊎
    ((r ≡ length xs) × (slice_get (xs ++ x ∷ []) r ≡ Some x))
get_push [] x zero = inr (refl, refl)
get_push [] x (suc r) = inl (λ e. omega arith, refl)
get_push (y ∷ xs) x zero = inl (λ e. omega arith, refl)
get_push (y ∷ xs) x (suc r) = elim (get_push xs x r) [
  | inl k ↦ inl (λ e. k.0 (omega arith), k.1)
  | inr k ↦ let at = k.0 in
      inr (omega arith, k.1)
]

pub length_map : {X Y : Type 0} (h : X → Y) (xs : List X) → length (map h xs) ≡ length xs
length_map h [] = refl
length_map h (x ∷ xs) = omega (arith, length_map h xs)

pub get_below : {X : Type 0} (xs ys : List X) (i : ℕ) (v : X) → i < length xs → slice_get (xs ++ ys) i ≡ Some v →
    slice_get xs i ≡ Some v
get_below [] ys i v lt h = absurd (omega arith)
get_below (x ∷ xs) ys zero v lt h = h
get_below (x ∷ xs) ys (suc i) v lt h = get_below xs ys i v (omega arith) h

pub count_map : {X : Type 0} (p : X → Bool) (xs : List X) → count_by (λ mark. mark) (map p xs) ≡ count_by p xs
count_map p [] = refl
count_map p (x ∷ xs) =
    let rest = count_map p xs in
    let marks = sum_by-cons (λ mark. cond mark 1 0) (p x) (map p xs) in
    let tests = sum_by-cons (λ x. cond (p x) 1 0) x xs in
    omega arith

pub count_within : (xs : List Bool) → yes_count xs ≤ length xs
count_within [] = omega arith
count_within (true ∷ xs) = omega (arith, count_within xs, yes_true xs)
count_within (false ∷ xs) = omega (arith, count_within xs, yes_false xs)

module _ {V : Type 0} where
  -- a group as contracts see it
  abbrev pub seen : ℕ → Net V → List V → Option V → ℕ → Settling V
  seen replicas net log pending round = record {
    store = net.store;
    replicas = replicas;
    accepted = each_below (accepted_by net.acceptors.items) (length log);
    log = log;
    pending = pending;
    round = round;
    held = slab_len net.held;
  }

  -- whether an acceptor accepted a value at the index
  abbrev pub accepts : ℕ → Acceptor V → Bool
  accepts i a = is_some (standing_of a i).accepted

  -- what a formed group shows of one of its replicas
  pub shown : (replicas : ℕ) (net : Net V) (log : List V) (pending : Option V) (round i r : ℕ) (a : Acceptor V) →
      i < length log → slice_get net.acceptors.items r ≡ Some a →
      accepted_at (seen replicas net log pending round) i r ≡ Some (standing_of a i).accepted
  shown replicas net log pending round i r a lt there =
      ap (λ o. row_at o r) (get_each (accepted_by net.acceptors.items) (length log) i lt)
      ∙ get_map (λ a. (standing_of a i).accepted) net.acceptors.items r ∙ ap (option_map (λ a. (standing_of a i).accepted))
      there

  pub hidden : (replicas : ℕ) (net : Net V) (log : List V) (pending : Option V) (round i r : ℕ) → i < length log →
      slice_get net.acceptors.items r ≡ None →
      accepted_at (seen replicas net log pending round) i r ≡ None
  hidden replicas net log pending round i r lt there =
      ap (λ o. row_at o r) (get_each (accepted_by net.acceptors.items) (length log) i lt)
      ∙ get_map (λ a. (standing_of a i).accepted) net.acceptors.items r ∙ ap (option_map (λ a. (standing_of a i).accepted))
      there

  pub holds : (replicas : ℕ) (net : Net V) (log : List V) (pending : Option V) (round i r : ℕ) (a : Acceptor V) (b : Ballot)
      (v : V) → IsFormed replicas net log pending round → i < length log →
      slice_get net.acceptors.items r ≡ Some a → (standing_of a i).accepted ≡ Some (b, v) →
      Holds (seen replicas net log pending round) i r b
  holds replicas net log pending round i r a b v f lt there accepted =
      let kept : (kept_at net.acceptors.items r i).accepted ≡ Some (b, v) = ap (λ o. (kept_by o i).accepted) there ∙ accepted in
      let proposed : slice_get f.x.commands i ≡ Some v =
      subst (λ o. IsProposed f.x i o) kept (f.rests.standings r i).proposed in
      record {
        command = v;
        settled = get_below log (list_of pending) i v lt (subst (λ l. slice_get l i ≡ Some v) f.commands proposed);
        accepted = shown replicas net log pending round i r a lt there ∙ ap (λ o. Some o) accepted;
      }

  keeper : (net : Net V) (x : Attempt V) (i r : ℕ) → Keeps x (kept_at net.acceptors.items) r i →
      (a : Acceptor V) × (slice_get net.acceptors.items r ≡ Some a)
  keeper net x i r k = go (slice_get net.acceptors.items r) refl
    where
      go : (o : Option (Acceptor V)) → slice_get net.acceptors.items r ≡ o →
          (a : Acceptor V) × (slice_get net.acceptors.items r ≡ Some a)
      go (Some a) e = (a, e)
      go None e = let clash : None ≡ Some (ballot_of (x.tops i), k.command) =
          sym (ap (λ o. (kept_by o i).accepted) e) ∙ k.accepted in absurd (cc)

  pub settled : (replicas : ℕ) (net : Net V) (log : List V) (pending : Option V) (round i : ℕ) →
      IsFormed replicas net log pending round → i < length log → IsSettled (seen replicas net log pending round) i
  settled replicas net log pending round i f lt =
      let index = f.index in
      let m = f.rests.settled i (omega arith) in (
        ballot_of (f.x.tops i),
        record {
          marks = m.marks;
          count = m.count ∙ f.count;
          most = m.most;
          each = λ r mark.
              let k = m.each r mark in
              let who = keeper net f.x i r k in
              holds replicas net log pending round i r who.0 (ballot_of (f.x.tops i)) k.command f lt who.1
              (sym (ap (λ o. (kept_by o i).accepted) who.1) ∙ k.accepted);
        },
      )

  pub holders_count : (replicas : ℕ) (net : Net V) (log : List V) (pending : Option V) (round i count : ℕ) →
      IsFormed replicas net log pending round → i < length log →
      count ≡ count_by (accepts i) net.acceptors.items →
      IsCount replicas (λ r. (b : Ballot) × Holds (seen replicas net log pending round) i r b) count
  holders_count replicas net log pending round i count f lt is = record {
    marks = map (accepts i) net.acceptors.items;
    each_of = length_map (accepts i) net.acceptors.items ∙ f.count;
    marked = count_map (accepts i) net.acceptors.items ∙ sym is;
    those = λ r mark. yes r (slice_get net.acceptors.items r) refl (sym (get_map (accepts i) net.acceptors.items r) ∙ mark);
    no_others = λ r mark h. no_one r h.0 h.1 (slice_get net.acceptors.items r) refl
        (sym (get_map (accepts i) net.acceptors.items r) ∙ mark);
  }
    where
      yes_at : (r : ℕ) (a : Acceptor V) → slice_get net.acceptors.items r ≡ Some a → (o : Option (Ballot × V)) →
          (standing_of a i).accepted ≡ o → is_some o ≡ true → (b : Ballot) × Holds (seen replicas net log pending round) i r b
      yes_at r a e None f1 t = absurd (cc)
      yes_at r a e (Some y) f1 t = (y.0, holds replicas net log pending round i r a y.0 y.1 f lt e f1)

      yes : (r : ℕ) (o : Option (Acceptor V)) → slice_get net.acceptors.items r ≡ o →
          option_map (accepts i) (slice_get net.acceptors.items r) ≡ Some true →
          (b : Ballot) × Holds (seen replicas net log pending round) i r b
      yes r None e t = let clash : None ≡ Some true = sym (ap (option_map (accepts i)) e) ∙ t in absurd (cc)
      yes r (Some a) e t = let k : Some (accepts i a) ≡ Some true = sym (ap (option_map (accepts i)) e) ∙ t in
          let l : accepts i a ≡ true = cc in yes_at r a e (standing_of a i).accepted refl l

      no_at : (r : ℕ) (b : Ballot) → Holds (seen replicas net log pending round) i r b → (a : Acceptor V) →
          slice_get net.acceptors.items r ≡ Some a → (o : Option (Ballot × V)) → (standing_of a i).accepted ≡ o →
          is_some o ≡ false → ⊥
      no_at r b h a e (Some y) f1 t = cc
      no_at r b h a e None f1 t =
          let k : Some (standing_of a i).accepted ≡ Some (Some (b, h.command)) =
          sym (shown replicas net log pending round i r a lt e) ∙ h.accepted in
          let l : (standing_of a i).accepted ≡ Some (b, h.command) = cc in
          none_not_some (standing_of a i).accepted (b, h.command) f1 l

      no_one : (r : ℕ) (b : Ballot) → Holds (seen replicas net log pending round) i r b → (o : Option (Acceptor V)) →
          slice_get net.acceptors.items r ≡ o → option_map (accepts i) (slice_get net.acceptors.items r) ≡ Some false → ⊥
      no_one r b h None e t = let clash : None ≡ Some false = sym (ap (option_map (accepts i)) e) ∙ t in cc
      no_one r b h (Some a) e t = let k : Some (accepts i a) ≡ Some false = sym (ap (option_map (accepts i)) e) ∙ t in
          let l : accepts i a ≡ false = cc in no_at r b h a e (standing_of a i).accepted refl l

  pub holders_majority : (replicas : ℕ) (net : Net V) (log : List V) (pending : Option V) (round i count : ℕ) →
      IsFormed replicas net log pending round → i < length log →
      count ≡ count_by (accepts i) net.acceptors.items → replicas < 2 * count
  holders_majority replicas net log pending round i count f lt is =
      let index = f.index in
      let m = f.rests.settled i (omega arith) in
      let more = more_than_half m.marks m.most in
      let marks = map (accepts i) net.acceptors.items in
      let len = length_map (accepts i) net.acceptors.items in
      let below = yes_count-mono m.marks marks (m.count ∙ sym len) (λ r mark.
      let k = m.each r mark in
      let who = keeper net f.x i r k in
      let accepted : (standing_of who.0 i).accepted ≡ Some (ballot_of (f.x.tops i), k.command) =
      sym (ap (λ o. (kept_by o i).accepted) who.1) ∙ k.accepted in
      get_map (accepts i) net.acceptors.items r ∙ ap (option_map (accepts i)) who.1 ∙ ap (λ o. Some (is_some o)) accepted) in
      let all = count_map (accepts i) net.acceptors.items in
      let n = m.count in
      let c = f.count in
      omega arith

  pub holders_fit : (replicas : ℕ) (net : Net V) (log : List V) (pending : Option V) (round i : ℕ) →
      IsFormed replicas net log pending round → count_by (accepts i) net.acceptors.items < 2 ^ 32
  holders_fit replicas net log pending round i f =
      let within = count_within (map (accepts i) net.acceptors.items) in
      let len = length_map (accepts i) net.acceptors.items in
      let all = count_map (accepts i) net.acceptors.items in
      let c = f.count in
      elim f.size [ inl e ↦ omega arith | inr e ↦ omega arith ]

  -- one acceptor more
  pub pushed_number : (xs : List (Acceptor V)) (a : Acceptor V) (n r : ℕ) → length xs ≡ n → replica_of a ≡ n →
      ((r : ℕ) → r < n → number_at xs r ≡ r) → r < n + 1 → number_at (xs ++ a ∷ []) r ≡ r
  pushed_number xs a n r len number before lt = elim (get_push xs a r) [
    | inl k ↦ let other = k.0 in ap number_by k.1 ∙ before r (omega arith)
    | inr k ↦ let at = k.0 in ap number_by k.1 ∙ number ∙ sym len ∙ sym at
  ]

  pub pushed_nothing : (xs : List (Acceptor V)) (a : Acceptor V) (r i : ℕ) → ((i : ℕ) → standing_of a i ≡ blank) →
      ((r i : ℕ) → kept_at xs r i ≡ blank) → kept_at (xs ++ a ∷ []) r i ≡ blank
  pushed_nothing xs a r i none before = elim (get_push xs a r) [
    | inl k ↦ ap (λ o. kept_by o i) k.1 ∙ before r i
    | inr k ↦ ap (λ o. kept_by o i) k.1 ∙ none i
  ]

  -- a group that did nothing yet
  pub formed_at_first : (replicas : ℕ) (net : Net V) → IsGroupSize replicas → length net.acceptors.items ≡ replicas →
      ((r : ℕ) → r < replicas → number_at net.acceptors.items r ≡ r) →
      ((r i : ℕ) → kept_at net.acceptors.items r i ≡ blank) → net.held.slots ≡ [] → IsFormed replicas net [] None 1
  formed_at_first replicas net size count numbers nothing empty =
      let x : Attempt V = record { index = 0; round = 1; last = 0; commands = []; tops = λ i. 0; silent = λ r k. false } in
      record {
        x = x;
        size = size;
        count = count;
        rests = record {
          tops = λ i. omega arith;
          numbered = λ r lt. numbers r (omega arith);
          standings = λ r i. subst (λ s. StandingOk x i s) (sym (nothing r i)) (record {
            promised = omega arith;
            within =
                tt;
            proposed = tt;
          });
          letters = λ key l there. let k : None ≡ Some l = sym (ap (λ slots. slice_index_or slots key None) empty) ∙ there in
              absurd (cc);
          settled = λ i lt. absurd (omega arith);
        };
        index = refl;
        is_next = refl;
        last = omega arith;
        commands = refl;
        within = subst (λ slots. count_by is_some slots ≤ MOST_HELD) (sym empty) (omega arith);
      }

  -- nothing was asked: the group and the weather are as they were
  pub same_seen : {W : Type 0} (old new : Parts V) (command : V) (a : Appended) (before now : W)
      (own : Result (Unit {0}) GroupFault) → Leaves own a.doubted (ledger_of old) (ledger_of new) command a →
      OnErr own (a.doubted ≡ false → new.net ≡ old.net) → OnErr own (a.doubted ≡ false → now ≡ before) →
      new.replicas ≡ old.replicas →
      OnErr own (a.doubted ≡ false → (seen_of new ≡ seen_of old) × (now ≡ before))
  same_seen old new command a before now (Ok v) leaves net weather replicas = net
  same_seen old new command a before now (Err f) leaves net weather replicas = λ is.
      let unasked : Leaves (Err f) false (ledger_of old) (ledger_of new) command a =
      subst (λ d. Leaves (Err f) d (ledger_of old) (ledger_of new) command a) is leaves in
      let same = unasked.same in
      let nets = net is in
      let log : new.log.items ≡ old.log.items = ap (λ l. l.log) same in
      let pending : new.pending ≡ old.pending = ap (λ l. l.pending) same in
      let round : new.round ≡ old.round = ap (λ l. l.round) same in (
        ap (λ r. seen r new.net new.log.items new.pending new.round) replicas
            ∙ ap (λ n. seen old.replicas n new.log.items new.pending new.round) nets
            ∙ ap (λ l. seen old.replicas old.net l new.pending new.round) log
            ∙ ap (λ p. seen old.replicas old.net old.log.items p new.round) pending
            ∙ ap (λ k. seen old.replicas old.net old.log.items old.pending k) round,
        weather is,
      )
