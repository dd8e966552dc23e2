-- When an attempt is in doubt, and how it goes on.
use Rattle.std.proofs.Common.{◌≡◌, ℕ, zero, suc, ◌+◌, ◌*◌, ◌<◌, ◌≤◌, Bool, true, false, not, List, [], ◌∷◌, length, map, inl}
use Rattle.std.proofs.Common.{inr, arith, subst, refl, sym, ◌∙◌, ap}
use Rattle.std.specs.Prelude.{slice_get, Option, Some, None, Result, Ok, Err, IfErr}
use Rattle.std.proofs.lemmas.Bool.Decides.{nat_tests}
use Rattle.nfs3_types.specs.Count.{Rose}
use Rattle.paxos_core.specs.declared.ballot.Ballot.{Ballot}
use Rattle.paxos_core.specs.declared.message.Message.TheVariants.{Ask, Put}
use Rattle.paxos_core.specs.declared.acceptor.Standing.{Standing}
use Rattle.paxos_core.specs.declared.proposer.Stage.{Stage}
use Rattle.paxos_core.specs.declared.proposer.Stage.TheVariants.{Waiting, Promised, Chosen}
use Rattle.paxos_core.specs.Majority.{is_majority, IsMajority}
use Rattle.paxos_core.specs.Proposing.{Proposing, is_promised, stage_of, value_of, preferred}
use Rattle.paxos_core.proofs.MajorityLemmas.{yes_count, yes_true, yes_false}
use Rattle.paxos_group.specs.Fates.{Delivers}
use Rattle.paxos_group.specs.Scene.{Scene}
use Rattle.paxos_group.specs.Sound.{Attempt, ProposerOk, IsProposed, Stands}
use Rattle.paxos_group.specs.Steps.{Goes, IsFresh, IsFreshOf, ReachesBelow, IsGroupSize, IsAt, Doubts, StaysCalm}
use Rattle.paxos_group.proofs.Going.{goes-weaken, rose_after}

-- the marks that are not true, where they are a majority
pub count_not : (xs : List Bool) → yes_count (map not xs) + yes_count xs ≡ length xs
count_not [] = refl
count_not (true ∷ xs) = omega (arith, count_not xs, yes_true xs, yes_false (map not xs))
count_not (false ∷ xs) = omega (arith, count_not xs, yes_false xs, yes_true (map not xs))

pub length_not : (xs : List Bool) → length (map not xs) ≡ length xs
length_not [] = refl
length_not (x ∷ xs) = omega (arith, length_not xs)

pub not_marked : (xs : List Bool) (r : ℕ) → slice_get (map not xs) r ≡ Some true →
    (r < length xs) × (slice_get xs r ≡ Some false)
not_marked [] r h = let k : None ≡ Some true = h in absurd (cc)
not_marked (true ∷ xs) zero h = let k : Some false ≡ Some true = h in absurd (cc)
not_marked (false ∷ xs) zero h = (omega arith, refl)
not_marked (x ∷ xs) (suc r) h = let k = not_marked xs r h in let lt = k.0 in (omega arith, k.1)

pub no_majority : (xs : List Bool) → is_majority xs ≡ false → 2 * yes_count xs ≤ length xs
no_majority xs h = grind (arith, nat_tests)

pub others_majority : (n : ℕ) (xs : List Bool) → IsGroupSize n → length xs ≡ n → is_majority xs ≡ false →
    is_majority (map not xs) ≡ true
others_majority n xs size len none =
    let few = no_majority xs none in
    let all = count_not xs in
    let same = length_not xs in
    let more : length (map not xs) < 2 * yes_count (map not xs) = elim size [ inl e ↦ omega arith | inr e ↦ omega arith ] in
    grind (arith, nat_tests)

pub rest_majority : (n : ℕ) (xs : List Bool) (P : ℕ → Type 0) → IsGroupSize n → length xs ≡ n → is_majority xs ≡ false →
    ((r : ℕ) → r < n → slice_get xs r ≡ Some false → P r) → IsMajority n P
rest_majority n xs P size len none each = record {
  marks = map not xs;
  count = length_not xs ∙ len;
  most = others_majority n xs size len none;
  each = λ r h. let k = not_marked xs r h in let lt = k.0 in each r (omega arith) k.1;
}

-- where all are marked, a majority is
pub all_count : (xs : List Bool) → ((r : ℕ) → r < length xs → slice_get xs r ≡ Some true) → yes_count xs ≡ length xs
all_count [] h = refl
all_count (true ∷ xs) h = omega (arith, all_count xs (λ r lt. h (suc r) (omega arith)), yes_true xs)
all_count (false ∷ xs) h = let k : Some false ≡ Some true = h 0 (omega arith) in absurd (cc)

pub all_majority : (n : ℕ) (xs : List Bool) → IsGroupSize n → length xs ≡ n → ((r : ℕ) → r < n → slice_get xs r ≡ Some true) →
    is_majority xs ≡ true
all_majority n xs size len h =
    let all = all_count xs (λ r lt. h r (omega arith)) in
    let more : length xs < 2 * yes_count xs = elim size [ inl e ↦ omega arith | inr e ↦ omega arith ] in
    grind (arith, nat_tests)

module _ {V : Type 0} where
  -- how far a proposal is, from its marks
  pub waiting_means : (p : Proposing V) → stage_of p ≡ Waiting → is_promised p ≡ false
  waiting_means p e = go (is_promised p) (is_majority p.acked) refl refl
    where
      go : (t u : Bool) → is_promised p ≡ t → is_majority p.acked ≡ u → is_promised p ≡ false
      go false u f g = f
      go true true f g = let clash : Chosen ≡ Waiting = sym (rw (f, g) refl) ∙ e in absurd (cc)
      go true false f g = let clash : Promised ≡ Waiting = sym (rw (f, g) refl) ∙ e in absurd (cc)

  pub promised_means : (p : Proposing V) (s : Stage) → stage_of p ≡ s → (s ≡ Waiting → ⊥) → is_promised p ≡ true
  promised_means p s e not = go (is_promised p) refl
    where
      go : (t : Bool) → is_promised p ≡ t → is_promised p ≡ true
      go true f = f
      go false f = let is : stage_of p ≡ Waiting = rw f refl in absurd (not (sym e ∙ is))

  pub chosen_means : (p : Proposing V) → stage_of p ≡ Chosen → (is_promised p ≡ true) × (is_majority p.acked ≡ true)
  chosen_means p e = go (is_promised p) (is_majority p.acked) refl refl
    where
      go : (t u : Bool) → is_promised p ≡ t → is_majority p.acked ≡ u → (is_promised p ≡ true) × (is_majority p.acked ≡ true)
      go true true f g = (f, g)
      go true false f g = let clash : Promised ≡ Chosen = sym (rw (f, g) refl) ∙ e in absurd (cc)
      go false u f g = let clash : Waiting ≡ Chosen = sym (rw f refl) ∙ e in absurd (cc)

  pub not_chosen_means : (p : Proposing V) (s : Stage) → stage_of p ≡ s → (s ≡ Chosen → ⊥) → is_promised p ≡ true →
      is_majority p.acked ≡ false
  not_chosen_means p s e not f = go (is_majority p.acked) refl
    where
      go : (t : Bool) → is_majority p.acked ≡ t → is_majority p.acked ≡ false
      go false g = g
      go true g = let is : stage_of p ≡ Chosen = rw (f, g) refl in absurd (not (sym e ∙ is))

  -- what an attempt's proposer puts is its command
  pub value_proposed : (x : Attempt V) (count : ℕ) (kept : ℕ → ℕ → Standing V) (p : Proposing V) → ProposerOk x count kept p →
      slice_get x.commands x.index ≡ Some (value_of p)
  value_proposed x count kept p h = go p.best h.best
    where
      go : (best : Option (Ballot × V)) → IsProposed x x.index best → slice_get x.commands x.index ≡ Some (preferred p.own best)
      go None k = h.own
      go (Some y) k = k

  pub at_ask : (i : ℕ) (b : Ballot) (x : Attempt V) → IsAt i b x → IsFreshOf x (Ask i b)
  at_ask i b x h = h

  pub ask_fresh : (i : ℕ) (b : Ballot) (x : Attempt V) (p : Proposing V) → IsAt i b x → IsFresh x p (Ask i b)
  ask_fresh i b x p h = record { of = h; in_turn = tt }

  pub ask_goes : (i : ℕ) (b : Ballot) (old new : Scene V) → Goes (λ x. IsFreshOf x (Ask i b)) old new → Goes (IsAt i b) old new
  ask_goes i b old new f = goes-weaken (λ x. IsFreshOf x (Ask i b)) (IsAt i b) old new f (λ x h k. k)

  pub ask_calm : (n i : ℕ) (b : Ballot) (old new : Scene V) → ReachesBelow n (Ask i b) old new →
      StaysCalm (2 * n) (IsAt i b) old new
  ask_calm n i b old new reaches = λ x k h at calm. (reaches.calm x k h (ask_fresh i b x old.proposing at) calm).1

  pub ask_doubts : (n i : ℕ) (b : Ballot) (old new : Scene V) → old.count ≡ n → Goes (IsAt i b) old new →
      ReachesBelow n (Ask i b) old new → stage_of new.proposing ≡ Waiting → Doubts n (2 * n) (IsAt i b) old new
  ask_doubts n i b old new count goes reaches waits =
      let none = waiting_means new.proposing waits in
      let len : (x : Attempt V) → Stands x old → IsAt i b x → length new.proposing.heard ≡ n =
      λ x h at. (goes.sound x h at).proposer.heard ∙ goes.count ∙ count in
      record {
        majority = λ x h at size. rest_majority n new.proposing.heard (λ r. Rose (old.weather.bad r) (new.weather.bad r)) size
            (len x h at) none
            (λ r lt unheard. elim (reaches.marked x h (ask_fresh i b x old.proposing at) r lt) [
              | inl marked ↦ elim marked [
                | inl promised ↦ let clash : true ≡ false = sym promised ∙ none in absurd (cc)
                | inr heard ↦ let clash : Some true ≡ Some false = sym heard ∙ unheard in absurd (cc)
              ]
              | inr rose ↦ rose
            ]);
        not_calm = λ x k h at size calm.
            let all = (reaches.calm x k h (ask_fresh i b x old.proposing at) calm).0 in
            let most = all_majority n new.proposing.heard size (len x h at) (λ r lt. elim (all r lt) [
              | inl promised ↦ let clash : true ≡ false = sym promised ∙ none in absurd (cc)
              | inr heard ↦ heard
            ]) in
            let clash : true ≡ false = sym most ∙ none in
            cc;
      }

  pub put_of : (i : ℕ) (b : Ballot) (v : V) (s : Scene V) (x : Attempt V) → v ≡ value_of s.proposing → Stands x s →
      IsAt i b x → IsFreshOf x (Put i b v)
  put_of i b v s x is h at =
      let there : slice_get x.commands x.index ≡ Some v =
      value_proposed x s.count s.kept s.proposing h.proposer ∙ ap (λ v. Some v) (sym is) in
      (at.0, at.1, subst (λ j. slice_get x.commands j ≡ Some v) (sym at.0) there)

  pub put_goes : (i : ℕ) (b : Ballot) (v : V) (old new : Scene V) → v ≡ value_of old.proposing →
      Goes (λ x. IsFreshOf x (Put i b v)) old new → Goes (IsAt i b) old new
  put_goes i b v old new is f =
      goes-weaken (λ x. IsFreshOf x (Put i b v)) (IsAt i b) old new f (λ x h k. put_of i b v old x is h k)

  pub put_fresh : (i : ℕ) (b : Ballot) (v : V) (s : Scene V) (x : Attempt V) → v ≡ value_of s.proposing →
      is_promised s.proposing ≡ true → Stands x s → IsAt i b x → IsFresh x s.proposing (Put i b v)
  put_fresh i b v s x is promised h at = record { of = put_of i b v s x is h at; in_turn = promised }

  pub put_calm : (n i : ℕ) (b : Ballot) (v : V) (old new : Scene V) → v ≡ value_of old.proposing →
      is_promised old.proposing ≡ true → ReachesBelow n (Put i b v) old new → StaysCalm (2 * n) (IsAt i b) old new
  put_calm n i b v old new is promised reaches =
      λ x k h at calm. (reaches.calm x k h (put_fresh i b v old x is promised h at) calm).1

  pub put_doubts : (n i : ℕ) (b : Ballot) (v : V) (old new : Scene V) (s : Stage) → v ≡ value_of old.proposing →
      is_promised old.proposing ≡ true → old.count ≡ n → Goes (IsAt i b) old new →
      ReachesBelow n (Put i b v) old new → stage_of new.proposing ≡ s → (s ≡ Chosen → ⊥) → Doubts n (2 * n) (IsAt i b) old new
  put_doubts n i b v old new s is promised count goes reaches stage not =
      let none = not_chosen_means new.proposing s stage not (goes.grows.promised promised) in
      let len : (x : Attempt V) → Stands x old → IsAt i b x → length new.proposing.acked ≡ n =
      λ x h at. (goes.sound x h at).proposer.acked ∙ goes.count ∙ count in
      record {
        majority = λ x h at size. rest_majority n new.proposing.acked (λ r. Rose (old.weather.bad r) (new.weather.bad r)) size
            (len x h at) none
            (λ r lt unacked. elim (reaches.marked x h (put_fresh i b v old x is promised h at) r lt) [
              | inl acked ↦ let clash : Some true ≡ Some false = sym acked ∙ unacked in absurd (cc)
              | inr rose ↦ rose
            ]);
        not_calm = λ x k h at size calm.
            let all = (reaches.calm x k h (put_fresh i b v old x is promised h at) calm).0 in
            let most = all_majority n new.proposing.acked size (len x h at) all in
            let clash : true ≡ false = sym most ∙ none in
            cc;
      }

  -- the Puts after the Asks
  pub both_calm : (n i : ℕ) (b : Ballot) (old mid new : Scene V) → Goes (IsAt i b) old mid →
      StaysCalm (2 * n) (IsAt i b) old mid → StaysCalm (2 * n) (IsAt i b) mid new → StaysCalm (4 * n) (IsAt i b) old new
  both_calm n i b old mid new goes first second = λ x k h at calm.
      let more : 4 * n + k ≡ 2 * n + (2 * n + k) = omega arith in
      second x k (goes.sound x h at) at
      (first x (2 * n + k) h at (record {
        empty = calm.empty;
        fates =
            subst (λ n. Delivers n old.weather.to_come) more calm.fates;
      }))

  pub later_doubts : (n i : ℕ) (b : Ballot) (old mid new : Scene V) → Goes (IsAt i b) old mid →
      StaysCalm (2 * n) (IsAt i b) old mid → Doubts n (2 * n) (IsAt i b) mid new → Doubts n (4 * n) (IsAt i b) old new
  later_doubts n i b old mid new goes first doubts = record {
    majority = λ x h at size.
        let k = doubts.majority x (goes.sound x h at) at size in
        record {
          marks = k.marks;
          count = k.count;
          most = k.most;
          each =
              λ r m. rose_after (old.weather.bad r) (mid.weather.bad r) (new.weather.bad r) (goes.rises r) (k.each r m);
        };
    not_calm = λ x k h at size calm.
        let more : 4 * n + k ≡ 2 * n + (2 * n + k) = omega arith in
        doubts.not_calm x k (goes.sound x h at) at size
        (first x (2 * n + k) h at (record {
          empty = calm.empty;
          fates =
              subst (λ n. Delivers n old.weather.to_come) more calm.fates;
        }));
  }

  pub early_doubts : (n i : ℕ) (b : Ballot) (old new : Scene V) → Doubts n (2 * n) (IsAt i b) old new →
      Doubts n (4 * n) (IsAt i b) old new
  early_doubts n i b old new doubts = record {
    majority = doubts.majority;
    not_calm = λ x k h at size calm.
        let more : 4 * n + k ≡ 2 * n + (2 * n + k) = omega arith in
        doubts.not_calm x (2 * n + k) h at size (record {
          empty = calm.empty;
          fates =
              subst (λ n. Delivers n old.weather.to_come) more calm.fates;
        });
  }

-- what follows at an error
pub if_err_map : {T E : Type 0} {P Q : E → Type 0} (result : Result T E) → ((e : E) → P e → Q e) → IfErr result P →
    IfErr result Q
if_err_map (Ok v) f h = h
if_err_map (Err e) f h = f e h
