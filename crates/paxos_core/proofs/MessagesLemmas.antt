-- A proposer follows the messages: what it heard, the best value, and what was acked.
use Rattle.std.proofs.Common.{◌≡◌, ℕ, zero, suc, ◌<◌, ◌≤◌, Bool, true, false, not, ◌&&◌, List, [], ◌∷◌, ◌++◌, length, ◌⊎◌, inl}
use Rattle.std.proofs.Common.{inr, arith, subst, refl, sym, ◌∙◌, ap}
use Rattle.std.specs.Prelude.{slice_get, slice_set, slice_index_or, Option, Some, None, is_some, if◌then◌else◌}
use Rattle.std.proofs.lemmas.Bool.Decides.{nat_tests}
use Rattle.std.proofs.lemmas.List.{length-set}
use Rattle.paxos_core.specs.declared.ballot.Ballot.{Ballot}
use Rattle.paxos_core.specs.declared.message.Message.{Message}
use Rattle.paxos_core.specs.declared.message.Message.TheVariants.{Ask, Promise, Put, Ack, Nack}
use Rattle.paxos_core.specs.Ballot.{rank, is_below}
use Rattle.paxos_core.specs.Proposing.{Proposing, begins, is_promised, is_for, is_new, better, told, value_of}
use Rattle.paxos_core.specs.Messages.{told_all}
use Rattle.paxos_core.proofs.AtAcceptor.{same_place}
use Rattle.paxos_core.proofs.ProposingLemmas.{promised_stays}

-- what no message changes
pub record IsKept {V : Type 0} (p p' : Proposing V) : Type 0 where
  pub index : p'.index ≡ p.index
  pub ballot : p'.ballot ≡ p.ballot
  pub own : p'.own ≡ p.own
  pub heard : length p'.heard ≡ length p.heard
  pub acked : length p'.acked ≡ length p.acked

module _ {V : Type 0} where
  pub told_keeps : (p : Proposing V) (m : Message V) → IsKept p (told p m)
  told_keeps p (Ask i b) = record { index = refl; ballot = refl; own = refl; heard = refl; acked = refl }
  told_keeps p (Put i b v) = record { index = refl; ballot = refl; own = refl; heard = refl; acked = refl }
  told_keeps p (Nack r i b) = record { index = refl; ballot = refl; own = refl; heard = refl; acked = refl }
  told_keeps p (Promise r i b a) = go (is_for p i b && (is_new p r && not (is_promised p))) refl
    where
      go : (t : Bool) → (is_for p i b && (is_new p r && not (is_promised p))) ≡ t → IsKept p (told p (Promise r i b a))
      go true e = rw e (record { index = refl; ballot = refl; own = refl; heard = length-set p.heard r true; acked = refl })
      go false e = rw e (record { index = refl; ballot = refl; own = refl; heard = refl; acked = refl })
  told_keeps p (Ack r i b) = go (is_for p i b && is_promised p) refl
    where
      go : (t : Bool) → (is_for p i b && is_promised p) ≡ t → IsKept p (told p (Ack r i b))
      go true e = rw e (record { index = refl; ballot = refl; own = refl; heard = refl; acked = length-set p.acked r true })
      go false e = rw e (record { index = refl; ballot = refl; own = refl; heard = refl; acked = refl })

  -- a promised proposer stays so, with its value, whatever comes
  pub all_stay : (p : Proposing V) (later ms : List (Message V)) → is_promised (told_all p ms) ≡ true →
      (is_promised (told_all p (later ++ ms)) ≡ true) × (value_of (told_all p (later ++ ms)) ≡ value_of (told_all p ms))
  all_stay p [] ms e = (e, refl)
  all_stay p (m ∷ later) ms e =
      let k = all_stay p later ms e in
      let l = promised_stays (told_all p (later ++ ms)) m k.0 in
      (l.0, l.1 ∙ k.1)

module _ {V : Type 0} (n i : ℕ) (b : Ballot) (own : V) where
  -- the proposer after the messages
  abbrev pub state : List (Message V) → Proposing V
  state ms = told_all (begins n i b own) ms

  pub state_kept : (ms : List (Message V)) → IsKept (begins n i b own) (state ms)
  state_kept [] = record { index = refl; ballot = refl; own = refl; heard = refl; acked = refl }
  state_kept (m ∷ ms) =
      let k = state_kept ms in
      let l = told_keeps (state ms) m in
      record {
        index = l.index ∙ k.index;
        ballot = l.ballot ∙ k.ballot;
        own = l.own ∙ k.own;
        heard = l.heard ∙ k.heard;
        acked =
            l.acked ∙ k.acked;
      }

-- what each replica's first promise carries, as a function
module _ {V : Type 0} (n : ℕ) where
  -- the best value so far is the highest that a first promise carried
  abbrev pub IsBest : (ℕ → Option (Option (Ballot × V))) → Option (Ballot × V) → Type 0
  IsBest F None = (r : ℕ) (c : Ballot) (x : V) → r < n → F r ≡ Some (Some (c, x)) → ⊥
  IsBest F (Some y) = (r : ℕ) × (r < n) × (F r ≡ Some (Some y)) × ((q : ℕ) (c : Ballot) (x : V) → q < n →
      F q ≡ Some (Some (c, x)) → rank c ≤ rank y.0)

  -- the marks and the best value are those of the messages
  pub record IsTracked (F : ℕ → Option (Option (Ballot × V))) (p : Proposing V) : Type 0 where
    pub heard : (r : ℕ) → r < n → slice_get p.heard r ≡ Some (is_some (F r))
    pub best : IsBest F p.best

  pub best-cong : (F G : ℕ → Option (Option (Ballot × V))) → ((r : ℕ) → r < n → G r ≡ F r) → (best : Option (Ballot × V)) →
      IsBest F best → IsBest G best
  best-cong F G e None h = λ r c x lt k. h r c x lt (sym (e r lt) ∙ k)
  best-cong F G e (Some y) h = (h.0, h.1, e h.0 h.1 ∙ h.2, λ q c x lt k. h.3 q c x lt (sym (e q lt) ∙ k))

  pub tracked-cong : (F G : ℕ → Option (Option (Ballot × V))) → ((r : ℕ) → r < n → G r ≡ F r) → (p : Proposing V) →
      IsTracked F p → IsTracked G p
  tracked-cong F G e p h = record {
    heard = λ r lt. h.heard r lt ∙ ap (λ o. Some (is_some o)) (sym (e r lt));
    best =
        best-cong F G e p.best h.best;
  }

  -- one more replica promises
  pub record IsAdded (F G : ℕ → Option (Option (Ballot × V))) (q : ℕ) (a : Option (Ballot × V)) : Type 0 where
    pub below : q < n
    pub none : F q ≡ None
    pub here : G q ≡ Some a
    pub others : (r : ℕ) → (r ≡ q → ⊥) → G r ≡ F r

  module _ (F G : ℕ → Option (Option (Ballot × V))) (q : ℕ) (a : Option (Ballot × V)) (s : IsAdded F G q a) where
    -- a replica that carries a value now did so before, or is the new one
    pub new_or_old : (r : ℕ) (c : Ballot) (x : V) → G r ≡ Some (Some (c, x)) → (a ≡ Some (c, x)) ⊎ (F r ≡ Some (Some (c, x)))
    new_or_old r c x k = elim (same_place r q 0 0) [
      | inl e ↦ let here : Some a ≡ Some (Some (c, x)) = sym s.here ∙ subst (λ r. G r ≡ Some (Some (c, x))) e.0 k in inl (cc)
      | inr other ↦ inr (sym (s.others r (λ e. other e refl)) ∙ k)
    ]

    -- one that carried a value does still
    pub still : (r : ℕ) (y : Ballot × V) → F r ≡ Some (Some y) → G r ≡ Some (Some y)
    still r y k = elim (same_place r q 0 0) [
      | inl e ↦ let clash : None ≡ Some (Some y) = sym s.none ∙ subst (λ r. F r ≡ Some (Some y)) e.0 k in absurd (cc)
      | inr other ↦ s.others r (λ e. other e refl) ∙ k
    ]

  pub best_next : (F G : ℕ → Option (Option (Ballot × V))) (q : ℕ) (a best : Option (Ballot × V)) → IsAdded F G q a →
      IsBest F best → IsBest G (better best a)
  best_next F G q None None s h = λ r c x lt k. elim (new_or_old F G q None s r c x k) [ inl e ↦ cc | inr old ↦ h r c x lt old ]
  best_next F G q None (Some y) s h = (
    h.0,
    h.1,
    still F G q None s h.0 y h.2,
    λ r c x lt k. elim (new_or_old F G q None s r c x k)
        [ inl e ↦ absurd (cc) | inr old ↦ h.3 r c x lt old ],
  )
  best_next F G q (Some z) None s h = (
    q,
    s.below,
    s.here,
    λ r c x lt k. elim (new_or_old F G q (Some z) s r c x k) [
      | inl e ↦ let same : z ≡ (c, x) = cc in let f : rank z.0 ≡ rank c = ap (λ y. rank y.0) same in omega arith
      | inr old ↦ absurd (h r c x lt old)
    ],
  )
  best_next F G q (Some z) (Some y) s h = go (is_below y.0 z.0) refl
    where
      go : (t : Bool) → is_below y.0 z.0 ≡ t → IsBest G (if is_below y.0 z.0 then Some z else Some y)
      go true e =
          let lt : rank y.0 < rank z.0 = grind (arith, nat_tests) in
          rw e (
            q,
            s.below,
            s.here,
            λ r c x in_n k. elim (new_or_old F G q (Some z) s r c x k) [
              | inl e ↦ let same : z ≡ (c, x) = cc in let f : rank z.0 ≡ rank c = ap (λ y. rank y.0) same in omega arith
              | inr old ↦ let top = h.3 r c x in_n old in omega arith
            ],
          )
      go false e =
          let le : rank z.0 ≤ rank y.0 = grind (arith, nat_tests) in
          rw e (
            h.0,
            h.1,
            still F G q (Some z) s h.0 y h.2,
            λ r c x in_n k. elim (new_or_old F G q (Some z) s r c x k) [
              | inl e ↦ let same : z ≡ (c, x) = cc in let f : rank z.0 ≡ rank c = ap (λ y. rank y.0) same in omega arith
              | inr old ↦ h.3 r c x in_n old
            ],
          )

-- a mark that is set, and the others
pub mark_here : (xs : List Bool) (q : ℕ) → q < length xs → slice_get (slice_set xs q true) q ≡ Some true
mark_here [] q lt = absurd (omega arith)
mark_here (x ∷ xs) zero lt = refl
mark_here (x ∷ xs) (suc q) lt = mark_here xs q (omega arith)

pub mark_there : (xs : List Bool) (q r : ℕ) → (r ≡ q → ⊥) → slice_get (slice_set xs q true) r ≡ slice_get xs r
mark_there [] q r ne = refl
mark_there (x ∷ xs) zero zero ne = absurd (ne refl)
mark_there (x ∷ xs) zero (suc r) ne = refl
mark_there (x ∷ xs) (suc q) zero ne = refl
mark_there (x ∷ xs) (suc q) (suc r) ne = mark_there xs q r (λ e. ne (ap suc e))

-- a replica that may be marked has a mark that is false; else it has none, or a true one
pub unmarked : (xs : List Bool) (q : ℕ) → slice_index_or xs q true ≡ false → (q < length xs) × (slice_get xs q ≡ Some false)
unmarked [] q e = absurd (cc)
unmarked (x ∷ xs) zero e = (omega arith, ap Some e)
unmarked (x ∷ xs) (suc q) e = let k = unmarked xs q e in let lt = k.0 in (omega arith, k.1)

pub marked : (xs : List Bool) (q : ℕ) → q < length xs → slice_index_or xs q true ≡ true → slice_get xs q ≡ Some true
marked [] q lt e = absurd (omega arith)
marked (x ∷ xs) zero lt e = ap Some e
marked (x ∷ xs) (suc q) lt e = marked xs q (omega arith) e

pub not_is : (a : Bool) → not a ≡ false → a ≡ true
not_is true e = refl
not_is false e = cc

pub is_none_of : {X : Type 0} (o : Option X) → is_some o ≡ false → o ≡ None
is_none_of None e = refl
is_none_of (Some x) e = cc
