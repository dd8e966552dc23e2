-- A proposer follows its messages, whole lists of them.
use Rattle.std.proofs.Common.{◌≡◌, ℕ, ◌<◌, Bool, true, false, not, ◌&&◌, List, ◌∷◌, length, inl, inr, arith, subst, refl, sym}
use Rattle.std.proofs.Common.{◌∙◌, ap}
use Rattle.std.specs.Prelude.{slice_get, slice_set, slice_index_or, Option, Some, None, is_some, ◌==◌}
use Rattle.std.proofs.lemmas.Bool.Decides.{nat_tests}
use Rattle.std.proofs.lemmas.List.{length-replicate}
use Rattle.paxos_core.specs.declared.ballot.Ballot.{Ballot}
use Rattle.paxos_core.specs.declared.message.Message.{Message}
use Rattle.paxos_core.specs.declared.message.Message.TheVariants.{Ask, Promise, Put, Ack, Nack}
use Rattle.paxos_core.specs.Ballot.{rank}
use Rattle.paxos_core.specs.Proposing.{Proposing, is_promised, is_for, is_new, told}
use Rattle.paxos_core.specs.Messages.{carried, first_of, first_carried}
use Rattle.paxos_core.proofs.AtAcceptor.{same_place}
use Rattle.paxos_core.proofs.Acceptance.{same_number}
use Rattle.paxos_core.proofs.ProposingLemmas.{and_true, not_true, is_for_means}
use Rattle.paxos_core.proofs.MessagesLemmas.{state, state_kept, IsTracked, tracked-cong, IsAdded, best_next, mark_here}
use Rattle.paxos_core.proofs.MessagesLemmas.{mark_there, unmarked, marked, not_is, is_none_of}

pub first_of-None : {X : Type 0} (o : Option X) → first_of o None ≡ o
first_of-None None = refl
first_of-None (Some x) = refl

pub first_of-some : {X : Type 0} (o p : Option X) → is_some o ≡ true → first_of o p ≡ o
first_of-some None p e = cc
first_of-some (Some x) p e = refl

pub and_false : (a : Bool) → (a && false) ≡ false
and_false true = refl
and_false false = refl

pub same_number_means : (x y : ℕ) → (x == y) ≡ true → x ≡ y
same_number_means x y e = grind (arith, nat_tests)

pub other_number : (x y : ℕ) → (x ≡ y → ⊥) → (x == y) ≡ false
other_number x y ne = go (x == y) refl
  where
    go : (t : Bool) → (x == y) ≡ t → (x == y) ≡ false
    go true e = absurd (ne (same_number_means x y e))
    go false e = e

module _ {V : Type 0} (i : ℕ) (b : Ballot) (q j : ℕ) (c : Ballot) (a : Option (Ballot × V)) where
  -- what a promise carries, for its own replica, for another, and where it is not for this index and ballot
  pub carried_here : j ≡ i → rank c ≡ rank b → carried i b q (Promise q j c a) ≡ Some a
  carried_here e f =
      let x : (j == i) ≡ true = subst (λ k. (j == k) ≡ true) e (same_number j) in
      let y : (rank c == rank b) ≡ true = subst (λ k. (rank c == k) ≡ true) f (same_number (rank c)) in
      let z = same_number q in
      rw (x, y, z) refl

  pub carried_there : (r : ℕ) → (r ≡ q → ⊥) → carried i b r (Promise q j c a) ≡ None
  carried_there r ne =
      let z = other_number q r (λ e. ne (sym e)) in
      let x = and_false (rank c == rank b) in
      let y = and_false (j == i) in
      rw (z, x, y) refl

  pub carried_nowhere : (r : ℕ) → ((j == i) && (rank c == rank b)) ≡ false → carried i b r (Promise q j c a) ≡ None
  carried_nowhere r e = go (j == i) (rank c == rank b) refl refl
    where
      go : (t u : Bool) → (j == i) ≡ t → (rank c == rank b) ≡ u → carried i b r (Promise q j c a) ≡ None
      go false u f g = rw f refl
      go true false f g = rw (f, g) refl
      go true true f g = let clash : true ≡ false = sym (rw (f, g) refl) ∙ e in absurd (cc)

module _ {V : Type 0} (n i : ℕ) (b : Ballot) (own : V) where
  abbrev pub at : List (Message V) → Proposing V
  at ms = state n i b own ms

  -- who promised, with what, as a function of the replica
  abbrev pub promises : List (Message V) → ℕ → Option (Option (Ballot × V))
  promises ms r = first_carried i b ms r

  pub index_is : (ms : List (Message V)) → (at ms).index ≡ i
  index_is ms = (state_kept n i b own ms).index

  pub ballot_is : (ms : List (Message V)) → (at ms).ballot ≡ b
  ballot_is ms = (state_kept n i b own ms).ballot

  pub heard_length : (ms : List (Message V)) → length (at ms).heard ≡ n
  heard_length ms = (state_kept n i b own ms).heard ∙ length-replicate n false

  pub acked_length : (ms : List (Message V)) → length (at ms).acked ≡ n
  acked_length ms = (state_kept n i b own ms).acked ∙ length-replicate n false

  pub is_for-is : (ms : List (Message V)) (j : ℕ) (c : Ballot) → is_for (at ms) j c ≡ ((j == i) && (rank c == rank b))
  is_for-is ms j c = let e = index_is ms in let f = ballot_is ms in
      ap (λ k. (j == k) && (rank c == rank (at ms).ballot)) e ∙ ap (λ k. (j == i) && (rank c == rank k)) f

  pub tracked_next : (ms : List (Message V)) (m : Message V) → is_promised (at ms) ≡ false →
      IsTracked n (promises ms) (at ms) → IsTracked n (promises (m ∷ ms)) (told (at ms) m)
  tracked_next ms (Ask j c) waits t =
      tracked-cong n (promises ms) (promises (Ask j c ∷ ms)) (λ r lt. first_of-None (promises ms r)) (at ms) t
  tracked_next ms (Put j c v) waits t =
      tracked-cong n (promises ms) (promises (Put j c v ∷ ms)) (λ r lt. first_of-None (promises ms r)) (at ms) t
  tracked_next ms (Nack q j c) waits t =
      tracked-cong n (promises ms) (promises (Nack q j c ∷ ms)) (λ r lt. first_of-None (promises ms r)) (at ms) t
  tracked_next ms (Ack q j c) waits t =
      let unmoved : told (at ms) (Ack q j c) ≡ at ms = let no_more = and_false (is_for (at ms) j c) in
      rw (waits, no_more) refl in
      subst (λ p. IsTracked n (promises (Ack q j c ∷ ms)) p) (sym unmoved)
      (tracked-cong n (promises ms) (promises (Ack q j c ∷ ms)) (λ r lt. first_of-None (promises ms r)) (at ms) t)
  tracked_next ms (Promise q j c a) waits t = go (is_for (at ms) j c && (is_new (at ms) q && not (is_promised (at ms)))) refl
    where
      go : (u : Bool) → (is_for (at ms) j c && (is_new (at ms) q && not (is_promised (at ms)))) ≡ u →
          IsTracked n (promises (Promise q j c a ∷ ms)) (told (at ms) (Promise q j c a))
      go true e =
          let parts = and_true (is_for (at ms) j c) (is_new (at ms) q && not (is_promised (at ms))) e in
          let rest = and_true (is_new (at ms) q) (not (is_promised (at ms))) parts.1 in
          let mine = is_for_means (at ms) j c parts.0 in
          let at_index : j ≡ i = mine.0 ∙ index_is ms in
          let at_ballot : rank c ≡ rank b = mine.1 ∙ ap (λ b. rank b) (ballot_is ms) in
          let free = unmarked (at ms).heard q (not_true (slice_index_or (at ms).heard q true) rest.0) in
          let len = heard_length ms in
          let in_marks = free.0 in
          let below : q < n = omega arith in
          let both : Some (is_some (promises ms q)) ≡ Some false = sym (t.heard q below) ∙ free.1 in
          let unheard : is_some (promises ms q) ≡ false = cc in
          let none : promises ms q ≡ None = is_none_of (promises ms q) unheard in
          let carries = carried_here i b q j c a at_index at_ballot in
          let added : IsAdded n (promises ms) (promises (Promise q j c a ∷ ms)) q a =
          record {
            below = below;
            none = none;
            here = ap (λ o. first_of o (carried i b q (Promise q j c a))) none ∙ carries;
            others = λ r ne. ap (λ o. first_of (promises ms r) o) (carried_there i b q j c a r ne) ∙ first_of-None
                (promises ms r);
          } in
          rw e
          (record {
            heard = λ r lt. elim (same_place r q 0 0) [
              | inl same ↦ subst (λ r. slice_get (slice_set (at ms).heard q true) r ≡ Some
                  (is_some (promises (Promise q j c a ∷ ms) r))) (sym same.0)
                  (mark_here (at ms).heard q in_marks ∙ ap (λ o. Some (is_some o)) (sym added.here))
              | inr other ↦ mark_there (at ms).heard q r (λ e. other e refl) ∙ t.heard r lt ∙ ap (λ o. Some (is_some o))
                  (sym (added.others r (λ e. other e refl)))
            ];
            best = best_next n (promises ms) (promises (Promise q j c a ∷ ms)) q a (at ms).best added t.best;
          })
      go false e =
          rw e (tracked-cong n (promises ms) (promises (Promise q j c a ∷ ms)) (λ r lt. unmoved r lt (is_for (at ms) j c) refl)
          (at ms) t)
        where
          unmoved : (r : ℕ) → r < n → (u : Bool) → is_for (at ms) j c ≡ u → promises (Promise q j c a ∷ ms) r ≡ promises ms r
          unmoved r lt false f =
              let nowhere = carried_nowhere i b q j c a r (sym (is_for-is ms j c) ∙ f) in
              ap (λ o. first_of (promises ms r) o) nowhere ∙ first_of-None (promises ms r)
          unmoved r lt true f =
              elim (same_place r q 0 0) [
                | inl same ↦
                    let old : is_new (at ms) q ≡ false = heard_before (is_new (at ms) q) refl f in
                    let len = heard_length ms in
                    let eq : r ≡ q = same.0 in
                    let in_marks : q < length (at ms).heard = omega arith in
                    let mark = marked (at ms).heard q in_marks (not_is (slice_index_or (at ms).heard q true) old) in
                    let both : Some (is_some (promises ms q)) ≡ Some true = sym (t.heard q (omega arith)) ∙ mark in
                    let there : is_some (promises ms q) ≡ true = cc in
                    first_of-some (promises ms r) (carried i b r (Promise q j c a))
                    (subst (λ r. is_some (promises ms r) ≡ true) (sym eq) there)
                | inr other ↦ ap (λ o. first_of (promises ms r) o) (carried_there i b q j c a r (λ e. other e refl)) ∙
                    first_of-None (promises ms r)
              ]
            where
              heard_before : (x : Bool) → is_new (at ms) q ≡ x → is_for (at ms) j c ≡ true → is_new (at ms) q ≡ false
              heard_before false g f = g
              heard_before true g f = let clash : true ≡ false = sym (rw (f, g, waits) refl) ∙ e in absurd (cc)
