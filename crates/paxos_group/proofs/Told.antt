-- What a message makes of the proposer of an attempt.
use Rattle.std.proofs.Common.{◌≡◌, ℕ, zero, suc, Bool, true, false, not, ◌&&◌, List, [], ◌∷◌, inl, inr, subst, refl, sym, ◌∙◌}
use Rattle.std.proofs.Common.{ap}
use Rattle.std.specs.Prelude.{slice_get, slice_set, slice_index_or, Option, Some, None, if◌then◌else◌}
use Rattle.std.proofs.lemmas.List.{length-set}
use Rattle.outside.specs.declared.weather.MessageKind.TheVariants as kind
use Rattle.paxos_core.specs.declared.ballot.Ballot.{Ballot}
use Rattle.paxos_core.specs.declared.message.Message.{Message}
use Rattle.paxos_core.specs.declared.message.Message.TheVariants.{Ask, Promise, Put, Ack, Nack}
use Rattle.paxos_core.specs.declared.acceptor.Standing.{Standing}
use Rattle.paxos_core.specs.Ballot.{rank, is_below}
use Rattle.paxos_core.specs.Proposing.{Proposing, is_promised, is_for, is_new, better, told}
use Rattle.paxos_core.proofs.ProposingLemmas.{and_true, is_for_means, promised_stays}
use Rattle.paxos_core.proofs.MessagesLemmas.{mark_here, marked}
use Rattle.paxos_core.proofs.MajorityLemmas.{true_in_set}
use Rattle.paxos_group.specs.Sound.{Attempt, IsProposed, IsPresent, IsSent, IsNotLost, Keeps, ProposerOk}
use Rattle.paxos_group.specs.Steps.{Grows, IsAwaited, IsCounted}

-- what is true stays so where one more is
pub true_stays : (xs : List Bool) (q r : ℕ) → slice_get xs r ≡ Some true → slice_get (slice_set xs q true) r ≡ Some true
true_stays [] q r h = h
true_stays (x ∷ xs) zero zero h = refl
true_stays (x ∷ xs) zero (suc r) h = h
true_stays (x ∷ xs) (suc q) zero h = h
true_stays (x ∷ xs) (suc q) (suc r) h = true_stays xs q r h

module _ {V : Type 0} where
  pub grows-refl : (p : Proposing V) → Grows p p
  grows-refl p = record { heard = λ r h. h; acked = λ r h. h; promised = λ h. h }

  pub grows-trans : (p q s : Proposing V) → Grows p q → Grows q s → Grows p s
  grows-trans p q s g h = record {
    heard = λ r k. h.heard r (g.heard r k);
    acked = λ r k. h.acked r (g.acked r k);
    promised =
        λ k. h.promised (g.promised k);
  }

  pub grows_told : (p : Proposing V) (m : Message V) → Grows p (told p m)
  grows_told p (Ask i b) = grows-refl p
  grows_told p (Put i b v) = grows-refl p
  grows_told p (Nack q i b) = grows-refl p
  grows_told p (Promise q i b a) = record {
    heard = λ r h. heard r h (is_for p i b && (is_new p q && not (is_promised p))) refl;
    acked = λ r h. acked r h (is_for p i b && (is_new p q && not (is_promised p))) refl;
    promised = λ h. (promised_stays p (Promise q i b a) h).0;
  }
    where
      heard : (r : ℕ) → slice_get p.heard r ≡ Some true → (t : Bool) →
          (is_for p i b && (is_new p q && not (is_promised p))) ≡ t → slice_get (told p (Promise q i b a)).heard r ≡ Some true
      heard r h true e = rw e (true_stays p.heard q r h)
      heard r h false e = rw e h

      acked : (r : ℕ) → slice_get p.acked r ≡ Some true → (t : Bool) →
          (is_for p i b && (is_new p q && not (is_promised p))) ≡ t → slice_get (told p (Promise q i b a)).acked r ≡ Some true
      acked r h true e = rw e h
      acked r h false e = rw e h
  grows_told p (Ack q i b) = record {
    heard = λ r h. heard r h (is_for p i b && is_promised p) refl;
    acked = λ r h. acked r h (is_for p i b && is_promised p) refl;
    promised = λ h. (promised_stays p (Ack q i b) h).0;
  }
    where
      heard : (r : ℕ) → slice_get p.heard r ≡ Some true → (t : Bool) → (is_for p i b && is_promised p) ≡ t →
          slice_get (told p (Ack q i b)).heard r ≡ Some true
      heard r h true e = rw e h
      heard r h false e = rw e h

      acked : (r : ℕ) → slice_get p.acked r ≡ Some true → (t : Bool) → (is_for p i b && is_promised p) ≡ t →
          slice_get (told p (Ack q i b)).acked r ≡ Some true
      acked r h true e = rw e (true_stays p.acked q r h)
      acked r h false e = rw e h

  -- an answer that was awaited is counted once it comes
  pub counted_told : (p : Proposing V) (m : Message V) → IsAwaited p m → IsCounted (told p m) m
  counted_told p (Ask i b) w = tt
  counted_told p (Put i b v) w = tt
  counted_told p (Nack q i b) w = tt
  counted_told p (Promise q i b a) w = go (is_promised p) (slice_index_or p.heard q true) refl refl
    where
      go : (t u : Bool) → is_promised p ≡ t → slice_index_or p.heard q true ≡ u →
          IsCounted (told p (Promise q i b a)) (Promise q i b a)
      go true u e f = inl ((grows_told p (Promise q i b a)).promised e)
      go false true e f = inr ((grows_told p (Promise q i b a)).heard q (marked p.heard q w.1 f))
      go false false e f = let fits = w.0 in inr (rw (fits, f, e) (mark_here p.heard q w.1))
  counted_told p (Ack q i b) w = let fits = w.0 in let promised = w.1 in rw (fits, promised) (mark_here p.acked q w.2)

  -- and stays so
  pub counted_grows : (p q : Proposing V) (m : Message V) → Grows p q → IsCounted p m → IsCounted q m
  counted_grows p q (Ask i b) g h = tt
  counted_grows p q (Put i b v) g h = tt
  counted_grows p q (Nack r i b) g h = tt
  counted_grows p q (Promise r i b a) g h = elim h [ inl k ↦ inl (g.promised k) | inr k ↦ inr (g.heard r k) ]
  counted_grows p q (Ack r i b) g h = g.acked r h

  -- the better of two commands of the index is its command
  pub better_proposed : (x : Attempt V) (i : ℕ) (best accepted : Option (Ballot × V)) → IsProposed x i best →
      IsProposed x i accepted → IsProposed x i (better best accepted)
  better_proposed x i None None h k = tt
  better_proposed x i (Some y) None h k = h
  better_proposed x i None (Some z) h k = k
  better_proposed x i (Some y) (Some z) h k = go (is_below y.0 z.0) refl
    where
      go : (t : Bool) → is_below y.0 z.0 ≡ t → IsProposed x i (if is_below y.0 z.0 then Some z else Some y)
      go true e = rw e k
      go false e = rw e h

  pub proposer_told : (x : Attempt V) (count : ℕ) (kept : ℕ → ℕ → Standing V) (r : ℕ) (p : Proposing V) (m : Message V) →
      ProposerOk x count kept p → IsSent x kept r m → IsNotLost x r m → ProposerOk x count kept (told p m)
  proposer_told x count kept r p (Ask i b) h sent heard = h
  proposer_told x count kept r p (Put i b v) h sent heard = h
  proposer_told x count kept r p (Nack q i b) h sent heard = h
  proposer_told x count kept r p (Promise q i b a) h sent heard = go (is_for p i b && (is_new p q && not (is_promised p))) refl
    where
      go : (t : Bool) → (is_for p i b && (is_new p q && not (is_promised p))) ≡ t →
          ProposerOk x count kept (told p (Promise q i b a))
      go false e = rw e h
      go true e =
          let parts = and_true (is_for p i b) (is_new p q && not (is_promised p)) e in
          let mine = is_for_means p i b parts.0 in
          let at : i ≡ x.index = mine.0 ∙ h.index in
          let carried : IsProposed x x.index a = subst (λ i. IsProposed x i a) at sent.proposed in
          rw e (record {
            index = h.index;
            ballot = h.ballot;
            own = h.own;
            best = better_proposed x x.index p.best a h.best carried;
            heard = length-set p.heard q true ∙ h.heard;
            acked = h.acked;
            keeps = h.keeps;
            put = h.put;
            ack = h.ack;
          })
  proposer_told x count kept r p (Ack q i b) h sent heard = go (is_for p i b && is_promised p) refl
    where
      go : (t : Bool) → (is_for p i b && is_promised p) ≡ t → ProposerOk x count kept (told p (Ack q i b))
      go false e = rw e h
      go true e =
          let parts = and_true (is_for p i b) (is_promised p) e in
          let mine = is_for_means p i b parts.0 in
          let at : i ≡ x.index = mine.0 ∙ h.index in
          let under : rank b ≡ rank (record { round = x.round; proposer = 0 }) = mine.1 ∙ ap (λ b. rank b) h.ballot in
          let present : IsPresent x i b = (at, under) in
          let from : q ≡ r = sent.from in
          rw e (record {
            index = h.index;
            ballot = h.ballot;
            own = h.own;
            best = h.best;
            heard = h.heard;
            acked = length-set p.acked q true ∙ h.acked;
            keeps = λ s k. elim (true_in_set p.acked q s k) [
              | inl here ↦ subst (λ s. Keeps x kept s x.index) (sym (here ∙ from))
                  (subst (λ i. Keeps x kept r i) at (sent.keeps present))
              | inr there ↦ h.keeps s there
            ];
            put = λ s k. elim (true_in_set p.acked q s k) [
              | inl here ↦ subst (λ s. x.silent s kind.Put ≡ false) (sym (here ∙ from)) (sent.put present)
              | inr there ↦ h.put s there
            ];
            ack = λ s k. elim (true_in_set p.acked q s k) [
              | inl here ↦ subst (λ s. x.silent s kind.Ack ≡ false) (sym (here ∙ from)) (heard present)
              | inr there ↦ h.ack s there
            ];
          })
