-- How far a proposal is, and what it proposes, after a whole list of messages.
use Rattle.std.proofs.Common.{◌≡◌, ℕ, zero, suc, ◌<◌, Bool, true, false, not, ◌&&◌, ◌||◌, List, [], ◌∷◌, ◌++◌, length, ◌⊎◌, inl}
use Rattle.std.proofs.Common.{inr, arith, subst, refl, sym, ◌∙◌, ap, replicate}
use Rattle.std.specs.Prelude.{slice_get, slice_set, Option, Some, None, is_some, IsSome, ◌==◌}
use Rattle.std.specs.List.{list_any}
use Rattle.std.proofs.lemmas.Option.{slice_get_within}
use Rattle.paxos_core.specs.declared.ballot.Ballot.{Ballot}
use Rattle.paxos_core.specs.declared.message.Message.{Message}
use Rattle.paxos_core.specs.declared.message.Message.TheVariants.{Ask, Promise, Put, Ack, Nack}
use Rattle.paxos_core.specs.Ballot.{rank}
use Rattle.paxos_core.specs.Majority.{is_majority, IsMajority}
use Rattle.paxos_core.specs.Proposing.{Proposing, begins, is_promised, is_for, is_new, told, stage_of, preferred, value_of}
use Rattle.paxos_core.specs.Messages.{first_of, first_carried, carried, HasPromised, is_ack, HasAcked, IsAcked, IsStage}
use Rattle.paxos_core.specs.Messages.{IsPreferred}
use Rattle.paxos_core.proofs.MajorityLemmas.{IsMajority-map, majority-mono, none_at_first, true_in_set}
use Rattle.paxos_core.proofs.AtAcceptor.{same_place}
use Rattle.paxos_core.proofs.Acceptance.{same_number}
use Rattle.paxos_core.proofs.ProposingLemmas.{and_true, is_for_means, promised_stays}
use Rattle.paxos_core.proofs.MessagesLemmas.{all_stay, state_kept, IsBest, IsTracked, mark_here, mark_there}
use Rattle.paxos_core.proofs.Tracking.{same_number_means, at, promises, index_is, ballot_is, heard_length, acked_length}
use Rattle.paxos_core.proofs.Tracking.{is_for-is, tracked_next}

pub false_at : (n r : ℕ) → r < n → slice_get (replicate n false) r ≡ Some false
false_at zero r lt = absurd (omega arith)
false_at (suc n) zero lt = refl
false_at (suc n) (suc r) lt = false_at n r (omega arith)

pub some_first : {X : Type 0} (o p : Option X) → IsSome o → IsSome (first_of o p)
some_first None p h = cc
some_first (Some x) p h = refl

pub or_true : (a b : Bool) → (a || b) ≡ true → (a ≡ true) ⊎ (b ≡ true)
or_true true b e = inl refl
or_true false b e = inr e

pub or_right : (a : Bool) → (a || true) ≡ true
or_right true = refl
or_right false = refl

module _ {V : Type 0} (n i : ℕ) (b : Ballot) (own : V) where
  -- before a majority promised, the marks and the best value are those of the messages
  pub tracked_while : (ms : List (Message V)) → is_promised (at n i b own ms) ≡ false →
      IsTracked n (promises n i b own ms) (at n i b own ms)
  tracked_while [] e = record { heard = λ r lt. false_at n r lt; best = λ r c x lt k. cc }
  tracked_while (m ∷ ms) e = go (is_promised (at n i b own ms)) refl (λ f. tracked_while ms f)
    where
      go : (t : Bool) → is_promised (at n i b own ms) ≡ t →
          (is_promised (at n i b own ms) ≡ false → IsTracked n (promises n i b own ms) (at n i b own ms)) →
          IsTracked n (promises n i b own (m ∷ ms)) (at n i b own (m ∷ ms))
      go true f before = let k = promised_stays (at n i b own ms) m f in let clash : true ≡ false = sym k.0 ∙ e in absurd (cc)
      go false f before = tracked_next n i b own ms m f (before f)

  -- promised means that a majority promised
  pub promised_means : (ms : List (Message V)) → is_promised (at n i b own ms) ≡ true → IsMajority n (HasPromised i b ms)
  promised_means [] e = record {
    marks = replicate n false;
    count = heard_length n i b own [];
    most = e;
    each =
        λ r h. absurd (none_at_first n r h);
  }
  promised_means (m ∷ ms) e = go (is_promised (at n i b own ms)) refl (λ f. promised_means ms f)
    where
      go : (t : Bool) → is_promised (at n i b own ms) ≡ t →
          (is_promised (at n i b own ms) ≡ true → IsMajority n (HasPromised i b ms)) → IsMajority n (HasPromised i b (m ∷ ms))
      go true f before = IsMajority-map n (λ r k. some_first (first_carried i b ms r) (carried i b r m) k) (before f)
      go false f before =
          let t = tracked_next n i b own ms m f (tracked_while ms f) in
          let len = heard_length n i b own (m ∷ ms) in
          record {
            marks = (at n i b own (m ∷ ms)).heard;
            count = len;
            most = e;
            each = λ r h.
                let within = slice_get_within (at n i b own (m ∷ ms)).heard r true h in
                let both : Some (is_some (promises n i b own (m ∷ ms) r)) ≡ Some true = sym (t.heard r (omega arith)) ∙ h in
                let there : is_some (promises n i b own (m ∷ ms) r) ≡ true = cc in
                there;
          }

  pub promised_from : (ms : List (Message V)) → IsMajority n (HasPromised i b ms) → is_promised (at n i b own ms) ≡ true
  promised_from ms most = go (is_promised (at n i b own ms)) refl
    where
      go : (t : Bool) → is_promised (at n i b own ms) ≡ t → is_promised (at n i b own ms) ≡ true
      go true e = e
      go false e =
          let t = tracked_while ms e in
          majority-mono most.marks (at n i b own ms).heard (most.count ∙ sym (heard_length n i b own ms))
          (λ r h.
          let within = slice_get_within most.marks r true h in
          let len = most.count in
          t.heard r (omega arith) ∙ ap (λ x. Some x) (most.each r h))
          most.most

  -- the value
  pub preferred_is : (ms : List (Message V)) (mine : V) → mine ≡ own → (best : Option (Ballot × V)) →
      IsBest n (promises n i b own ms) best → IsPreferred n i b own ms (preferred mine best)
  preferred_is ms mine e None h = inr (h, e)
  preferred_is ms mine e (Some y) h = inl (record { replica = h.0; ballot = y.0; below = h.1; carries = h.2; highest = h.3 })

  pub not_promised : (ms : List (Message V)) → (IsMajority n (HasPromised i b ms) → ⊥) → is_promised (at n i b own ms) ≡ false
  not_promised ms few = go (is_promised (at n i b own ms)) refl
    where
      go : (t : Bool) → is_promised (at n i b own ms) ≡ t → is_promised (at n i b own ms) ≡ false
      go true e = absurd (few (promised_means ms e))
      go false e = e

  pub value_is : (m : Message V) (ms : List (Message V)) → (IsMajority n (HasPromised i b ms) → ⊥) →
      IsPreferred n i b own (m ∷ ms) (value_of (at n i b own (m ∷ ms)))
  value_is m ms few =
      let e = not_promised ms few in
      let t = tracked_next n i b own ms m e (tracked_while ms e) in
      preferred_is (m ∷ ms) (at n i b own (m ∷ ms)).own (state_kept n i b own (m ∷ ms)).own (at n i b own (m ∷ ms)).best t.best

  pub settled : (later ms : List (Message V)) → IsMajority n (HasPromised i b ms) →
      value_of (at n i b own (later ++ ms)) ≡ value_of (at n i b own ms)
  settled later ms most = (all_stay (begins n i b own) later ms (promised_from ms most)).1

-- the marks of acks
module _ {V : Type 0} where
  pub acked_stays : (p : Proposing V) (m : Message V) (r : ℕ) → slice_get p.acked r ≡ Some true →
      slice_get (told p m).acked r ≡ Some true
  acked_stays p (Ask j c) r h = h
  acked_stays p (Put j c v) r h = h
  acked_stays p (Nack q j c) r h = h
  acked_stays p (Promise q j c a) r h = go (is_for p j c && (is_new p q && not (is_promised p))) refl
    where
      go : (t : Bool) → (is_for p j c && (is_new p q && not (is_promised p))) ≡ t →
          slice_get (told p (Promise q j c a)).acked r ≡ Some true
      go true e = rw e h
      go false e = rw e h
  acked_stays p (Ack q j c) r h = go (is_for p j c && is_promised p) refl
    where
      go : (t : Bool) → (is_for p j c && is_promised p) ≡ t → slice_get (told p (Ack q j c)).acked r ≡ Some true
      go true e =
          rw e (elim (same_place r q 0 0) [
            | inl same ↦ subst (λ x. slice_get (slice_set p.acked q true) x ≡ Some true) (sym same.0)
                (mark_here p.acked q (subst (λ x. x < length p.acked) same.0 (slice_get_within p.acked r true h)))
            | inr other ↦ mark_there p.acked q r (λ e. other e refl) ∙ h
          ])
      go false e = rw e h

  -- while it waits, no ack counts
  pub acked_waits : (p : Proposing V) (m : Message V) → is_promised p ≡ false → (told p m).acked ≡ p.acked
  acked_waits p (Ask j c) e = refl
  acked_waits p (Put j c v) e = refl
  acked_waits p (Nack q j c) e = refl
  acked_waits p (Promise q j c a) e = go (is_for p j c && (is_new p q && not (is_promised p))) refl
    where
      go : (t : Bool) → (is_for p j c && (is_new p q && not (is_promised p))) ≡ t → (told p (Promise q j c a)).acked ≡ p.acked
      go true f = rw f refl
      go false f = rw f refl
  acked_waits p (Ack q j c) e = go (is_for p j c && is_promised p) refl
    where
      go : (t : Bool) → (is_for p j c && is_promised p) ≡ t → (told p (Ack q j c)).acked ≡ p.acked
      go true f = let k = and_true (is_for p j c) (is_promised p) f in let clash : true ≡ false = sym k.1 ∙ e in absurd (cc)
      go false f = rw f refl

module _ {V : Type 0} (n i : ℕ) (b : Ballot) (own : V) where
  pub is_ack_here : (q r j : ℕ) (c : Ballot) → j ≡ i → rank c ≡ rank b → r ≡ q → is_ack {V = V} i b r (Ack q j c) ≡ true
  is_ack_here q r j c e f g =
      let x : (j == i) ≡ true = subst (λ k. (j == k) ≡ true) e (same_number j) in
      let y : (rank c == rank b) ≡ true = subst (λ k. (rank c == k) ≡ true) f (same_number (rank c)) in
      let z : (q == r) ≡ true = subst (λ k. (q == k) ≡ true) (sym g) (same_number q) in
      rw (x, y, z) refl

  -- a mark that is new is an ack
  pub acked_new : (ms : List (Message V)) (m : Message V) (r : ℕ) → slice_get (told (at n i b own ms) m).acked r ≡ Some true →
      (is_ack i b r m ≡ true) ⊎ (slice_get (at n i b own ms).acked r ≡ Some true)
  acked_new ms (Ask j c) r h = inr h
  acked_new ms (Put j c v) r h = inr h
  acked_new ms (Nack q j c) r h = inr h
  acked_new ms (Promise q j c a) r h =
      inr (go (is_for (at n i b own ms) j c && (is_new (at n i b own ms) q && not (is_promised (at n i b own ms)))) refl)
    where
      go : (t : Bool) → (is_for (at n i b own ms) j c && (is_new (at n i b own ms) q && not (is_promised (at n i b own ms)))) ≡
          t → slice_get (at n i b own ms).acked r ≡ Some true
      go true e = rw e at h
      go false e = rw e at h
  acked_new ms (Ack q j c) r h = go (is_for (at n i b own ms) j c && is_promised (at n i b own ms)) refl
    where
      go : (t : Bool) → (is_for (at n i b own ms) j c && is_promised (at n i b own ms)) ≡ t →
          (is_ack {V = V} i b r (Ack q j c) ≡ true) ⊎ (slice_get (at n i b own ms).acked r ≡ Some true)
      go true e =
          let parts = and_true (is_for (at n i b own ms) j c) (is_promised (at n i b own ms)) e in
          let mine = is_for_means (at n i b own ms) j c parts.0 in
          let set : slice_get (slice_set (at n i b own ms).acked q true) r ≡ Some true = rw e at h in
          elim (true_in_set (at n i b own ms).acked q r set) [
            | inl same ↦ inl (is_ack_here q r j c (mine.0 ∙ index_is n i b own ms)
                (mine.1 ∙ ap (λ b. rank b) (ballot_is n i b own ms)) same)
            | inr old ↦ inr old
          ]
      go false e = inr (rw e at h)

  -- an ack to a promised proposer is marked
  pub ack_marks : (ms : List (Message V)) (m : Message V) (r : ℕ) → r < n → is_promised (at n i b own ms) ≡ true →
      is_ack i b r m ≡ true → slice_get (told (at n i b own ms) m).acked r ≡ Some true
  ack_marks ms (Ask j c) r lt e h = cc
  ack_marks ms (Put j c v) r lt e h = cc
  ack_marks ms (Nack q j c) r lt e h = cc
  ack_marks ms (Promise q j c a) r lt e h = cc
  ack_marks ms (Ack q j c) r lt e h =
      let k = and_true (j == i) ((rank c == rank b) && (q == r)) h in
      let l = and_true (rank c == rank b) (q == r) k.1 in
      let same : q ≡ r = same_number_means q r l.1 in
      let mine : is_for (at n i b own ms) j c ≡ true =
      is_for-is n i b own ms j c ∙ (let x = k.0 in let y = l.0 in rw (x, y) refl) in
      let len = acked_length n i b own ms in
      let both : (is_for (at n i b own ms) j c && is_promised (at n i b own ms)) ≡ true = rw (mine, e) refl in
      rw both (subst (λ r. slice_get (slice_set (at n i b own ms).acked q true) r ≡ Some true) same
      (mark_here (at n i b own ms).acked q (omega arith)))

  pub acks_mark : (later ms : List (Message V)) → is_promised (at n i b own ms) ≡ true → (r : ℕ) → r < n →
      HasAcked i b later r → slice_get (at n i b own (later ++ ms)).acked r ≡ Some true
  acks_mark [] ms e r lt h = cc
  acks_mark (m ∷ later) ms e r lt h =
      elim (or_true (is_ack i b r m) (list_any (is_ack i b r) later) h) [
        | inl now ↦ ack_marks (later ++ ms) m r lt (all_stay (begins n i b own) later ms e).0 now
        | inr before ↦ acked_stays (at n i b own (later ++ ms)) m r (acks_mark later ms e r lt before)
      ]

  -- where the marks come from: none before a majority promised, and acks after that
  pub record IsSplit (ms : List (Message V)) : Type 0 where
    pub later : List (Message V)
    pub earlier : List (Message V)
    pub split : later ++ earlier ≡ ms
    pub promised : is_promised (at n i b own earlier) ≡ true
    pub acks : (r : ℕ) → slice_get (at n i b own ms).acked r ≡ Some true → HasAcked i b later r

  abbrev pub Unacked : List (Message V) → Type 0
  Unacked ms = (is_promised (at n i b own ms) ≡ false) × ((r : ℕ) → slice_get (at n i b own ms).acked r ≡ Some true → ⊥)

  pub split_or_not : (ms : List (Message V)) → ((r : ℕ) → slice_get (at n i b own ms).acked r ≡ Some true → ⊥) →
      Unacked ms ⊎ IsSplit ms
  split_or_not ms none = go (is_promised (at n i b own ms)) refl
    where
      go : (t : Bool) → is_promised (at n i b own ms) ≡ t → Unacked ms ⊎ IsSplit ms
      go false e = inl (e, none)
      go true e = inr (record { later = []; earlier = ms; split = refl; promised = e; acks = λ r h. absurd (none r h) })

  pub marks_come : (ms : List (Message V)) → Unacked ms ⊎ IsSplit ms
  marks_come [] = split_or_not [] (λ r h. none_at_first n r h)
  marks_come (m ∷ ms) = elim (marks_come ms) [
    | inl k ↦ split_or_not (m ∷ ms)
        (λ r h. k.1 r (subst (λ xs. slice_get xs r ≡ Some true) (acked_waits (at n i b own ms) m k.0) h))
    | inr s ↦ inr (record {
      later = m ∷ s.later;
      earlier = s.earlier;
      split = ap (λ ms. m ∷ ms) s.split;
      promised = s.promised;
      acks = λ r h. elim (acked_new ms m r h) [
        | inl now ↦ ap (λ t. t || list_any (is_ack i b r) s.later) now
        | inr old ↦ ap (λ t. is_ack i b r m || t) (s.acks r old) ∙ or_right (is_ack i b r m)
      ];
    })
  ]

  -- acked by a majority, exactly where a majority of marks is set
  pub acked_from : (ms : List (Message V)) → IsAcked n i b ms →
      (is_promised (at n i b own ms) ≡ true) × (is_majority (at n i b own ms).acked ≡ true)
  acked_from ms k =
      let e = promised_from n i b own k.earlier k.promises in
      let x = (all_stay (begins n i b own) k.later k.earlier e).0 in
      let most = k.acks in
      let y : is_majority (at n i b own (k.later ++ k.earlier)).acked ≡ true =
      majority-mono most.marks (at n i b own (k.later ++ k.earlier)).acked
      (most.count ∙ sym (acked_length n i b own (k.later ++ k.earlier)))
      (λ r h.
      let within = slice_get_within most.marks r true h in
      let len = most.count in
      acks_mark k.later k.earlier e r (omega arith) (most.each r h))
      most.most in (
        subst (λ ms. is_promised (at n i b own ms) ≡ true) k.split x,
        subst (λ ms. is_majority (at n i b own ms).acked ≡ true)
            k.split y,
      )

  pub acked_means : (ms : List (Message V)) → is_promised (at n i b own ms) ≡ true →
      is_majority (at n i b own ms).acked ≡ true → IsAcked n i b ms
  acked_means ms e most = elim (marks_come ms) [
    | inl k ↦ let clash : true ≡ false = sym e ∙ k.0 in absurd (cc)
    | inr s ↦ record {
      later = s.later;
      earlier = s.earlier;
      split = s.split;
      promises = promised_means n i b own s.earlier s.promised;
      acks = record { marks = (at n i b own ms).acked; count = acked_length n i b own ms; most = most; each = s.acks };
    }
  ]

  -- how far the proposal is
  pub stage_is : (ms : List (Message V)) → IsStage n i b ms (stage_of (at n i b own ms))
  stage_is ms = go (is_promised (at n i b own ms)) (is_majority (at n i b own ms).acked) refl refl
    where
      go : (t u : Bool) → is_promised (at n i b own ms) ≡ t → is_majority (at n i b own ms).acked ≡ u →
          IsStage n i b ms (stage_of (at n i b own ms))
      go false u e f = rw e (λ most. let clash : true ≡ false = sym (promised_from n i b own ms most) ∙ e in absurd (cc))
      go true false e f = rw (e, f) (
        promised_means n i b own ms e,
        λ k. let clash : true ≡ false =
            sym (acked_from ms k).1 ∙ f in absurd (cc),
      )
      go true true e f = rw (e, f) (acked_means ms e f)
