-- What a message makes of a proposer.
use Rattle.std.proofs.Common.{◌≡◌, ℕ, ◌<◌, ◌≤◌, Bool, true, false, not, ◌&&◌, ◌⊎◌, inl, inr, arith, refl, sym, ◌∙◌}
use Rattle.std.specs.Prelude.{Option, Some, None, ◌==◌, if◌then◌else◌}
use Rattle.std.proofs.lemmas.Bool.Decides.{nat_tests}
use Rattle.paxos_core.specs.declared.ballot.Ballot.{Ballot}
use Rattle.paxos_core.specs.declared.message.Message.{Message}
use Rattle.paxos_core.specs.declared.message.Message.TheVariants.{Ask, Promise, Put, Ack, Nack}
use Rattle.paxos_core.specs.Ballot.{rank, is_below}
use Rattle.paxos_core.specs.Proposing.{Proposing, is_promised, is_for, is_new, better, told, value_of}
use Rattle.paxos_core.specs.World.{World}
use Rattle.paxos_core.proofs.Invariant.{Reaches, IsSomeVote}

pub and_true : (a b : Bool) → (a && b) ≡ true → (a ≡ true) × (b ≡ true)
and_true true true e = (refl, refl)
and_true true false e = cc
and_true false b e = cc

pub not_true : (a : Bool) → not a ≡ true → a ≡ false
not_true true e = cc
not_true false e = refl

module _ {V : Type 0} where
  -- an answer that is for the proposer has its index and its ballot
  pub is_for_means : (p : Proposing V) (i : ℕ) (b : Ballot) → is_for p i b ≡ true → (i ≡ p.index) × (rank b ≡ rank p.ballot)
  is_for_means p i b e =
      let k = and_true (i == p.index) (rank b == rank p.ballot) e in
      let f = k.0 in
      let g = k.1 in
      (grind (arith, nat_tests), grind (arith, nat_tests))

  -- nothing changes what a promised proposer proposes
  pub promised_stays : (p : Proposing V) (m : Message V) → is_promised p ≡ true →
      (is_promised (told p m) ≡ true) × (value_of (told p m) ≡ value_of p)
  promised_stays p (Ask i b) e = (e, refl)
  promised_stays p (Put i b v) e = (e, refl)
  promised_stays p (Nack r i b) e = (e, refl)
  promised_stays p (Promise r i b a) e = go (is_for p i b && (is_new p r && not (is_promised p))) refl
    where
      go : (t : Bool) → (is_for p i b && (is_new p r && not (is_promised p))) ≡ t →
          (is_promised (told p (Promise r i b a)) ≡ true) × (value_of (told p (Promise r i b a)) ≡ value_of p)
      go true f =
          let k = and_true (is_for p i b) (is_new p r && not (is_promised p)) f in
          let l = and_true (is_new p r) (not (is_promised p)) k.1 in
          let no_more = not_true (is_promised p) l.1 in
          let clash : true ≡ false = sym e ∙ no_more in cc
      go false f = (rw f e, rw f refl)
  promised_stays p (Ack r i b) e = go (is_for p i b && is_promised p) refl
    where
      go : (t : Bool) → (is_for p i b && is_promised p) ≡ t →
          (is_promised (told p (Ack r i b)) ≡ true) × (value_of (told p (Ack r i b)) ≡ value_of p)
      go true f = (rw f e, rw f refl)
      go false f = (rw f e, rw f refl)

  -- the better of two reaches what either reaches
  pub better_reaches : (best accepted : Option (Ballot × V)) (c : ℕ) → Reaches best c ⊎ Reaches accepted c →
      Reaches (better best accepted) c
  better_reaches None None c h = elim h [ inl k ↦ k | inr k ↦ k ]
  better_reaches (Some x) None c h = elim h [ inl k ↦ k | inr k ↦ absurd k ]
  better_reaches None (Some y) c h = elim h [ inl k ↦ absurd k | inr k ↦ k ]
  better_reaches (Some x) (Some y) c h = go (is_below x.0 y.0) refl
    where
      go : (t : Bool) → is_below x.0 y.0 ≡ t → Reaches (if is_below x.0 y.0 then Some y else Some x) c
      go true e = let lt : rank x.0 < rank y.0 = grind (arith, nat_tests) in rw e (elim h [ inl k ↦ omega arith | inr k ↦ k ])
      go false e = let le : rank y.0 ≤ rank x.0 = grind (arith, nat_tests) in rw e (elim h [ inl k ↦ k | inr k ↦ omega arith ])

  -- the better of two votes is a vote
  pub better_is_vote : (w : World V) (i b : ℕ) (best accepted : Option (Ballot × V)) → IsSomeVote w i b best →
      IsSomeVote w i b accepted → IsSomeVote w i b (better best accepted)
  better_is_vote w i b None None h k = tt
  better_is_vote w i b (Some x) None h k = h
  better_is_vote w i b None (Some y) h k = k
  better_is_vote w i b (Some x) (Some y) h k = go (is_below x.0 y.0) refl
    where
      go : (t : Bool) → is_below x.0 y.0 ≡ t → IsSomeVote w i b (if is_below x.0 y.0 then Some y else Some x)
      go true e = rw e k
      go false e = rw e h
