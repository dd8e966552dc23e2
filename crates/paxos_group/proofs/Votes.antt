-- What a replica accepted stays accepted, whatever comes.
use Rattle.std.proofs.Common.{◌≡◌, ℕ, Bool, true, false, subst, refl, arith}
use Rattle.std.specs.Prelude.{Some, IsSome, ◌==◌, if◌then◌else◌}
use Rattle.std.proofs.lemmas.Bool.Decides.{nat_tests}
use Rattle.paxos_core.specs.declared.message.Message.{Message}
use Rattle.paxos_core.specs.declared.message.Message.TheVariants.{Ask, Promise, Put, Ack, Nack}
use Rattle.paxos_core.specs.declared.acceptor.Standing.{Standing}
use Rattle.paxos_core.specs.Ballot.{is_below}
use Rattle.paxos_core.specs.Standing.{index_of, after, with_message}
use Rattle.paxos_group.specs.Scene.{moved}

module _ {V : Type 0} where
  after_votes : (s : Standing V) (m : Message V) → IsSome s.accepted → IsSome (after s m).accepted
  after_votes s (Ask i b) h = go (is_below b s.promised)
    where
      go : (t : Bool) → let s' : Standing V = if t then s else record { promised = b; accepted = s.accepted } in
          IsSome s'.accepted
      go true = h
      go false = h
  after_votes s (Put i b v) h = go (is_below b s.promised)
    where
      go : (t : Bool) → let s' : Standing V = if t then s else record { promised = b; accepted = Some (b, v) } in
          IsSome s'.accepted
      go true = h
      go false = refl
  after_votes s (Promise r i b a) h = h
  after_votes s (Ack r i b) h = h
  after_votes s (Nack r i b) h = h

  message_votes : (f : ℕ → Standing V) (m : Message V) (i : ℕ) → IsSome (f i).accepted → IsSome (with_message f m i).accepted
  message_votes f m i h = go (i == index_of m)
    where
      go : (t : Bool) → let s' : Standing V = if t then after (f i) m else f i in IsSome s'.accepted
      go true = after_votes (f i) m h
      go false = h

  pub moved_votes : (kept : ℕ → ℕ → Standing V) (r : ℕ) (m : Message V) (q i : ℕ) → IsSome (kept q i).accepted →
      IsSome (moved kept r m q i).accepted
  moved_votes kept r m q i h = go (q == r) refl
    where
      go : (t : Bool) → (q == r) ≡ t → let s' : Standing V = if t then with_message (kept r) m i else kept q i in
          IsSome s'.accepted
      go true e = let same : q ≡ r = grind (arith, nat_tests) in
          message_votes (kept r) m i (subst (λ q. IsSome (kept q i).accepted) same h)
      go false e = h
