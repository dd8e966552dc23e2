-- What the parts of an attempt do, from one moment to a later one.
use Rattle.std.specs.Prelude.{◌≡◌, ℕ, ◌+◌, ◌*◌, ◌<◌, ◌≤◌, Bool, true, ◌⊎◌, List, length, Option, Some, slice_get, IsTrue}
use Rattle.std.specs.Prelude.{IsSome, ⊤}
use Rattle.slab.specs.Slab.{slab_len}
use Rattle.outside.specs.declared.weather.Fate.{Fate}
use Rattle.outside.specs.declared.weather.Fate.TheVariants.{Lose}
use Rattle.outside.specs.declared.weather.MessageKind.{MessageKind}
use Rattle.nfs3_types.specs.Count.{Rose}
use Rattle.outside.specs.Weather.{WeatherTold, is_bad, Draws}
use Rattle.paxos_core.specs.declared.ballot.Ballot.{Ballot}
use Rattle.paxos_core.specs.declared.message.Message.{Message}
use Rattle.paxos_core.specs.declared.message.Message.TheVariants.{Ask, Promise, Put, Ack, Nack}
use Rattle.paxos_core.specs.Majority.{IsMajority}
use Rattle.paxos_core.specs.Proposing.{Proposing, is_promised, is_for}
use Rattle.paxos_group.specs.Fates.{Delivers}
use Rattle.paxos_group.specs.Scene.{Scene, StoreWeather}
use Rattle.paxos_core.specs.declared.acceptor.Standing.{Standing}
use Rattle.paxos_group.specs.Sound.{Attempt, Stands, ProposerOk, IsSent, IsNotLost, ballot_of}
use Rattle.paxos_group.specs.declared.net.TheConstants.{MOST_HELD}

-- from before to now a message of this kind and replica met this fate
pub record Met (before now : StoreWeather) (r : ℕ) (k : MessageKind) (fate : Fate) : Type 0 where
  pub rose : IsTrue (is_bad fate) → Rose (before.bad r) (now.bad r)
  pub rises : (q : ℕ) → before.bad q ≤ now.bad q
  pub draws : Draws before.to_come now.to_come fate
  pub lost : before.silent r k ≡ true → fate ≡ Lose
  pub same_silence : (q : ℕ) (j : MessageKind) → now.silent q j ≡ before.silent q j

-- no count of bad fates fell, of any store, and the same messages are always lost
pub record Endures {W : Type 0} (told : WeatherTold W) (before now : W) : Type 0 where
  pub never_falls : (store r : ℕ) → told.bad before store r ≤ told.bad now store r
  pub same_silence : (store r : ℕ) (k : MessageKind) → told.silent now store r k ≡ told.silent before store r k

-- how many replicas a group has
abbrev pub IsGroupSize : ℕ → Type 0
IsGroupSize n = (n ≡ 3) ⊎ (n ≡ 5)

module _ {V : Type 0} where
  -- a proposer heard no less
  pub record Grows (p q : Proposing V) : Type 0 where
    pub heard : (r : ℕ) → slice_get p.heard r ≡ Some true → slice_get q.heard r ≡ Some true
    pub acked : (r : ℕ) → slice_get p.acked r ≡ Some true → slice_get q.acked r ≡ Some true
    pub promised : is_promised p ≡ true → is_promised q ≡ true

  -- a message came to the proposer, perhaps: what holds of it still does, if the message was sent and not lost
  pub record Came (m : Message V) (p q : Proposing V) : Type 0 where
    pub grows : Grows p q
    pub sound : (x : Attempt V) (count : ℕ) (kept : ℕ → ℕ → Standing V) (r : ℕ) → ProposerOk x count kept p →
        IsSent x kept r m → IsNotLost x r m → ProposerOk x count kept q

  -- from old to new what holds still holds, where this is given; nothing that only grows fell
  pub record Goes (Given : Attempt V → Type 0) (old new : Scene V) : Type 0 where
    pub sound : (x : Attempt V) → Stands x old → Given x → Stands x new
    pub grows : Grows old.proposing new.proposing
    pub rises : (r : ℕ) → old.weather.bad r ≤ new.weather.bad r
    pub store : new.store ≡ old.store
    pub count : new.count ≡ old.count
    pub votes : (r i : ℕ) → IsSome (old.kept r i).accepted → IsSome (new.kept r i).accepted
    pub within : slab_len old.held ≤ MOST_HELD → slab_len new.held ≤ MOST_HELD

  -- nothing is held, and the next n fates are Deliver
  pub record IsCalm (s : Scene V) (n : ℕ) : Type 0 where
    pub empty : slab_len s.held ≡ 0
    pub fates : Delivers n s.weather.to_come

  -- the message is a promise or an ack that the proposer waits for
  abbrev pub IsAwaited : Proposing V → Message V → Type 0
  IsAwaited p (Promise q i b a) = (is_for p i b ≡ true) × (q < length p.heard)
  IsAwaited p (Ack q i b) = (is_for p i b ≡ true) × (is_promised p ≡ true) × (q < length p.acked)
  IsAwaited p (Ask i b) = ⊤
  IsAwaited p (Put i b v) = ⊤
  IsAwaited p (Nack q i b) = ⊤

  -- the proposer has what the message tells
  abbrev pub IsCounted : Proposing V → Message V → Type 0
  IsCounted p (Promise q i b a) = (is_promised p ≡ true) ⊎ (slice_get p.heard q ≡ Some true)
  IsCounted p (Ack q i b) = slice_get p.acked q ≡ Some true
  IsCounted p (Ask i b) = ⊤
  IsCounted p (Put i b v) = ⊤
  IsCounted p (Nack q i b) = ⊤

  -- an answer of a replica comes to the proposer, or the replica had a bad fate
  pub record Tells (m : Message V) (r : ℕ) (old new : Scene V) : Type 0 where
    pub counted : IsAwaited old.proposing m → IsCounted new.proposing m ⊎ Rose (old.weather.bad r) (new.weather.bad r)
    pub calm : (n : ℕ) → IsAwaited old.proposing m → IsCalm old (1 + n) → IsCounted new.proposing m × IsCalm new n

  -- the message is what this attempt asks of each replica: its Ask or its Put
  abbrev pub IsFreshOf : Attempt V → Message V → Type 0
  IsFreshOf x (Ask i b) = (i ≡ x.index) × (b ≡ ballot_of x.round)
  IsFreshOf x (Put i b v) = (i ≡ x.index) × (b ≡ ballot_of x.round) × (slice_get x.commands i ≡ Some v)
  IsFreshOf x (Promise q i b a) = ⊥
  IsFreshOf x (Ack q i b) = ⊥
  IsFreshOf x (Nack q i b) = ⊥

  -- a Put is sent once the proposer is promised
  abbrev pub IsInTurn : Proposing V → Message V → Type 0
  IsInTurn p (Put i b v) = is_promised p ≡ true
  IsInTurn p (Ask i b) = ⊤
  IsInTurn p (Promise q i b a) = ⊤
  IsInTurn p (Ack q i b) = ⊤
  IsInTurn p (Nack q i b) = ⊤

  -- it is one of this attempt, sent in its turn
  pub record IsFresh (x : Attempt V) (p : Proposing V) (m : Message V) : Type 0 where
    pub of : IsFreshOf x m
    pub in_turn : IsInTurn p m

  -- the proposer has the replica's answer, or needs it no more
  abbrev pub IsMarked : Message V → Proposing V → ℕ → Type 0
  IsMarked (Ask i b) p r = (is_promised p ≡ true) ⊎ (slice_get p.heard r ≡ Some true)
  IsMarked (Put i b v) p r = slice_get p.acked r ≡ Some true
  IsMarked (Promise q i b a) p r = ⊤
  IsMarked (Ack q i b) p r = ⊤
  IsMarked (Nack q i b) p r = ⊤

  -- With this many fates the message goes to the replica and is answered, or the replica had a bad fate.
  pub record Reaches (fates : ℕ) (m : Message V) (r : ℕ) (old new : Scene V) : Type 0 where
    pub marked : (x : Attempt V) → Stands x old → IsFresh x old.proposing m →
        IsMarked m new.proposing r ⊎ Rose (old.weather.bad r) (new.weather.bad r)
    pub calm : (x : Attempt V) (n : ℕ) → Stands x old → IsFresh x old.proposing m → IsCalm old (fates + n) →
        IsMarked m new.proposing r × IsCalm new n

  -- the same for the first k replicas, with two fates each
  pub record ReachesBelow (k : ℕ) (m : Message V) (old new : Scene V) : Type 0 where
    pub marked : (x : Attempt V) → Stands x old → IsFresh x old.proposing m → (r : ℕ) → r < k →
        IsMarked m new.proposing r ⊎ Rose (old.weather.bad r) (new.weather.bad r)
    pub calm : (x : Attempt V) (n : ℕ) → Stands x old → IsFresh x old.proposing m → IsCalm old (2 * k + n) →
        ((r : ℕ) → r < k → IsMarked m new.proposing r) × IsCalm new n

  -- the attempt asks at this index, under this ballot
  abbrev pub IsAt : ℕ → Ballot → Attempt V → Type 0
  IsAt i b x = (i ≡ x.index) × (b ≡ ballot_of x.round)

  -- it is in doubt: a majority of the replicas had a bad fate, and it was not calm for so many fates
  pub record Doubts (count fates : ℕ) (Given : Attempt V → Type 0) (old new : Scene V) : Type 0 where
    pub majority : (x : Attempt V) → Stands x old → Given x → IsGroupSize count →
        IsMajority count (λ r. Rose (old.weather.bad r) (new.weather.bad r))
    pub not_calm : (x : Attempt V) (n : ℕ) → Stands x old → Given x → IsGroupSize count → IsCalm old (fates + n) → ⊥

  -- where it was calm, it is so after so many fates
  abbrev pub StaysCalm : ℕ → (Attempt V → Type 0) → Scene V → Scene V → Type 0
  StaysCalm fates Given old new = (x : Attempt V) (n : ℕ) → Stands x old → Given x → IsCalm old (fates + n) → IsCalm new n
