-- What there is at a moment of an attempt: the replicas, the messages held back, the proposer and the weather.
use Rattle.std.specs.Prelude.{◌≡◌, ℕ, ◌==◌, ◌⊎◌, Bool, List, length, Option, Some, None, slice_get, if◌then◌else◌}
use Rattle.slab.specs.Slab.{Slab, get}
use Rattle.outside.specs.declared.weather.Fate.{Fate}
use Rattle.outside.specs.declared.weather.MessageKind.{MessageKind}
use Rattle.outside.specs.Weather.{WeatherTold}
use Rattle.paxos_core.specs.declared.message.Message.{Message}
use Rattle.paxos_core.specs.declared.acceptor.Acceptor.{Acceptor}
use Rattle.paxos_core.specs.declared.acceptor.Standing.{Standing}
use Rattle.paxos_core.specs.Acceptor.{standing_of, replica_of}
use Rattle.paxos_core.specs.Standing.{blank, with_message}
use Rattle.paxos_core.specs.Proposing.{Proposing}
use Rattle.paxos_group.specs.declared.letter.Letter.{Letter}
use Rattle.paxos_group.specs.declared.net.Net.{Net}

module _ {V : Type 0} where
  -- what an acceptor keeps at an index, and its number
  abbrev pub kept_by : Option (Acceptor V) → ℕ → Standing V
  kept_by None i = blank
  kept_by (Some a) i = standing_of a i

  abbrev pub number_by : Option (Acceptor V) → ℕ
  number_by None = 0
  number_by (Some a) = replica_of a

  -- what each replica keeps at each index
  abbrev pub kept_at : List (Acceptor V) → ℕ → ℕ → Standing V
  kept_at acceptors r i = kept_by (slice_get acceptors r) i

  -- the numbers of the replicas
  abbrev pub number_at : List (Acceptor V) → ℕ → ℕ
  number_at acceptors r = number_by (slice_get acceptors r)

  -- what the replicas keep, once this replica has the message
  abbrev pub moved : (ℕ → ℕ → Standing V) → ℕ → Message V → ℕ → ℕ → Standing V
  moved kept r m q i = if q == r then with_message (kept r) m i else kept q i

  -- the replicas after a message came to one of them
  pub record IsMoved (old new : List (Acceptor V)) (r : ℕ) (m : Message V) : Type 0 where
    pub count : length new ≡ length old
    pub numbers : (q : ℕ) → number_at new q ≡ number_at old q
    pub kept : (q i : ℕ) → kept_at new q i ≡ moved (kept_at old) r m q i

  -- the replicas keep what they kept
  pub record IsKept (old new : List (Acceptor V)) : Type 0 where
    pub count : length new ≡ length old
    pub numbers : (q : ℕ) → number_at new q ≡ number_at old q
    pub kept : (q i : ℕ) → kept_at new q i ≡ kept_at old q i

  -- no message is held that was not, but perhaps this one
  abbrev pub GainsAtMost : Slab (Letter V) → Slab (Letter V) → Letter V → Type 0
  GainsAtMost old new letter = (key : ℕ) (l : Letter V) → get new key ≡ Some l → (get old key ≡ Some l) ⊎ (l ≡ letter)

-- what a weather tells of one store: how many bad fates the messages of each replica met, the fates to come, and which
-- messages of a replica it always loses
pub record StoreWeather : Type 0 where
  pub bad : ℕ → ℕ
  pub to_come : Option (List Fate)
  pub silent : ℕ → MessageKind → Bool

abbrev pub weather_at : {W : Type 0} → WeatherTold W → W → ℕ → StoreWeather
weather_at told w store = record { bad = told.bad w store; to_come = told.to_come w; silent = told.silent w store }

-- a moment of an attempt at a store
pub record Scene (V : Type 0) : Type 0 where
  pub store : ℕ
  -- the replicas: how many, their numbers, and what each keeps at each index
  pub count : ℕ
  pub numbers : ℕ → ℕ
  pub kept : ℕ → ℕ → Standing V
  pub held : Slab (Letter V)
  pub proposing : Proposing V
  pub weather : StoreWeather

-- the moment of this weather, this net and this proposer
abbrev pub scene : {W V : Type 0} → WeatherTold W → W → Net V → Proposing V → Scene V
scene told w net p = record {
  store = net.store;
  count = length net.acceptors.items;
  numbers = number_at net.acceptors.items;
  kept = kept_at net.acceptors.items;
  held = net.held;
  proposing = p;
  weather = weather_at told w net.store;
}
