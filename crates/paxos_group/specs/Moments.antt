-- A group and its weather, from one moment to a later one.
use Rattle.std.specs.Prelude.{◌≡◌, ℕ, ◌+◌, ◌*◌, ◌<◌, ◌≤◌, true, length, Result, OnOk, IfErr}
use Rattle.slab.specs.Slab.{slab_len}
use Rattle.nfs3_types.specs.Count.{Rose}
use Rattle.outside.specs.Weather.{WeatherTold, is_heard}
use Rattle.paxos_core.specs.Majority.{IsMajority}
use Rattle.paxos_group.specs.declared.fault.GroupFault.{GroupFault}
use Rattle.paxos_group.specs.declared.fault.GroupFault.TheVariants as fault
use Rattle.paxos_group.specs.declared.net.TheConstants.{MOST_HELD}
use Rattle.paxos_group.specs.declared.parts.Parts.{Parts}
use Rattle.paxos_group.specs.Fates.{IsStill}
use Rattle.paxos_group.specs.Steps.{Endures}
use Rattle.paxos_group.specs.Settling.{Settling, each_below, accepted_by, accepted_at, VoteStays}

-- a group and its weather at a moment
pub record Moment (W V : Type 0) : Type 0 where
  pub group : Settling V
  pub weather : W

abbrev pub moment : {W V : Type 0} → Settling V → W → Moment W V
moment group weather = record { group = group; weather = weather }

-- what a contract sees of a group that is made so
abbrev pub seen_of : {V : Type 0} → Parts V → Settling V
seen_of parts = record {
  store = parts.net.store;
  replicas = parts.replicas;
  accepted = each_below (accepted_by parts.net.acceptors.items) (length parts.log.items);
  log = parts.log.items;
  pending = parts.pending;
  round = parts.round;
  held = slab_len parts.net.held;
}

-- over weathers that tell this
module _ {W V : Type 0} (told : WeatherTold W) where
  -- a majority of the replicas are heard
  abbrev pub IsHeard : Moment W V → Type 0
  IsHeard m = IsMajority m.group.replicas (λ r. is_heard (told.silent m.weather) m.group.store r ≡ true)

  -- a majority of the replicas had a bad fate
  abbrev pub Worsened : Moment W V → Moment W V → Type 0
  Worsened old new = IsMajority old.group.replicas
      (λ r. Rose (told.bad old.weather old.group.store r) (told.bad new.weather old.group.store r))

  -- nothing is held, and the next n fates deliver each message
  abbrev pub IsCalmFor : Moment W V → ℕ → Type 0
  IsCalmFor m n = IsStill m.group.held (told.to_come m.weather) n

  -- Attempts of at most so many fates for each replica ended so: well only where a majority of the replicas are heard;
  -- in doubt only where a majority had a bad fate, and never in calm weather. What was accepted at a settled index
  -- stays, by whoever; at most so many messages are held.
  pub record Attempts (fates : ℕ) (old new : Moment W V) (end : Result (Unit {0}) GroupFault) : Type 0 where
    pub store : new.group.store ≡ old.group.store
    pub replicas : new.group.replicas ≡ old.group.replicas
    pub heard : OnOk end (IsHeard old)
    pub doubt : IfErr end (λ why. why ≡ fault.Doubt → Worsened old new)
    pub no_doubt : IfErr end (λ why. why ≡ fault.Doubt → (n : ℕ) → IsCalmFor old (fates * old.group.replicas + n) → ⊥)
    pub calm : OnOk end ((n : ℕ) → IsCalmFor old (fates * old.group.replicas + n) → IsCalmFor new n)
    pub votes : (index r : ℕ) → index < length old.group.log →
        VoteStays (accepted_at old.group index r) (accepted_at new.group index r)
    pub held : new.group.held ≤ MOST_HELD
    pub endures : Endures told old.weather new.weather
