-- What a weather tells: how often it lost or held a message of each replica, which fates come next, and
-- which messages it always loses.
use Rattle.std.specs.Prelude.{◌≡◌, ℕ, ◌-◌, ◌^◌, ◌<◌, ◌≤◌, ◌==◌, ◌&&◌, ◌||◌, min, not, Bool, true, false, List, [], ◌∷◌}
use Rattle.std.specs.Prelude.{Option, Some, None, ⊤, IsTrue, if◌then◌else◌}
use Rattle.outside.specs.declared.weather.Fate.{Fate}
use Rattle.outside.specs.declared.weather.Fate.TheVariants.{Deliver, Lose, Hold, Repeat}
use Rattle.outside.specs.declared.weather.MessageKind.{MessageKind}
use Rattle.outside.specs.declared.weather.MessageKind.TheVariants.{Put, Ack}
use Rattle.outside.specs.declared.weather.MessageName.{MessageName}
use Rattle.outside.specs.declared.weather.TheConstants.{MOST_STORES, MOST_REPLICAS}
use Rattle.nfs3_types.specs.Count.{one_more, Rose, sum_below}

-- bad fates keep a message from its receiver
abbrev pub is_bad : Fate → Bool
is_bad Deliver = false
is_bad Lose = true
is_bad Hold = true
is_bad Repeat = false

-- the message is one to or from this replica of this store
abbrev pub concerns : MessageName → ℕ → ℕ → Bool
concerns message store replica = (message.store == store) && (message.replica == replica)

-- A message met this fate: where the fate is bad, the count of its store and replica rose. No count fell.
-- Below the limits on stores and replicas each count is exact.
pub record Counts (before now : ℕ → ℕ → ℕ) (message : MessageName) (fate : Fate) : Type 0 where
  pub rose : IsTrue (is_bad fate) → Rose (before message.store message.replica) (now message.store message.replica)
  pub never_falls : (store replica : ℕ) → before store replica ≤ now store replica
  pub exact : (store replica : ℕ) → store < MOST_STORES → replica < MOST_REPLICAS
      → now store replica ≡ (if is_bad fate && concerns message store replica then one_more (before store replica) else before
      store replica)

-- The weather's count of bad fates: the sum of those of all replicas below the limits. It stands still at
-- its end, as each of them does.
unfoldable pub bad_fates : (ℕ → ℕ → ℕ) → ℕ
bad_fates bad = min (sum_below MOST_STORES (λ store. sum_below MOST_REPLICAS (bad store))) (2 ^ 64 - 1)

-- The fate was the first of those to come, where they are told. After the last one all are Deliver.
abbrev pub Draws : Option (List Fate) → Option (List Fate) → Fate → Type 0
Draws None now fate = ⊤
Draws (Some before) None fate = ⊥
Draws (Some []) (Some now) fate = (fate ≡ Deliver) × (now ≡ [])
Draws (Some (first ∷ rest)) (Some now) fate = (fate ≡ first) × (now ≡ rest)

-- a replica is heard where neither the Puts to it nor the Acks from it are always lost
abbrev pub is_heard : (ℕ → ℕ → MessageKind → Bool) → ℕ → ℕ → Bool
is_heard silent store replica = not (silent store replica Put || silent store replica Ack)

-- What weathers of a kind tell: how many bad fates the messages of a store and a replica met; the fates to
-- come, where they are told; and whether each message of a store, replica and kind is lost.
pub record WeatherTold (W : Type 0) : Type 0 where
  pub bad : W → ℕ → ℕ → ℕ
  pub to_come : W → Option (List Fate)
  pub silent : W → ℕ → ℕ → MessageKind → Bool

-- from before to now a message met this fate: it was counted, drawn and, where its kind is silent, lost
pub record MetFate {W : Type 0} (told : WeatherTold W) (before now : W) (message : MessageName) (fate : Fate) : Type 0 where
  pub counts : Counts (told.bad before) (told.bad now) message fate
  pub draws : Draws (told.to_come before) (told.to_come now) fate
  pub lost : told.silent before message.store message.replica message.kind ≡ true → fate ≡ Lose
  pub same_silence : (store replica : ℕ) (kind : MessageKind)
      → told.silent now store replica kind ≡ told.silent before store replica kind

-- from before to now no message met a fate
pub record MetNone {W : Type 0} (told : WeatherTold W) (before now : W) : Type 0 where
  pub same_counts : (store replica : ℕ) → told.bad now store replica ≡ told.bad before store replica
  pub same_draws : told.to_come now ≡ told.to_come before
  pub same_silence : (store replica : ℕ) (kind : MessageKind)
      → told.silent now store replica kind ≡ told.silent before store replica kind

-- a weather that delivers each message tells so
abbrev pub calm_told : {W : Type 0} → WeatherTold W
calm_told = record {
  bad = λ weather store replica. 0;
  to_come = λ weather. Some [];
  silent = λ weather store replica kind.
      false;
}
