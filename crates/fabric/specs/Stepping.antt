-- What a step of a request does to a fabric.
use Rattle.std.specs.Prelude.{◌≡◌, ◌≢◌, ℕ, ◌<◌, ◌≤◌, ◌⊎◌, Bool, true, false, Option, is_some, IsTrue, Result, Ok, Err, OnErr}
use Rattle.std.specs.Prelude.{IfErr}
use Rattle.pair_types.specs.declared.fault.StepFault.{StepFault}
use Rattle.pair_types.specs.declared.fault.StepFault.TheVariants as fault
use Rattle.nfs3_types.specs.Count.{Rose}
use Rattle.outside.specs.Weather.{WeatherTold, is_heard}
use Rattle.page_types.specs.declared.command.Command.{Command}
use Rattle.page_types.specs.declared.answer.Answer.{Answer}
use Rattle.paxos_core.specs.Majority.{IsMajority}
use Rattle.store_group.specs.Behind.{Left}
use Rattle.store_group.specs.Journal.{Request, gained}
use Rattle.fabric.specs.Shown.{Shown, past, store_of}

-- there are 1 to 16 stores, of 3 or 5 replicas each
pub record IsShape (stores replicas : ℕ) : Type 0 where
  pub some : 1 ≤ stores
  pub most : stores ≤ 16
  pub size : (replicas ≡ 3) ⊎ (replicas ≡ 5)

-- over weathers that tell this
module _ {W : Type 0} (told : WeatherTold W) where
  -- a majority of a store's replicas are heard
  abbrev pub AreHeard : ℕ → W → ℕ → Type 0
  AreHeard replicas weather store = IsMajority replicas (λ r. is_heard (told.silent weather) store r ≡ true)

  -- the counts of a majority of a store's replicas rose
  abbrev pub Worsens : ℕ → W → W → ℕ → Type 0
  Worsens replicas old new store = IsMajority replicas (λ r. Rose (told.bad old store r) (told.bad new store r))

  -- at one of so many stores a majority of the replicas had a bad fate
  pub record AreMarred (stores replicas : ℕ) (weather : W) : Type 0 where
    pub store : ℕ
    pub there : store < stores
    pub marred : IsMajority replicas (λ r. 1 ≤ told.bad weather store r)

  -- The command that was pending at the store may be settled late, which stands in the journal first; then comes the
  -- request itself, where it is answered or is pending now. Where neither came, all is as before.
  pub record StepsAs (old new : Shown W) (asked : Request) (result : Result Answer StepFault) : Type 0 where
    pub late : Option (Command × Answer)
    pub doubted : Bool
    pub journal : past new ≡ gained asked late result doubted (past old)
    pub left : Left result doubted (store_of old asked.store) (store_of new asked.store) asked.command late
    pub untouched : OnErr result (doubted ≡ false → new ≡ old)
    pub doubt_is_doubted : IfErr result (λ why. why ≡ fault.Doubt → doubted ≡ true)
    pub late_heard : IsTrue (is_some late) → AreHeard old.replicas old.weather asked.store
