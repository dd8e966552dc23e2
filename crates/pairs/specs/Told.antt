-- What a transaction over pairs and blocks tells, and what a call of it does.
use Rattle.std.specs.Prelude.{◌≡◌, ◌≤◌, ◌+◌, ◌⊎◌, ℕ}
use Rattle.nfs3_types.specs.Count.{Rose}
use Rattle.pair_types.specs.declared.fault.PageFault.{PageFault}
use Rattle.pair_types.specs.declared.fault.PairFault.{PairFault}
use Rattle.pair_types.specs.declared.fault.PairFault.TheVariants.{Odd, HeightFull, Page}
use Rattle.pair_types.specs.PageState.{no_memory}
use Rattle.pairs.specs.Versions.{Versions, HasLives}

-- What transactions of a kind tell, over what may lie below them: whether that agrees with every answer so far; which
-- versions the writes so far make of it; how often each fault of a page was answered; how many puts were made; whether
-- nothing had been written when the transaction began; and whether the root, as it was read, is as high as roots get.
pub record PairsTold (S W : Type 0) : Type 1 where
  pub agrees : S → W → Type 0
  pub shows : S → W → Versions → Type 0
  pub faults : S → PageFault → ℕ
  pub puts : S → ℕ
  pub clean : S → Type 0
  pub high : S → Type 0

module _ {S W : Type 0} (told : PairsTold S W) where
  -- What holds of every call, whatever it answers, that puts at most so often: what agrees now agreed before, no count
  -- falls, and a transaction that began clean did.
  pub record Goes (old new : S) (most : ℕ) : Type 0 where
    pub agreed : (w : W) → told.agrees new w → told.agrees old w
    pub faults : (fault : PageFault) → told.faults old fault ≤ told.faults new fault
    pub puts : told.puts old ≤ told.puts new
    pub few : told.puts new ≤ told.puts old + most
    pub clean : told.clean old → told.clean new

  -- this much is so of what was shown, where lives are in order
  abbrev pub Finds : S → S → (Versions → Type 0) → Type 0
  Finds old new IsSo = (w : W) (v : Versions) → told.agrees new w → told.shows old w v → HasLives v → IsSo v

  -- where this much is given, what is shown is what was shown, edited
  abbrev pub Moves : S → S → (Versions → Type 0) → (Versions → Versions) → Type 0
  Moves old new Given edit = (w : W) (v : Versions) → told.agrees new w → told.shows old w v → Given v → told.shows new w (edit v)

  -- a call that only reads: what was shown is shown, and this much is so of it
  pub record Tells (old new : S) (IsSo : Versions → Type 0) : Type 0 where
    pub shows : (w : W) (v : Versions) → told.agrees new w → told.shows old w v → told.shows new w v
    pub finds : Finds old new IsSo

  -- Why a call that puts nothing gives up: nothing that agrees shows what is given; or a fault of a page, which was
  -- counted, or is want of memory.
  abbrev pub GivesUp : S → S → (Versions → Type 0) → PairFault → Type 0
  GivesUp old new Given Odd = (w : W) (v : Versions) → told.agrees new w → told.shows old w v → Given v → ⊥
  GivesUp old new Given HeightFull = ⊥
  GivesUp old new Given (Page fault) = (fault ≡ no_memory) ⊎ Rose (told.faults old fault) (told.faults new fault)

  -- Why a put gives up: so; or the root is as high as roots get, unless the transaction did not begin clean or made more
  -- than 24 puts.
  abbrev pub PutGivesUp : S → S → (Versions → Type 0) → PairFault → Type 0
  PutGivesUp old new Given Odd = GivesUp old new Given Odd
  PutGivesUp old new Given HeightFull = told.clean old → told.puts new ≤ 24 → told.high new
  PutGivesUp old new Given (Page fault) = GivesUp old new Given (Page fault)
