-- What a call over pairs and blocks makes of the versions that may lie below.
use Rattle.pairs.specs.Versions.{Versions, HasLives}
use Rattle.pairs.specs.Told.{PairsTold}
use Rattle.fs_shows.specs.Shows.{KeepsBlocks}

-- lives are in order, and each extent names a block of its own
pub record HasBlocks (v : Versions) : Type 0 where
  pub lives : HasLives v
  pub blocks : KeepsBlocks v

module _ {S W : Type 0} (told : PairsTold S W) where
  -- versions are shown, and this much is so of them
  pub record ShowsSome (s : S) (w : W) (IsSo : Versions → Type 0) : Type 0 where
    pub versions : Versions
    pub shown : told.shows s w versions
    pub is : IsSo versions

  -- where this much is given of what was shown, something is shown that came of it so
  abbrev pub Makes : S → S → (Versions → Type 0) → (Versions → Versions → Type 0) → Type 0
  Makes old new Given Becomes = (w : W) (v : Versions) → told.agrees new w → told.shows old w v → Given v
      → ShowsSome new w (Becomes v)
