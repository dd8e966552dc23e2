-- Fates to come that deliver each message.
use Rattle.std.specs.Prelude.{◌≡◌, ℕ, zero, suc, List, [], ◌∷◌, Option, Some, None, ⊤}
use Rattle.outside.specs.declared.weather.Fate.{Fate}
use Rattle.outside.specs.declared.weather.Fate.TheVariants.{Deliver}

-- the next n fates are Deliver; after the last of a list all are
abbrev pub AllDeliver : ℕ → List Fate → Type 0
AllDeliver zero fates = ⊤
AllDeliver (suc n) [] = ⊤
AllDeliver (suc n) (fate ∷ fates) = (fate ≡ Deliver) × AllDeliver n fates

-- the fates to come are told, and the next n are Deliver
abbrev pub Delivers : ℕ → Option (List Fate) → Type 0
Delivers n None = ⊥
Delivers n (Some fates) = AllDeliver n fates

-- nothing is held, and the next n fates deliver each message
pub record IsStill (held : ℕ) (to_come : Option (List Fate)) (n : ℕ) : Type 0 where
  pub empty : held ≡ 0
  pub fates : Delivers n to_come
