-- The weather endures, step by step.
use Rattle.std.proofs.Common.{ℕ, arith, refl, ◌∙◌}
use Rattle.outside.specs.Weather.{WeatherTold}
use Rattle.paxos_group.specs.Steps.{Endures}

module _ {W : Type 0} (told : WeatherTold W) where
  pub endures_refl : (w : W) → Endures told w w
  endures_refl w = record { never_falls = λ s r. omega arith; same_silence = λ s r k. refl }

  pub endures_trans : (before mid now : W) → Endures told before mid → Endures told mid now → Endures told before now
  endures_trans before mid now f g = record {
    never_falls = λ s r. let a = f.never_falls s r in let b = g.never_falls s r in omega arith;
    same_silence = λ s r k. g.same_silence s r k ∙ f.same_silence s r k;
  }
