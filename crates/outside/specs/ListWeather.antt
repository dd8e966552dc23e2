-- A list of fates as a weather.
use Rattle.std.specs.Prelude.{ℕ, List, [], ◌∷◌, Some, false}
use Rattle.outside.specs.declared.weather.Fate.{Fate}
use Rattle.outside.specs.declared.weather.Fate.TheVariants.{Deliver}
use Rattle.outside.specs.BadFates.{counts_at}
use Rattle.outside.specs.Weather.{WeatherTold}

-- the fates to come, and the counts of bad ones in their places
pub record FateList : Type 0 where
  pub to_come : List Fate
  pub bad : List ℕ

-- the first fate to come; after the last one all are Deliver
abbrev pub next_fate : List Fate → Fate
next_fate [] = Deliver
next_fate (first ∷ rest) = first

-- it tells everything
abbrev pub list_told : WeatherTold FateList
list_told = record {
  bad = λ weather. counts_at weather.bad;
  to_come = λ weather. Some weather.to_come;
  silent = λ weather store replica kind. false;
}
