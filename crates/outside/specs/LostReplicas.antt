-- A weather that some replicas are lost in.
use Rattle.std.specs.Prelude.{ℕ, List, None, nat_lt}
use Rattle.outside.specs.BadFates.{counts_at}
use Rattle.outside.specs.Weather.{WeatherTold}

-- the replicas numbered below this are lost, and the counts of bad fates in their places
pub record LostBelow : Type 0 where
  pub lost : ℕ
  pub bad : List ℕ

-- it tells all but its fates to come
abbrev pub lost_told : WeatherTold LostBelow
lost_told = record {
  bad = λ weather. counts_at weather.bad;
  to_come = λ weather. None;
  silent = λ weather store replica kind. nat_lt replica weather.lost;
}
