-- A weather that draws the fates of messages, and that some replicas are lost in.
use Rattle.std.specs.Prelude.{◌≡◌, ◌<◌, ◌≤◌, ℕ, Bool, ◌||◌, ◌%◌, ◌==◌, nat_lt, List, Option, Some, None, if◌then◌else◌}
use Rattle.outside.specs.declared.weather.Fate.{Fate}
use Rattle.outside.specs.declared.weather.Fate.TheVariants.{Deliver, Lose, Hold, Repeat}
use Rattle.outside.specs.declared.weather.MessageName.{MessageName}
use Rattle.outside.specs.declared.weather.TheConstants.{MOST_STORES, MOST_REPLICAS}
use Rattle.outside.specs.BadFates.{counts_at, counted}
use Rattle.outside.specs.Weather.{WeatherTold}
use Rattle.workload.specs.Draws.{drawn, draw_of}

-- the generator's state; the replicas numbered below `lost` are lost; how rough it is; the counts of bad fates in their places
pub record Rough : Type 0 where
  pub state : ℕ
  pub lost : ℕ
  pub rough : ℕ
  pub bad : List ℕ

-- it tells all but its fates to come
abbrev pub rough_told : WeatherTold Rough
rough_told = record {
  bad = λ weather. counts_at weather.bad;
  to_come = λ weather. None;
  silent = λ weather store replica kind. nat_lt replica weather.lost;
}

-- the message is to or from a lost replica
abbrev pub is_lost : Rough → MessageName → Bool
is_lost weather message = nat_lt message.replica weather.lost

-- the fate that a draw gives
abbrev pub drawn_fate : ℕ → Fate
drawn_fate n = if n == 0 then Lose else (if n == 1 then Hold else (if n == 2 then Repeat else Deliver))

-- no draw for a lost replica, nor where the weather is not rough
abbrev pub fate_of : Rough → MessageName → Fate
fate_of weather message = if is_lost weather message then Lose else (if weather.rough == 0 then Deliver
    else drawn_fate (draw_of (drawn weather.state) % weather.rough))

abbrev pub state_after : Rough → MessageName → ℕ
state_after weather message = if is_lost weather message || weather.rough == 0 then weather.state else drawn weather.state

-- the weather after a message met its fate
abbrev pub met : Rough → MessageName → Rough
met weather message = record weather {
  state = state_after weather message;
  bad = counted weather.bad message (fate_of weather message);
}

-- nothing comes where nothing is held, or where the weather is not rough
abbrev pub stays : Rough → ℕ → Bool
stays weather held = held == 0 || weather.rough == 0

-- which held message comes: the first or none
abbrev pub stray_of : Rough → ℕ → Option ℕ
stray_of weather held = if stays weather held then None
    else (if draw_of (drawn weather.state) % 4 == 0 then Some 0 else None)

abbrev pub after_stray : Rough → ℕ → Rough
after_stray weather held = if stays weather held then weather else record weather { state = drawn weather.state }

-- where the weather is not rough, no message of a replica that is not lost was lost or held
abbrev pub IsClear : ℕ → ℕ → List ℕ → Type 0
IsClear rough lost bad = rough ≡ 0 → (store replica : ℕ) → store < MOST_STORES → replica < MOST_REPLICAS → lost ≤ replica
    → counts_at bad store replica ≡ 0
