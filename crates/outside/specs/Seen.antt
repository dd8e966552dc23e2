-- What is seen of the outside of a program, and its objects at a moment.
use Rattle.outside.specs.Told.{SourceTold, SinkTold}
use Rattle.outside.specs.Clock.{ClockTold}

-- what is told by where bytes come from, by the clock, and by where bytes go
pub record StreamsTold (S C K : Type 0) : Type 0 where
  pub source : SourceTold S
  pub clock : ClockTold C
  pub sink : SinkTold K

-- these objects themselves
pub record Streams (S C K : Type 0) : Type 0 where
  pub source : S
  pub clock : C
  pub sink : K

-- all that is seen: beside them, what is told by where faults are told
pub record Seen (S C K E : Type 0) : Type 0 where
  pub streams : StreamsTold S C K
  pub errors : SinkTold E

pub record Outside (S C K E : Type 0) : Type 0 where
  pub streams : Streams S C K
  pub errors : E

abbrev pub streams_told : {S C K : Type 0} → SourceTold S → ClockTold C → SinkTold K → StreamsTold S C K
streams_told source clock sink = record { source = source; clock = clock; sink = sink }

abbrev pub streams : {S C K : Type 0} → S → C → K → Streams S C K
streams source clock sink = record { source = source; clock = clock; sink = sink }

abbrev pub seen : {S C K E : Type 0} → StreamsTold S C K → SinkTold E → Seen S C K E
seen told errors = record { streams = told; errors = errors }

abbrev pub outside : {S C K E : Type 0} → Streams S C K → E → Outside S C K E
outside objects errors = record { streams = objects; errors = errors }
