-- TCP as a door and as streams. They tell their counts, and nothing of content.
use Rattle.std.specs.Prelude.{ℕ, false, None}
use Rattle.outside.specs.Told.{SourceTold, SinkTold}
use Rattle.outside.specs.Adapter.{Adapted, machine_told}
use Rattle.doors.specs.Door.{DoorTold, VisitsTold}

-- how many calls gave at least one byte, and how many failed
pub record InputCounts : Type 0 where
  pub takes : ℕ
  pub faults : ℕ

-- how many calls failed
pub record FaultCount : Type 0 where
  pub faults : ℕ

abbrev pub input_told : SourceTold InputCounts
input_told = record {
  taken = λ source. None;
  left = λ source. None;
  takes = λ source. source.takes;
  faults = λ source. source.faults;
}

abbrev pub output_told : SinkTold FaultCount
output_told = record { written = λ sink. None; faults = λ sink. sink.faults }

-- A receipt is how many reads and how many writes failed. No door of this kind is ever over.
abbrev pub door_told : {V : Type 0} → DoorTold FaultCount V (ℕ × ℕ)
door_told = record {
  to_come = λ door. None;
  is_over = λ door. false;
  faults = λ door. door.faults;
  receipt = λ counts. record {
    read_faults = counts.0;
    write_faults = counts.1;
    taken = None;
    left = None;
    written = None;
    given = None;
    to_come = None;
  };
}

-- what the parts of its visits tell
abbrev pub tcp_visits : {M : Type 0} → VisitsTold InputCounts FaultCount (Adapted M)
tcp_visits = record { input = input_told; output = output_told; clock = machine_told }
