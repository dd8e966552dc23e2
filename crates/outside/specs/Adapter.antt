-- Objects of the machine behind this crate's traits. They tell their counts, and nothing of their content.
use Rattle.std.specs.Prelude.{ℕ, None}
use Rattle.outside.specs.Told.{SourceTold, SinkTold}
use Rattle.outside.specs.Clock.{ClockTold}

-- the object, and how many calls failed
pub record Adapted (X : Type 0) : Type 0 where
  pub inner : X
  pub faults : ℕ

-- a reader, how many of its calls gave at least one byte, and how many failed
pub record AdaptedReader (R : Type 0) : Type 0 where
  pub inner : R
  pub takes : ℕ
  pub faults : ℕ

abbrev pub reader_told : {R : Type 0} → SourceTold (AdaptedReader R)
reader_told = record {
  taken = λ source. None;
  left = λ source. None;
  takes = λ source. source.takes;
  faults = λ source. source.faults;
}

abbrev pub writer_told : {W : Type 0} → SinkTold (Adapted W)
writer_told = record { written = λ sink. None; faults = λ sink. sink.faults }

abbrev pub machine_told : {M : Type 0} → ClockTold (Adapted M)
machine_told = record { given = λ clock. None; to_come = λ clock. None }
