-- A sink that keeps its bytes in memory.
use Rattle.std.specs.Prelude.{ℕ, List, Some}
use Rattle.outside.specs.Told.{SinkTold}

-- What was put, the most bytes that one call puts, whether each call from the next on fails (a byte 1)
-- or not, and how many calls failed.
pub record MemoryOutput : Type 0 where
  pub written : List ℕ
  pub cut : ℕ
  pub plan : List ℕ
  pub faults : ℕ

-- it tells everything
abbrev pub memory_told : SinkTold MemoryOutput
memory_told = record { written = λ sink. Some sink.written; faults = λ sink. sink.faults }
