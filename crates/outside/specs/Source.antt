-- A source over bytes in memory.
use Rattle.std.specs.Prelude.{ℕ, List, Some}
use Rattle.outside.specs.Told.{SourceTold}

-- Its content up to the place and from it on, the most bytes that one call takes, whether each call from
-- the next on fails (a byte 1) or not, how many calls gave at least one byte, and how many failed.
pub record MemoryInput : Type 0 where
  pub taken : List ℕ
  pub left : List ℕ
  pub cut : ℕ
  pub plan : List ℕ
  pub takes : ℕ
  pub faults : ℕ

-- it tells everything
abbrev pub memory_told : SourceTold MemoryInput
memory_told = record {
  taken = λ source. Some source.taken;
  left = λ source. Some source.left;
  takes = λ source. source.takes;
  faults = λ source. source.faults;
}
