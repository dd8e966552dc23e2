-- A list of visits as a door. It tells everything.
use Rattle.std.specs.Prelude.{ℕ, Bool, true, false, List, [], ◌∷◌, Some}
use Rattle.outside.specs.Source.{MemoryInput}
use Rattle.outside.specs.Source as source
use Rattle.outside.specs.Sink.{MemoryOutput}
use Rattle.outside.specs.Sink as sink
use Rattle.outside.specs.ListClock.{MomentList, list_told}
use Rattle.doors.specs.declared.visit.Visit.{Visit}
use Rattle.doors.specs.Door.{DoorTold, VisitsTold, facts_of}

-- a visit in memory, and what its parts tell
abbrev pub MemoryVisit : Type 0
MemoryVisit = Visit MemoryInput MemoryOutput MomentList

abbrev pub memory_visits : VisitsTold MemoryInput MemoryOutput MomentList
memory_visits = record { input = source.memory_told; output = sink.memory_told; clock = list_told }

abbrev pub is_empty : {X : Type 0} → List X → Bool
is_empty [] = true
is_empty (x ∷ xs) = false

-- a receipt is the visit itself
abbrev pub door_told : DoorTold (List MemoryVisit) MemoryVisit MemoryVisit
door_told = record {
  to_come = λ door. Some door;
  is_over = λ door. is_empty door;
  faults = λ door. 0;
  receipt = λ visit. facts_of memory_visits visit;
}
