-- What a transaction over pages has read and written, and what each of its calls changes of it.
use Rattle.std.specs.Prelude.{ℕ, ◌≡◌, ◌≢◌, ◌<◌, ◌≤◌, List, [], Option, Some, None, IsSome}
use Rattle.nfs3_types.specs.Count.{Rose}
use Rattle.pair_types.specs.declared.slot.Slot.{Slot}
use Rattle.pair_types.specs.declared.fault.PageFault.{PageFault}
use Rattle.pair_types.specs.declared.fault.PageFault.TheVariants.{Step}
use Rattle.pair_types.specs.declared.fault.StepFault.TheVariants.{NoMemory}
use Rattle.pair_types.specs.PageMaps.{PageMap, ReadMap, Agrees, Extends, Learns, Puts, latest}

-- the number of stores; the pages that lie below, where they are told; what was read of each slot
-- before it was written there; what was written last into each slot; and how often each fault was
-- answered
pub record PageState : Type 0 where
  pub stores : ℕ
  pub below : Option PageMap
  pub reads : ReadMap
  pub writes : PageMap
  pub faults : PageFault → ℕ

-- want of memory
abbrev pub no_memory : PageFault
no_memory = Step NoMemory

-- each written slot was read, and where the pages that lie below are told, they agree with the reads
pub record IsSound (state : PageState) : Type 0 where
  pub covers : (s : Slot) → IsSome (state.writes s) → IsSome (state.reads s)
  pub agrees : (below : PageMap) → state.below ≡ Some below → Agrees state.reads below

-- what no call changes: the stores, the pages that lie below, and that no count of faults falls
pub record Lasts (old new : PageState) : Type 0 where
  pub stores : new.stores ≡ old.stores
  pub below : new.below ≡ old.below
  pub faults : (fault : PageFault) → old.faults fault ≤ new.faults fault

-- a read of slot s answers this page: the latest in that slot, which is known from now on; beyond
-- the stores the empty page, where nothing is asked, so that nothing changes
pub record Reads (old new : PageState) (s : Slot) (page : List ℕ) : Type 0 where
  pub lasts : Lasts old new
  pub writes : new.writes ≡ old.writes
  pub learns : s.store < old.stores → Learns old.reads new.reads s
  pub latest : s.store < old.stores → page ≡ latest new.writes new.reads s
  pub beyond : old.stores ≤ s.store → (page ≡ []) × (new ≡ old)

-- a write puts this page into slot s, which is read first if it was not yet known
pub record Writes (old new : PageState) (s : Slot) (page : List ℕ) : Type 0 where
  pub lasts : Lasts old new
  pub puts : Puts old.writes new.writes s page
  pub learns : Learns old.reads new.reads s

-- slot s of the store that was asked for, neither read nor written before, is known to be absent
pub record Freshens (old new : PageState) (asked : ℕ) (s : Slot) : Type 0 where
  pub lasts : Lasts old new
  pub writes : new.writes ≡ old.writes
  pub store : s.store ≡ asked
  pub unread : old.reads s ≡ None
  pub unwritten : old.writes s ≡ None
  pub absent : new.reads s ≡ Some None
  pub learns : Learns old.reads new.reads s

-- a call gives up by this fault: what was written stays, the fault is counted unless it is want of
-- memory, and after want of memory what was read stays too
pub record GivesUp (old new : PageState) (fault : PageFault) : Type 0 where
  pub lasts : Lasts old new
  pub writes : new.writes ≡ old.writes
  pub extends : Extends old.reads new.reads
  pub unchanged : fault ≡ no_memory → new.reads ≡ old.reads
  pub counted : fault ≢ no_memory → Rose (old.faults fault) (new.faults fault)

-- a read of slot s gives up, which it never does beyond the stores
pub record ReadFails (old new : PageState) (s : Slot) (fault : PageFault) : Type 0 where
  pub within : s.store < old.stores
  pub gives_up : GivesUp old new fault
