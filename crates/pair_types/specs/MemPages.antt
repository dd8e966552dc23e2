-- What a map of pages in memory stands for.
use Rattle.std.specs.Prelude.{ℕ, ◌≡◌, ◌≢◌, ◌||◌, List, Some, None, is_some, if◌then◌else◌}
use Rattle.std.specs.BTreeMap.{get}
use Rattle.std.specs.BTreeSet.{contains}
use Rattle.std.specs.Ordering.{nat_cmp, ordering_then}
use Rattle.std.specs.declared.cmp.Ordering.{Ordering}
use Rattle.pair_types.specs.declared.slot.Slot.{Slot}
use Rattle.pair_types.specs.declared.mem_pages.MemPages.{MemPages}
use Rattle.pair_types.specs.PageMaps.{PageMap, ReadMap, Puts}
use Rattle.pair_types.specs.PageState.{PageState}

-- slots are ordered by their store, and in a store by their number
abbrev pub place_cmp : ℕ × ℕ → ℕ × ℕ → Ordering
place_cmp a b = ordering_then (nat_cmp a.0 b.0) (nat_cmp a.1 b.1)

-- what lies below: the pages that were set
abbrev pub held_of : MemPages → PageMap
held_of pages s = get place_cmp pages.held (s.store, s.number)

-- what was written last
abbrev pub writes_of : MemPages → PageMap
writes_of pages s = get place_cmp pages.written (s.store, s.number)

-- what lies below, at each slot that was read or written
abbrev pub reads_of : MemPages → ReadMap
reads_of pages s =
    if contains place_cmp pages.read (s.store, s.number) || is_some (writes_of pages s) then Some (held_of pages s) else None

-- no fault but want of memory is ever answered
abbrev pub state_of : MemPages → PageState
state_of pages = record {
  stores = pages.stores;
  below = Some (held_of pages);
  reads = reads_of pages;
  writes = writes_of pages;
  faults = λ _. 0;
}

-- nothing lies in any slot, and none was read or written
pub record IsNew (pages : MemPages) : Type 0 where
  pub empty : (s : Slot) → held_of pages s ≡ None
  pub unread : (s : Slot) → reads_of pages s ≡ None
  pub unwritten : (s : Slot) → writes_of pages s ≡ None

-- this page lies in slot s from now on, as if it had from the start: the slot is unread and unwritten
pub record Sets (old new : MemPages) (s : Slot) (page : List ℕ) : Type 0 where
  pub stores : new.stores ≡ old.stores
  pub held : Puts (held_of old) (held_of new) s page
  pub unread : reads_of new s ≡ None
  pub unwritten : writes_of new s ≡ None
  pub other_reads : (t : Slot) → t ≢ s → reads_of new t ≡ reads_of old t
  pub other_writes : (t : Slot) → t ≢ s → writes_of new t ≡ writes_of old t

-- slot s is known from now on; nothing else changed
pub record IsMarked (old new : MemPages) (s : Slot) : Type 0 where
  pub stores : new.stores ≡ old.stores
  pub held : held_of new ≡ held_of old
  pub writes : writes_of new ≡ writes_of old
  pub known : reads_of new s ≡ Some (held_of old s)
  pub others : (t : Slot) → t ≢ s → reads_of new t ≡ reads_of old t

-- nothing lies in slot s of the store that was asked for, and it was neither read nor written
pub record IsFreeIn (pages : MemPages) (asked : ℕ) (s : Slot) : Type 0 where
  pub store : s.store ≡ asked
  pub held : held_of pages s ≡ None
  pub unread : reads_of pages s ≡ None
  pub unwritten : writes_of pages s ≡ None
