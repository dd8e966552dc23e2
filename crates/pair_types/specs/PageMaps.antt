-- Partial maps from slots to pages, as functions: what lies in the slots, and what was read of it.
-- Reads are facts about every map that agrees with them; writes lie over such a map.
use Rattle.std.specs.Prelude.{ℕ, ◌≡◌, ◌≢◌, List, [], Option, Some, None, IsSome, unwrap_or}
use Rattle.pair_types.specs.declared.slot.Slot.{Slot}

-- what lies in each slot; a slot where nothing was written is absent
abbrev pub PageMap : Type 0
PageMap = Slot → Option (List ℕ)

-- what was read of each slot: nothing yet, or that it holds a page, or that it is absent
abbrev pub ReadMap : Type 0
ReadMap = Slot → Option (Option (List ℕ))

-- the page as which a slot reads: an absent one reads as the empty page
abbrev pub page_of : Option (List ℕ) → List ℕ
page_of (Some page) = page
page_of None = []

-- a map with writes laid over it
abbrev pub laid : Option (List ℕ) → Option (List ℕ) → Option (List ℕ)
laid (Some page) under = Some page
laid None under = under

abbrev pub over : PageMap → PageMap → PageMap
over writes under s = laid (writes s) (under s)

-- the map holds what was read, wherever something was read
pub record Agrees (reads : ReadMap) (under : PageMap) : Type 0 where
  pub at : (s : Slot) (held : Option (List ℕ)) → reads s ≡ Some held → under s ≡ held

-- what was read before is still known
pub record Extends (old new : ReadMap) : Type 0 where
  pub at : (s : Slot) (held : Option (List ℕ)) → old s ≡ Some held → new s ≡ Some held

-- the reads now know slot s, which changes nothing if they knew it before, and are the same elsewhere
pub record Learns (old new : ReadMap) (s : Slot) : Type 0 where
  pub known : IsSome (new s)
  pub kept : IsSome (old s) → new s ≡ old s
  pub others : (t : Slot) → t ≢ s → new t ≡ old t

-- the map now holds this page in slot s, and is the same elsewhere
pub record Puts (old new : PageMap) (s : Slot) (page : List ℕ) : Type 0 where
  pub put : new s ≡ Some page
  pub others : (t : Slot) → t ≢ s → new t ≡ old t

-- what a slot reads as: what was written there last, else what was read there
abbrev pub latest : PageMap → ReadMap → Slot → List ℕ
latest writes reads s = page_of (laid (writes s) (unwrap_or (reads s) None))
