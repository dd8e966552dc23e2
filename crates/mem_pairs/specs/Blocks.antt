-- What blocks in memory hold.
use Rattle.std.specs.Prelude.{ℕ, ◌≡◌, List, Option, if◌then◌else◌}
use Rattle.std.specs.BTreeMap.{get}
use Rattle.pair_types.specs.declared.slot.Slot.{Slot}
use Rattle.pair_types.specs.MemPages.{place_cmp}
use Rattle.pairs.specs.Versions.{is_same_slot}
use Rattle.mem_pairs.specs.declared.mem_blocks.MemBlocks.{MemBlocks}

-- the blocks by their slots
abbrev pub blocks_of : MemBlocks → Slot → Option (List ℕ)
blocks_of blocks s = get place_cmp blocks.held (s.store, s.number)

-- a slot holds this from now on, a block or none, and the others hold what they did
pub record Holds (s : Slot) (block : Option (List ℕ)) (old new : MemBlocks) : Type 0 where
  pub stores : new.stores ≡ old.stores
  pub blocks : blocks_of new ≡ (λ slot. if is_same_slot slot s then block else blocks_of old slot)
