-- A new block and its extent, as they are put; and what is found at the key of an extent.
use Rattle.std.proofs.Common.{◌≡◌, ◌≢◌, ℕ, ◌<◌, ◌^◌, Bool, true, false, List, [], Option, Some, None, is_some, inr}
use Rattle.std.proofs.Common.{refl, sym, ◌∙◌, ap, subst}
use Rattle.std.specs.Prelude.{option_map, option_and_then}
use Rattle.pair_types.specs.declared.slot.Slot.{Slot}
use Rattle.pairs.specs.declared.at.At.{At}
use Rattle.pairs.specs.declared.at.At.TheVariants.{Live}
use Rattle.pairs.specs.Versions.{Versions, value_at, HasLives, CanPut, IsBlock, with_put, with_block}
use Rattle.pairs.specs.Found.{IsFresh}
use Rattle.pairs.proofs.VersionsLaws.{block-here}
use Rattle.fs_keys.specs.declared.key_parts.KeyParts.TheVariants.{Stale as StaleKey}
use Rattle.fs_keys.specs.Values.{extent_in}
use Rattle.fs_shows.specs.Extents.{Marks, counted, slot_of, IsPlace, row, block_slot}
use Rattle.extent_ops.specs.Steps.{HasBlocks}
use Rattle.extent_ops.specs.Blocks.{extent_key, extent_value, LiesAt, PlacesNew}
use Rattle.extent_ops.specs.Cuts.{floor_of, stale_key, Sweeps}
use Rattle.extent_ops.proofs.Keys.{key-not_epoch, stale-not_epoch}
use Rattle.extent_ops.proofs.Changing.{has-block}
use Rattle.extent_ops.proofs.Showing.{block_there}

pub found_slot : (v : Versions) (at : At) (file : ℕ) (m : Marks) (index stores : ℕ) (key : List ℕ) (found : Option (List ℕ))
    (r : Option Slot) → key ≡ extent_key file index → v.stores ≡ stores → value_at at v key ≡ found
    → r ≡ option_map (slot_of stores file index) (counted m index (option_and_then extent_in found))
    → block_slot v at file m index ≡ r
unfolding block_slot
found_slot v at file m index stores key found r is same sees gives =
    ap (λ (k : List ℕ). option_map (slot_of v.stores file index) (counted m index (option_and_then extent_in (value_at at v k))))
    (sym is)
    ∙ ap (λ (o : Option (List ℕ)). option_map (slot_of v.stores file index) (counted m index (option_and_then extent_in o))) sees
    ∙ ap (λ (s : ℕ). option_map (slot_of s file index) (counted m index (option_and_then extent_in found))) same
    ∙ sym gives

-- ---- a new block

some_not : (o : Option (List ℕ)) (b : List ℕ) → o ≡ Some b → o ≢ None
some_not o b is = λ none. absurd (cc)

pub is_block : (slot : Slot) (block : List ℕ) (v : Versions) → IsBlock slot (with_block slot (Some block) v)
is_block slot block v = record {
  there = some_not ((with_block slot (Some block) v).blocks slot) block (block-here slot (Some block) v);
}

pub can_put : (file index : ℕ) (key value : List ℕ) (v : Versions) → key ≡ extent_key file index → HasLives v → CanPut key value v
can_put file index key value v is lives =
    record { lives = lives; rises = λ first. absurd (key-not_epoch file index (sym is ∙ first)) }

pub can_mark : (file : ℕ) (key value : List ℕ) (v : Versions) → key ≡ stale_key file → HasLives v → CanPut key value v
can_mark file key value v is lives =
    record { lives = lives; rises = λ first. absurd (stale-not_epoch file (sym is ∙ first)) }

abbrev pub with_fresh : Slot → List ℕ → Versions → Versions
with_fresh slot block v = with_block slot (Some block) (with_block slot (Some []) v)

pub has_fresh : (slot : Slot) (block : List ℕ) (v : Versions) → HasLives v → HasLives (with_fresh slot block v)
has_fresh slot block v lives =
    has-block slot (Some block) (with_block slot (Some []) v) (has-block slot (Some []) v lives)

pub placed : (file : ℕ) (m : Marks) (index : ℕ) (block key value : List ℕ) (slot : Slot) (v : Versions) → slot.number < 2 ^ 64
    → m.stamp < 2 ^ 64 → key ≡ extent_key file index → value ≡ extent_value (record { number = slot.number; stamp = m.stamp })
    → IsFresh file index slot v → PlacesNew file m index block v (with_put key value (with_fresh slot block v))
placed file m index block key value slot v numbered stamped is gives fresh = record {
  at = slot;
  numbered = numbered;
  stamped = stamped;
  fresh = fresh;
  is = ap (λ (k : List ℕ). with_put k value (with_fresh slot block v)) is
      ∙ ap (λ (x : List ℕ). with_put (extent_key file index) x (with_fresh slot block v)) gives;
}

-- ---- a block that was found

pub lies_there : (file : ℕ) (m : Marks) (index : ℕ) (slot : Slot) (v : Versions) → IsPlace file index
    → LiesAt file m index (Some slot) v → IsBlock slot v
lies_there file m index slot v place lies = record {
  there = block_there v Live file m index slot lies.has.blocks place lies.slot_is;
}

pub lies_found : (file : ℕ) (m : Marks) (index : ℕ) (slot : Option Slot) (v y : Versions) → HasBlocks v → y ≡ v
    → block_slot v Live file m index ≡ slot → LiesAt file m index slot y
lies_found file m index slot v y has same is =
    subst (λ (x : Versions). LiesAt file m index slot x) (sym same) (record { has = has; slot_is = is })

-- ---- whether a sweep comes first

pub sweeps_by : (file : ℕ) (m : Marks) (size : ℕ) (v : Versions) (stale : Bool) → m.floor < floor_of size
    → is_some (row v Live (StaleKey file)) ≡ stale → Sweeps file m size stale v
sweeps_by file m size v true high is = (high, some (row v Live (StaleKey file)) is)
  where
    some : (o : Option (List ℕ)) → is_some o ≡ true → o ≢ None
    some None is = λ none. absurd (cc)
    some (Some x) is = λ none. absurd (cc)
sweeps_by file m size v false high is = inr (none (row v Live (StaleKey file)) is)
  where
    none : (o : Option (List ℕ)) → is_some o ≡ false → o ≡ None
    none None is = refl
    none (Some x) is = absurd (cc)
