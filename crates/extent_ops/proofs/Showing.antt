-- The block that a view shows at an index of a file: the life behind it, and where it stays.
use Rattle.std.proofs.Common.{◌≡◌, ◌≢◌, ℕ, ◌/◌, ◌%◌, ◌+◌, ◌<◌, Bool, true, false, if◌then◌else◌, List, [], Option, Some, None}
use Rattle.std.proofs.Common.{slice_index, refl, sym, ◌∙◌, ap, subst, arith}
use Rattle.std.specs.Prelude.{option_map, option_and_then, unwrap_or}
use Rattle.std.specs.List.{Contains}
use Rattle.pair_types.specs.declared.slot.Slot.{Slot}
use Rattle.pairs.specs.declared.at.At.{At}
use Rattle.pairs.specs.Lives.{Life, sees, seen}
use Rattle.pairs.specs.Versions.{Versions, value_at}
use Rattle.fs_keys.specs.declared.rows.Extent.{Extent}
use Rattle.fs_keys.specs.Values.{extent_in}
use Rattle.fs_shows.specs.Extents.{Marks, counts, counted, slot_of, IsPlace, block_slot, block_at, byte_at}
use Rattle.fs_shows.specs.Shows.{KeepsBlocks}
use Rattle.extent_ops.specs.Blocks.{extent_key}
use Rattle.extent_ops.proofs.Among.{seen-among}

-- the life that a view sees, and the extent that it tells
pub record ShownBy (v : Versions) (at : At) (file index : ℕ) (slot : Slot) : Type 0 where
  pub life : Life
  pub among : Contains (v.lives (extent_key file index)) life
  pub seen_by : sees at life ≡ true
  pub value : value_at at v (extent_key file index) ≡ Some life.value
  pub extent : Extent
  pub said : extent_in life.value ≡ Some extent
  pub is : slot_of v.stores file index extent ≡ slot

pub shown_by : (v : Versions) (at : At) (file : ℕ) (m : Marks) (index : ℕ) (slot : Slot)
    → block_slot v at file m index ≡ Some slot → ShownBy v at file index slot
unfolding block_slot
shown_by v at file m index slot is = by_value (value_at at v (extent_key file index)) refl is
  where
    by_counts : (value : List ℕ) (x : Extent) → value_at at v (extent_key file index) ≡ Some value → extent_in value ≡ Some x
        → (t : Bool) → option_map (slot_of v.stores file index) (if t then Some x else None) ≡ Some slot
        → ShownBy v at file index slot
    by_counts value x seen said false is = absurd (cc)
    by_counts value x seen said true is =
        let l = seen-among at value (v.lives (extent_key file index)) seen in
        record {
          life = l.life;
          among = l.among;
          seen_by = l.seen;
          value = seen ∙ ap Some (sym l.is);
          extent = x;
          said = ap extent_in l.is ∙ said;
          is = (cc);
        }

    by_extent : (value : List ℕ) → value_at at v (extent_key file index) ≡ Some value → (x : Option Extent)
        → extent_in value ≡ x → option_map (slot_of v.stores file index) (counted m index x) ≡ Some slot
        → ShownBy v at file index slot
    by_extent value seen None said is = absurd (cc)
    by_extent value seen (Some x) said is = by_counts value x seen said (counts m index x) is

    by_value : (o : Option (List ℕ)) → value_at at v (extent_key file index) ≡ o
        → option_map (slot_of v.stores file index) (counted m index (option_and_then extent_in o)) ≡ Some slot
        → ShownBy v at file index slot
    by_value None seen is = absurd (cc)
    by_value (Some value) seen is = by_extent value seen (extent_in value) refl is

pub same_some : {A : Type 0} (x y : A) (o : Option A) → o ≡ Some x → o ≡ Some y → x ≡ y
same_some x y o a b = cc

-- a block is there where a view shows one
pub block_there : (v : Versions) (at : At) (file : ℕ) (m : Marks) (index : ℕ) (slot : Slot) → KeepsBlocks v
    → IsPlace file index → block_slot v at file m index ≡ Some slot → v.blocks slot ≢ None
block_there v at file m index slot keeps place is =
    let b = shown_by v at file m index slot is in
    let n = keeps.named file index b.life place b.among in
    let same : slot_of v.stores file index n.extent ≡ slot =
    ap (slot_of v.stores file index) (same_some n.extent b.extent (extent_in b.life.value) n.said b.said) ∙ b.is in
    subst (λ (t : Slot). v.blocks t ≢ None) same n.there

-- ---- where the slot and its bytes stay, so does the block

pub slot_same : (v z : Versions) (at : At) (g : ℕ) (n : Marks) (j : ℕ) → z.stores ≡ v.stores
    → value_at at z (extent_key g j) ≡ value_at at v (extent_key g j) → block_slot z at g n j ≡ block_slot v at g n j
unfolding block_slot
slot_same v z at g n j stores same =
    ap (λ (s : ℕ). option_map (slot_of s g j) (counted n j (option_and_then extent_in (value_at at z (extent_key g j))))) stores
    ∙ ap (λ (o : Option (List ℕ)). option_map (slot_of v.stores g j) (counted n j (option_and_then extent_in o))) same

pub block_same : (v z : Versions) (at : At) (g : ℕ) (n : Marks) (j : ℕ) → block_slot z at g n j ≡ block_slot v at g n j
    → ((t : Slot) → block_slot v at g n j ≡ Some t → z.blocks t ≡ v.blocks t) → block_at z at g n j ≡ block_at v at g n j
block_same v z at g n j slot blocks =
    ap (λ (o : Option Slot). unwrap_or (option_and_then z.blocks o) []) slot ∙ by_slot (block_slot v at g n j) refl
  where
    by_slot : (o : Option Slot) → block_slot v at g n j ≡ o
        → unwrap_or (option_and_then z.blocks o) [] ≡ unwrap_or (option_and_then v.blocks o) []
    by_slot None is = refl
    by_slot (Some t) is = ap (λ (b : Option (List ℕ)). unwrap_or b []) (blocks t is)

pub block_of : (v : Versions) (at : At) (g : ℕ) (n : Marks) (j : ℕ) (slot : Slot) (block : List ℕ)
    → block_slot v at g n j ≡ Some slot → v.blocks slot ≡ Some block → block_at v at g n j ≡ block
block_of v at g n j slot block is there =
    ap (λ (o : Option Slot). unwrap_or (option_and_then v.blocks o) []) is ∙ ap (λ (b : Option (List ℕ)). unwrap_or b []) there

-- ---- bytes

pub byte_same : (v z : Versions) (at : At) (g : ℕ) (n : Marks) (o : ℕ) → block_at z at g n (o / 8192) ≡ block_at v at g n
    (o / 8192)
    → byte_at z at g n o ≡ byte_at v at g n o
unfolding byte_at
byte_same v z at g n o is = ap (λ (b : List ℕ). slice_index b (o % 8192)) is

pub byte_in : (v : Versions) (at : At) (g : ℕ) (n : Marks) (o j : ℕ) → o / 8192 ≡ j
    → byte_at v at g n o ≡ slice_index (block_at v at g n j) (o % 8192)
unfolding byte_at
byte_in v at g n o j is = ap (λ (i : ℕ). slice_index (block_at v at g n i) (o % 8192)) is

index_same : (offset k : ℕ) → offset % 8192 + k < 8192 → (offset + k) / 8192 ≡ offset / 8192
index_same offset k within = omega arith

rest_same : (offset k : ℕ) → offset % 8192 + k < 8192 → (offset + k) % 8192 ≡ offset % 8192 + k
rest_same offset k within = omega arith

pub byte_behind : (v : Versions) (at : At) (g : ℕ) (n : Marks) (offset k : ℕ) → offset % 8192 + k < 8192
    → byte_at v at g n (offset + k) ≡ slice_index (block_at v at g n (offset / 8192)) (offset % 8192 + k)
byte_behind v at g n offset k within =
    byte_in v at g n (offset + k) (offset / 8192) (index_same offset k within)
    ∙ ap (λ (r : ℕ). slice_index (block_at v at g n (offset / 8192)) r) (rest_same offset k within)
