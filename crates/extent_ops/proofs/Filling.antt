-- The bytes of a block in a room of zeros.
use Rattle.std.proofs.Common.{◌≡◌, ◌≢◌, ◌⊎◌, inl, inr, ℕ, ◌+◌, ◌-◌, ◌/◌, ◌%◌, ◌<◌, ◌≤◌, ◌^◌, nat_lt, Bool, true, false, min}
use Rattle.std.proofs.Common.{List, []}
use Rattle.std.proofs.Common.{◌++◌, length, take, drop, replicate, slice_index, Option, Some, None, ap, sym, ◌∙◌, refl}
use Rattle.std.proofs.Common.{arith, subst}
use Rattle.std.proofs.lemmas.Grind.{common_steps}
use Rattle.std.proofs.lemmas.List.{length-take, length-drop, length-replicate, get_or_append_left, get_or-append_right}
use Rattle.std.proofs.lemmas.List.{get_or-take}
use Rattle.std.proofs.lemmas.List.{get_or-drop, get_or_past, get_or-replicate}
use Rattle.pair_types.specs.declared.slot.Slot.{Slot}
use Rattle.pairs.specs.declared.at.At.{At}
use Rattle.pairs.specs.Versions.{Versions}
use Rattle.pairs.specs.Found.{Fills}
use Rattle.fs_shows.specs.Extents.{Marks, IsPlace, block_slot, block_at, byte_at}
use Rattle.fs_shows.specs.Shows.{KeepsBlocks}
use Rattle.extent_ops.specs.Blocks.{FilledFrom, IsLoaded}
use Rattle.extent_ops.specs.Ranges.{ReadsBytes}
use Rattle.extent_ops.proofs.Showing.{block_there, block_of, byte_behind}

pub below_or : (k n : ℕ) → (k < n) ⊎ (n ≤ k)
below_or k n = by_test (nat_lt k n) refl
  where
    by_test : (t : Bool) → nat_lt k n ≡ t → (k < n) ⊎ (n ≤ k)
    by_test true is = inl (grind (arith, common_steps))
    by_test false is = inr (grind (arith, common_steps))

pub zero_at : (n k : ℕ) → slice_index (replicate n 0) k ≡ 0
zero_at n k = elim (below_or k n) [
  | inl h ↦ get_or-replicate n k 0 0 h
  | inr h ↦ get_or_past (replicate n 0) k 0 (omega (arith, length-replicate {A = ℕ} n 0))
]

-- behind so many bytes of a block come zeros
zero_behind : (n k room : ℕ) (block : List ℕ) → n ≤ length block → n ≤ k
    → slice_index (take n block ++ drop n (replicate room 0)) k ≡ 0
zero_behind n k room block few behind =
    get_or-append_right (take n block) (drop n (replicate room 0)) n k 0 (omega (arith, length-take n block)) behind
    ∙ get_or-drop n (replicate room 0) (k - n) 0 ∙ zero_at room (n + (k - n))

filled : (n k room : ℕ) (block : List ℕ) → k < room → n ≡ min room (length block)
    → slice_index (take n block ++ drop n (replicate room 0)) k ≡ slice_index block k
filled n k room block within is = elim (below_or k n) [
  | inl h ↦ get_or_append_left (take n block) (drop n (replicate room 0)) 0 k (omega (arith, length-take n block))
      ∙ get_or-take n block k 0 h
  | inr h ↦ zero_behind n k room block (omega arith) h ∙ sym (get_or_past block k 0 (omega arith))
]

-- what was read of a block into a room of zeros
pub record HasBytes (block bytes : List ℕ) (n : ℕ) : Type 0 where
  pub are : (k : ℕ) → k < 8192 → slice_index bytes k ≡ slice_index block k
  pub behind : (k : ℕ) → n ≤ k → slice_index bytes k ≡ 0

fills_bytes : (block old new : List ℕ) (n : ℕ) → old ≡ replicate 8192 0 → Fills block old new n → HasBytes block new n
fills_bytes block old new n zeros fills =
    let long : length old ≡ 8192 = ap length zeros ∙ length-replicate {A = ℕ} 8192 0 in
    let is : n ≡ min 8192 (length block) = fills.count ∙ ap (λ (r : ℕ). min r (length block)) long in
    let made : new ≡ take n block ++ drop n (replicate 8192 0) =
    fills.filled ∙ ap (λ (room : List ℕ). take n block ++ drop n room) zeros in
    record {
      are = λ k within. ap (λ (l : List ℕ). slice_index l k) made ∙ filled n k 8192 block within is;
      behind = λ k behind. ap (λ (l : List ℕ). slice_index l k) made ∙ zero_behind n k 8192 block (omega arith) behind;
    }

none_bytes : (old new : List ℕ) (n : ℕ) → old ≡ replicate 8192 0 → new ≡ old → HasBytes [] new n
none_bytes old new n zeros same = record {
  are = λ k within. ap (λ (l : List ℕ). slice_index l k) (same ∙ zeros) ∙ zero_at 8192 k
      ∙ sym (get_or_past [] k 0 (omega arith));
  behind = λ k behind. ap (λ (l : List ℕ). slice_index l k) (same ∙ zeros) ∙ zero_at 8192 k;
}

has_bytes : (v : Versions) (at : At) (file : ℕ) (m : Marks) (index : ℕ) (slot : Option Slot) (old new : List ℕ) (n : ℕ)
    → block_slot v at file m index ≡ slot → old ≡ replicate 8192 0 → FilledFrom slot old new n v → KeepsBlocks v
    → IsPlace file index → HasBytes (block_at v at file m index) new n
has_bytes v at file m index None old new n is zeros fills keeps place =
    subst (λ (b : List ℕ). HasBytes b new n) (sym (none is)) (none_bytes old new n zeros fills.1)
  where
    none : block_slot v at file m index ≡ None → block_at v at file m index ≡ []
    none is = rw is refl
has_bytes v at file m index (Some slot) old new n is zeros fills keeps place =
    by_block (v.blocks slot) refl (block_there v at file m index slot keeps place is)
  where
    by_block : (b : Option (List ℕ)) → v.blocks slot ≡ b → b ≢ None → HasBytes (block_at v at file m index) new n
    by_block None there some = absurd (some refl)
    by_block (Some b) there some =
        subst (λ (l : List ℕ). HasBytes l new n) (sym (block_of v at file m index slot b is there))
        (fills_bytes b old new n zeros (fills b there))

pub is_loaded : (v : Versions) (at : At) (file : ℕ) (m : Marks) (index : ℕ) (slot : Option Slot) (old new : List ℕ) (n : ℕ)
    → old ≡ replicate 8192 0 → block_slot v at file m index ≡ slot → FilledFrom slot old new n v
    → IsLoaded at file m index slot new n v
is_loaded v at file m index slot old new n zeros is fills = record {
  slot_is = is;
  bytes_are = λ keeps place. (has_bytes v at file m index slot old new n is zeros fills keeps place).are;
  behind = λ keeps place. (has_bytes v at file m index slot old new n is zeros fills keeps place).behind;
}

-- ---- parts of a block

pub part_read : (v : Versions) (at : At) (file : ℕ) (m : Marks) (offset count : ℕ) (slot : Option Slot) (bytes room : List ℕ)
    (n : ℕ) → file < 2 ^ 64 → offset < 2 ^ 64 → offset % 8192 + count ≤ 8192 → room ≡ take count (drop (offset % 8192) bytes)
    → IsLoaded at file m (offset / 8192) slot bytes n v → ReadsBytes at file m offset count room v
part_read v at file m offset count slot bytes room n fits small within is loaded = record {
  bytes = λ keeps k less.
      let here : offset % 8192 + k < 8192 = omega arith in
      let place : IsPlace file (offset / 8192) = record { file_fits = fits; index_fits = omega arith } in
      ap (λ (l : List ℕ). slice_index l k) is
      ∙ get_or-take count (drop (offset % 8192) bytes) k 0 less
      ∙ get_or-drop (offset % 8192) bytes k 0
      ∙ loaded.bytes_are keeps place (offset % 8192 + k) here
      ∙ sym (byte_behind v at file m offset k here);
}

pub after_range : (f n : ℕ) (b items r : List ℕ) → r ≡ take (f + n - f) (drop f b) → b ≡ items → r ≡ take n (drop f items)
after_range f n b items r is same =
    let e : f + n - f ≡ n = omega arith in
    is ∙ ap (λ (k : ℕ). take k (drop f b)) e ∙ ap (λ (l : List ℕ). take n (drop f l)) same

-- a part that was read behind what was read before
pub reads_step : (at : At) (file : ℕ) (m : Marks) (offset done n : ℕ) (room part rest : List ℕ) (v : Versions)
    → n ≡ min (8192 - (offset + done) % 8192) (length room - done) → done ≤ length room
    → length part ≡ length (take (done + n - done) (drop done room)) → ReadsBytes at file m offset done room v
    → ReadsBytes at file m (offset + done) (length (take (done + n - done) (drop done room))) part v
    → ReadsBytes at file m offset (done + n) (take done room ++ (part ++ rest)) v
reads_step at file m offset done n room part rest v is within same first then = record {
  bytes = λ keeps k less. elim (below_or k done) [
    | inl h ↦ get_or_append_left (take done room) (part ++ rest) 0 k (omega (arith, length-take done room))
        ∙ get_or-take done room k 0 h ∙ first.bytes keeps k h
    | inr h ↦ get_or-append_right (take done room) (part ++ rest) done k 0 (omega (arith, length-take done room)) h
        ∙ get_or_append_left part rest 0 (k - done) (omega (arith, long, same))
        ∙ then.bytes keeps (k - done) (omega (arith, long))
        ∙ ap (byte_at v at file m) (place k h)
  ];
}
  where
    long : length (take (done + n - done) (drop done room)) ≡ n
    long = omega (arith, length-take (done + n - done) (drop done room), length-drop done room)

    place : (k : ℕ) → done ≤ k → offset + done + (k - done) ≡ offset + k
    place k h = omega arith
