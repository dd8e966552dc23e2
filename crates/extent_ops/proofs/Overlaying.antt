-- A range is written, block by block.
use Rattle.std.proofs.Common.{◌≡◌, ◌≢◌, ◌⊎◌, inl, inr, ℕ, ◌+◌, ◌-◌, ◌/◌, ◌%◌, ◌<◌, ◌≤◌, ◌==◌, nat_le, nat_lt, Bool, true, false}
use Rattle.std.proofs.Common.{◌&&◌, if◌then◌else◌, min, max, Option, List, length, take, drop, slice_index, ap, sym, ◌∙◌}
use Rattle.std.proofs.Common.{refl, subst, arith}
use Rattle.std.proofs.lemmas.Grind.{common_steps}
use Rattle.std.proofs.lemmas.List.{get_or-take, get_or-drop, get_or_past, length-take, length-drop}
use Rattle.pairs.specs.declared.at.At.TheVariants.{Live}
use Rattle.pairs.specs.Versions.{Versions, epoch}
use Rattle.fs_keys.specs.declared.key_parts.KeyParts.TheVariants.{Inode as InodeKey}
use Rattle.fs_keys.specs.Keys.{key_of}
use Rattle.fs_shows.specs.Extents.{Marks, IsPlace, block_at, byte_at}
use Rattle.extent_ops.specs.Steps.{HasBlocks}
use Rattle.pair_types.specs.declared.slot.Slot.{Slot}
use Rattle.fs_shows.specs.Shows.{KeepsBlocks}
use Rattle.extent_ops.specs.Blocks.{overlaid, IsPatched, IsLoaded, Leaves, SetsBlock}
use Rattle.extent_ops.specs.Ranges.{Writes, blocks_in}
use Rattle.extent_ops.proofs.Keys.{inode-beside}
use Rattle.extent_ops.proofs.Changing.{marks_kept}
use Rattle.extent_ops.proofs.Showing.{byte_same, byte_in}
use Rattle.extent_ops.proofs.Filling.{below_or}

-- ---- tests

abbrev pub IsIn : ℕ → ℕ → ℕ → Type 0
IsIn a n o = ((a ≤ o) × (o < a + n)) ⊎ ((o < a) ⊎ (a + n ≤ o))

pub in_or : (a n o : ℕ) → IsIn a n o
in_or a n o = by_tests (nat_le a o) (nat_lt o (a + n)) refl refl
  where
    by_tests : (t u : Bool) → nat_le a o ≡ t → nat_lt o (a + n) ≡ u → IsIn a n o
    by_tests true true p q = inl (grind (arith, common_steps), grind (arith, common_steps))
    by_tests true false p q = inr (inr (grind (arith, common_steps)))
    by_tests false u p q = inr (inl (grind (arith, common_steps)))

pub test_in : (a n o : ℕ) → a ≤ o → o < a + n → (nat_le a o && nat_lt o (a + n)) ≡ true
test_in a n o p q = grind (arith, common_steps)

pub test_below : (a n o : ℕ) → o < a → (nat_le a o && nat_lt o (a + n)) ≡ false
test_below a n o p = grind (arith, common_steps)

pub test_above : (a n o : ℕ) → a + n ≤ o → (nat_le a o && nat_lt o (a + n)) ≡ false
test_above a n o p = grind (arith, common_steps)

-- a byte in the range, and one outside of it
pub overlaid-in : (a n : ℕ) (content : List ℕ) (f : ℕ → ℕ) (o : ℕ) → a ≤ o → o < a + n
    → overlaid a n content f o ≡ slice_index content (o - a)
overlaid-in a n content f o p q = rw (test_in a n o p q) refl

pub overlaid-out : (a n : ℕ) (content : List ℕ) (f : ℕ → ℕ) (o : ℕ) → (o < a) ⊎ (a + n ≤ o) → overlaid a n content f o ≡ f o
overlaid-out a n content f o (inl k) = rw (test_below a n o k) refl
overlaid-out a n content f o (inr k) = rw (test_above a n o k) refl

-- over other bytes that are the same there
pub overlaid-over : (a n : ℕ) (content : List ℕ) (f g : ℕ → ℕ) (o : ℕ) → f o ≡ g o
    → overlaid a n content f o ≡ overlaid a n content g o
overlaid-over a n content f g o same =
    ap (λ (b : ℕ). if nat_le a o && nat_lt o (a + n) then slice_index content (o - a) else b) same

-- ---- what stays

pub leaves_none : (file : ℕ) (m : Marks) (v : Versions) → HasBlocks v → Leaves file m v v
leaves_none file m v has = record {
  others = λ g n o fits small other. refl;
  earlier = λ number late g n o fits small. refl;
  before = λ number late key. refl;
  in_place = λ index slot small lies. lies;
  stores = refl;
  epoch_is = refl;
  has = has;
  stale = λ marks stale. stale;
}

pub leaves_both : (file : ℕ) (m : Marks) (v y z : Versions) → y.lives (key_of (InodeKey file)) ≡ v.lives (key_of (InodeKey file))
    → Leaves file m v y → Leaves file m y z → Leaves file m v z
leaves_both file m v y z same a b = record {
  others = λ g n o fits small other. b.others g n o fits small other ∙ a.others g n o fits small other;
  earlier = λ number late g n o fits small. b.earlier number (later number late) g n o fits small
      ∙ a.earlier number late g n o fits small;
  before = λ number late key. b.before number (later number late) key ∙ a.before number late key;
  in_place = λ index slot small lies. b.in_place index slot small (a.in_place index slot small lies);
  stores = b.stores ∙ a.stores;
  epoch_is = b.epoch_is ∙ a.epoch_is;
  has = b.has;
  stale = λ marks stale. b.stale (marks_kept file v y same ∙ marks) (a.stale marks stale);
}
  where
    later : (number : ℕ) → number < epoch v → number < epoch y
    later number late = subst (λ (e : ℕ). number < e) (sym a.epoch_is) late

-- ---- one block

-- a patch of one block, at the byte of an offset in that block
patch_here : (offset o n : ℕ) (block part : List ℕ) → length part ≡ n → offset % 8192 + n ≤ 8192 → o / 8192 ≡ offset / 8192
    → overlaid (offset % 8192) (length part) part (λ j. slice_index block j) (o % 8192)
    ≡ overlaid offset n part (λ p. slice_index block (p % 8192)) o
patch_here offset o n block part long within same = elim (in_or offset n o) [
  | inl h ↦ overlaid-in (offset % 8192) (length part) part (λ j. slice_index block j) (o % 8192) (omega arith) (omega arith)
      ∙ ap (slice_index part) (place h.0) ∙ sym (overlaid-in offset n part (λ p. slice_index block (p % 8192)) o h.0 h.1)
  | inr h ↦ overlaid-out (offset % 8192) (length part) part (λ j. slice_index block j) (o % 8192) (outside h)
      ∙ sym (overlaid-out offset n part (λ p. slice_index block (p % 8192)) o h)
]
  where
    place : offset ≤ o → o % 8192 - offset % 8192 ≡ o - offset
    place h = omega arith

    outside : (o < offset) ⊎ (offset + n ≤ o) → (o % 8192 < offset % 8192) ⊎ (offset % 8192 + length part ≤ o % 8192)
    outside (inl k) = inl (omega arith)
    outside (inr k) = inr (omega arith)

-- and in the others
patch_there : (offset o n : ℕ) → offset % 8192 + n ≤ 8192 → o / 8192 ≢ offset / 8192 → (o < offset) ⊎ (offset + n ≤ o)
patch_there offset o n within other = elim (in_or offset n o) [
  | inl h ↦ absurd (other (omega arith))
  | inr h ↦ h
]

pub same_or : (a b : ℕ) → (a ≡ b) ⊎ (a ≢ b)
same_or a b = by_test (nat_le a b) (nat_le b a) refl refl
  where
    by_test : (t u : Bool) → nat_le a b ≡ t → nat_le b a ≡ u → (a ≡ b) ⊎ (a ≢ b)
    by_test true true p q = inl (grind (arith, common_steps))
    by_test true false p q = inr (grind (arith, common_steps))
    by_test false u p q = inr (grind (arith, common_steps))

pub sets_writes : (file : ℕ) (m : Marks) (offset n : ℕ) (part block : List ℕ) (v z : Versions) → length part ≡ n
    → offset % 8192 + n ≤ 8192 → IsPatched (block_at v Live file m (offset / 8192)) (offset % 8192) part block
    → SetsBlock file m (offset / 8192) block v z → Writes file m offset n part v z
sets_writes file m offset n part block v z long within patch s = record {
  live = λ o small. elim (same_or (o / 8192) (offset / 8192)) [
    | inl e ↦ byte_in z Live file m o (offset / 8192) e
        ∙ ap (λ (b : List ℕ). slice_index b (o % 8192)) s.live
        ∙ patch (o % 8192) (omega arith)
        ∙ patch_here offset o n (block_at v Live file m (offset / 8192)) part long within e
        ∙ overlaid-over offset n part (λ p. slice_index (block_at v Live file m (offset / 8192)) (p % 8192))
        (byte_at v Live file m) o (sym (byte_in v Live file m o (offset / 8192) e))
    | inr e ↦ byte_same v z Live file m o (s.beside (o / 8192) (omega arith) e)
        ∙ sym (overlaid-out offset n part (byte_at v Live file m) o (patch_there offset o n within e))
  ];
  keys = s.keys;
  leaves = s.leaves;
}

-- a whole block is its own patch
pub whole_patch : (old block : List ℕ) (from : ℕ) → from ≡ 0 → length block ≡ 8192 → IsPatched old from block block
whole_patch old block from first whole = λ k within.
    ap (slice_index block) (place k) ∙ sym (overlaid-in from (length block) block (λ j. slice_index old j) k (omega (
      arith,
      first,
    ))
    (omega (arith, first, whole)))
  where
    place : (k : ℕ) → k ≡ k - from
    place k = omega (arith, first)

-- a block that was read, with a part over its bytes, and without the zeros behind
pub part_patch : (v : Versions) (file : ℕ) (m : Marks) (index : ℕ) (slot : Option Slot) (bytes old new last part : List ℕ)
    (n from count : ℕ) → KeepsBlocks v → IsPlace file index → IsLoaded Live file m index slot bytes n v → old ≡ bytes
    → IsPatched old from part new → count ≡ max n (from + length part) → last ≡ take count new
    → IsPatched (block_at v Live file m index) from part last
part_patch v file m index slot bytes old new last part n from count keeps place loaded olds patch counts lasts = λ k within.
    ap (λ (l : List ℕ). slice_index l k) lasts ∙ by_count k within (below_or k count)
  where
    was : (k : ℕ) → k < 8192 → slice_index old k ≡ slice_index (block_at v Live file m index) k
    was k within = ap (λ (l : List ℕ). slice_index l k) olds ∙ loaded.bytes_are keeps place k within

    by_count : (k : ℕ) → k < 8192 → (k < count) ⊎ (count ≤ k)
        → slice_index (take count new) k ≡ overlaid from (length part) part (λ j. slice_index (block_at v Live file m index) j) k
    by_count k within (inl low) =
        get_or-take count new k 0 low ∙ patch k within
        ∙ overlaid-over from (length part) part (λ j. slice_index old j) (λ j. slice_index (block_at v Live file m index) j) k
        (was k within)
    by_count k within (inr high) =
        get_or_past (take count new) k 0 (omega (arith, length-take count new))
        ∙ sym (overlaid-out from (length part) part (λ j. slice_index (block_at v Live file m index) j) k (inr (omega arith))
        ∙ sym (loaded.bytes_are keeps place k within) ∙ loaded.behind keeps place k (omega arith))

-- ---- two ranges, one behind the other

joined : (f g : ℕ → ℕ) (offset done n : ℕ) (content part : List ℕ) (o : ℕ) → part ≡ take n (drop done content)
    → g o ≡ overlaid offset done content f o → overlaid (offset + done) n part g o ≡ overlaid offset (done + n) content f o
joined f g offset done n content part o is was = elim (in_or (offset + done) n o) [
  | inl h ↦ overlaid-in (offset + done) n part g o h.0 h.1 ∙ byte h.0 h.1
      ∙ sym (overlaid-in offset (done + n) content f o (omega arith) (omega arith))
  | inr h ↦ overlaid-out (offset + done) n part g o h ∙ was ∙ outside h (in_or offset done o)
]
  where
    byte : offset + done ≤ o → o < offset + done + n → slice_index part (o - (offset + done)) ≡ slice_index content (o - offset)
    byte p q =
        let less : o - (offset + done) < n = omega arith in
        let e : done + (o - (offset + done)) ≡ o - offset = omega arith in
        ap (λ (l : List ℕ). slice_index l (o - (offset + done))) is
        ∙ get_or-take n (drop done content) (o - (offset + done)) 0 less
        ∙ get_or-drop done content (o - (offset + done)) 0
        ∙ ap (slice_index content) e

    outside : (o < offset + done) ⊎ (offset + done + n ≤ o) → IsIn offset done o
        → overlaid offset done content f o ≡ overlaid offset (done + n) content f o
    outside h (inl k) = overlaid-in offset done content f o k.0 k.1
        ∙ sym (overlaid-in offset (done + n) content f o k.0 (omega arith))
    outside (inl h) (inr (inl k)) = overlaid-out offset done content f o (inl k)
        ∙ sym (overlaid-out offset (done + n) content f o (inl k))
    outside (inl h) (inr (inr k)) = absurd (omega arith)
    outside (inr h) (inr k) = overlaid-out offset done content f o k
        ∙ sym (overlaid-out offset (done + n) content f o (inr (omega arith)))

pub writes_none : (file : ℕ) (m : Marks) (offset : ℕ) (content : List ℕ) (v : Versions) → HasBlocks v
    → Writes file m offset 0 content v v
writes_none file m offset content v has = record {
  live = λ o small. sym (overlaid-out offset 0 content (byte_at v Live file m) o (outside o (in_or offset 0 o)));
  keys = λ key beside. refl;
  leaves = leaves_none file m v has;
}
  where
    outside : (o : ℕ) → IsIn offset 0 o → (o < offset) ⊎ (offset + 0 ≤ o)
    outside o (inl h) = absurd (omega arith)
    outside o (inr h) = h

pub writes_both : (file : ℕ) (m : Marks) (offset done n : ℕ) (content part : List ℕ) (v y z : Versions)
    → part ≡ take n (drop done content) → Writes file m offset done content v y → Writes file m (offset + done) n part y z
    → Writes file m offset (done + n) content v z
writes_both file m offset done n content part v y z is a b = record {
  live = λ o small. b.live o small
      ∙ joined (byte_at v Live file m) (byte_at y Live file m) offset done n content part o is (a.live o small);
  keys = λ key beside. b.keys key beside ∙ a.keys key beside;
  leaves = leaves_both file m v y z (a.keys (key_of (InodeKey file)) (inode-beside file file)) a.leaves b.leaves;
}

-- ---- how many blocks

pub blocks_more : (offset done n total : ℕ) → n ≡ min (8192 - (offset + done) % 8192) (total - done) → done < total
    → (0 < done → (offset + done) % 8192 ≡ 0) → blocks_in offset done + 1 ≤ blocks_in offset (done + n)
blocks_more offset done n total is less aligned = by_test (done == 0) refl
  where
    some : (done + n == 0) ≡ false
    some = let more : done + n ≢ 0 = omega arith in grind (arith, common_steps)

    by_test : (t : Bool) → (done == 0) ≡ t → (if t then 0 else (offset % 8192 + done + 8191) / 8192) + 1 ≤ blocks_in offset
        (done + n)
    by_test true at = let none : done ≡ 0 = grind (arith, common_steps) in rw some (omega arith)
    by_test false at =
        let one : 0 < done = grind (arith, common_steps) in
        let even : (offset + done) % 8192 ≡ 0 = aligned one in
        rw some (omega arith)

pub aligned_more : (offset done n total : ℕ) → n ≡ min (8192 - (offset + done) % 8192) (total - done) → done < total
    → done + n < total → (offset + (done + n)) % 8192 ≡ 0
aligned_more offset done n total is less more = omega arith

pub blocks_le : (offset a b : ℕ) → a ≤ b → blocks_in offset a ≤ blocks_in offset b
blocks_le offset a b less = by_test (a == 0) (b == 0) refl refl
  where
    by_test : (t u : Bool) → (a == 0) ≡ t → (b == 0) ≡ u → (if t then 0 else (offset % 8192 + a + 8191) / 8192)
        ≤ (if u then 0 else (offset % 8192 + b + 8191) / 8192)
    by_test true u p q = omega arith
    by_test false true p q = let none : b ≡ 0 = grind (arith, common_steps) in
        let some : a ≢ 0 = grind (arith, common_steps) in absurd (omega (arith, some, none))
    by_test false false p q = omega arith

-- one block more
pub writes_step : (file : ℕ) (m : Marks) (offset done n : ℕ) (content : List ℕ) (v y z : Versions)
    → n ≡ min (8192 - (offset + done) % 8192) (length content - done) → Writes file m offset done content v y
    → Writes file m (offset + done) (length (take (done + n - done) (drop done content)))
    (take (done + n - done) (drop done content))
    y z → Writes file m offset (done + n) content v z
writes_step file m offset done n content v y z is a b =
    let e : done + n - done ≡ n = omega arith in
    let long : length (take (done + n - done) (drop done content)) ≡ n =
    omega (arith, length-take (done + n - done) (drop done content), length-drop done content) in
    writes_both file m offset done n content (take (done + n - done) (drop done content)) v y z
    (ap (λ (k : ℕ). take k (drop done content)) e) a
    (subst (λ (k : ℕ). Writes file m (offset + done) k (take (done + n - done) (drop done content)) y z) long b)
