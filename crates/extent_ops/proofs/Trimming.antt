-- A file is cut: its last block ends at the size, and the marks behind the cut show zeros from there on.
use Rattle.std.proofs.Common.{◌≡◌, ◌≢◌, ◌⊎◌, inl, inr, ℕ, ◌/◌, ◌%◌, ◌<◌, ◌≤◌, ◌^◌, nat_lt, Bool, true, false}
use Rattle.std.proofs.Common.{if◌then◌else◌, List, [], take, slice_index, Option, Some, None, refl, sym, ◌∙◌, ap, subst, arith}
use Rattle.std.proofs.lemmas.Grind.{common_steps}
use Rattle.std.proofs.lemmas.List.{get_or-take, get_or_past, length-take}
use Rattle.std.specs.Prelude.{option_map, option_and_then, unwrap_or, IfSome}
use Rattle.std.specs.List.{Contains}
use Rattle.pair_types.specs.declared.slot.Slot.{Slot}
use Rattle.pairs.specs.declared.at.At.{At}
use Rattle.pairs.specs.declared.at.At.TheVariants.{Live, Snap}
use Rattle.pairs.specs.Lives.{Life, seen, born}
use Rattle.pairs.specs.Versions.{Versions, value_at, CanPut, with_put}
use Rattle.pairs.proofs.VersionsLaws.{live-put, earlier-put, others-put, has-put}
use Rattle.fs_keys.specs.declared.key_parts.KeyParts.TheVariants.{Inode as InodeKey, Stale as StaleKey}
use Rattle.fs_keys.specs.declared.rows.Extent.{Extent}
use Rattle.fs_keys.specs.Keys.{key_of}
use Rattle.fs_keys.specs.Values.{extent_in}
use Rattle.fs_shows.specs.Extents.{Marks, counts, counted, slot_of, IsPlace, row, extent_at, block_slot, block_at, byte_at}
use Rattle.fs_shows.specs.Shows.{live_marks, counts_by, MarksStale}
use Rattle.extent_ops.specs.Steps.{HasBlocks}
use Rattle.extent_ops.specs.Blocks.{extent_key, IsLoaded, Leaves, SetsBlock}
use Rattle.extent_ops.specs.Cuts.{floor_of, cut_marks, trimmed, stale_key, Sweeps, Trims, Cuts}
use Rattle.extent_ops.proofs.Keys.{inode-beside, stale-beside, stale-not_epoch, extent-not_stale, inode-not_stale}
use Rattle.extent_ops.proofs.Changing.{key_or, epoch-put, put-there, put-blocks, put-stores, marks_kept}
use Rattle.extent_ops.proofs.Showing.{slot_same, block_same, byte_same, byte_in}
use Rattle.extent_ops.proofs.Filling.{below_or}
use Rattle.extent_ops.proofs.Overlaying.{leaves_none, leaves_both, same_or}

-- ---- zeros behind a size

pub trimmed-below : (size : ℕ) (f : ℕ → ℕ) (o : ℕ) → o < size → trimmed size f o ≡ f o
trimmed-below size f o less = let t : nat_lt o size ≡ true = grind (arith, common_steps) in rw t refl

pub trimmed-behind : (size : ℕ) (f : ℕ → ℕ) (o : ℕ) → size ≤ o → trimmed size f o ≡ 0
trimmed-behind size f o behind = let t : nat_lt o size ≡ false = grind (arith, common_steps) in rw t refl

-- ---- the last block

-- in blocks below the floor, all but the last stand below the size
last_or_below : (size o : ℕ) → o / 8192 < floor_of size → o / 8192 ≢ size / 8192 → o < size
last_or_below size o low other = omega arith

pub trims_even : (file : ℕ) (m : Marks) (size : ℕ) (v : Versions) → size % 8192 ≡ 0 → HasBlocks v → Trims file m size v v
trims_even file m size v even has = record {
  live = λ o small low. sym (trimmed-below size (byte_at v Live file m) o (omega arith));
  keys = λ key beside. refl;
  leaves = leaves_none file m v has;
}

-- the bytes of the last block, as they were read
module _ (file : ℕ) (m : Marks) (size : ℕ) (v : Versions) (place : IsPlace file (size / 8192)) (slot : Option Slot)
    (bytes : List ℕ) (n : ℕ) (loaded : IsLoaded Live file m (size / 8192) slot bytes n v) (has : HasBlocks v) where
  last_byte : (o : ℕ) → o / 8192 ≡ size / 8192 → slice_index bytes (o % 8192) ≡ byte_at v Live file m o
  last_byte o same = loaded.bytes_are has.blocks place (o % 8192) (omega arith) ∙ sym (byte_in v Live file m o (size / 8192) same)

  pub trims_short : n ≤ size % 8192 → Trims file m size v v
  trims_short short = record {
    live = λ o small low. by_offset o low (same_or (o / 8192) (size / 8192)) (below_or o size);
    keys = λ key beside. refl;
    leaves = leaves_none file m v has;
  }
    where
      by_offset : (o : ℕ) → o / 8192 < floor_of size → (o / 8192 ≡ size / 8192) ⊎ (o / 8192 ≢ size / 8192)
          → (o < size) ⊎ (size ≤ o) → byte_at v Live file m o ≡ trimmed size (byte_at v Live file m) o
      by_offset o low same (inl less) = sym (trimmed-below size (byte_at v Live file m) o less)
      by_offset o low (inl same) (inr behind) =
          sym (last_byte o same) ∙ loaded.behind has.blocks place (o % 8192) (omega arith)
          ∙ sym (trimmed-behind size (byte_at v Live file m) o behind)
      by_offset o low (inr other) (inr behind) =
          let less : o < size = last_or_below size o low other in absurd (omega arith)

  pub trims_set : (block : List ℕ) (z : Versions) → block ≡ take (size % 8192) bytes
      → SetsBlock file m (size / 8192) block v z → Trims file m size v z
  trims_set block z is s = record {
    live = λ o small low. by_offset o small low (same_or (o / 8192) (size / 8192)) (below_or o size);
    keys = s.keys;
    leaves = s.leaves;
  }
    where
      here : (o : ℕ) → o / 8192 ≡ size / 8192 → byte_at z Live file m o ≡ slice_index (take (size % 8192) bytes) (o % 8192)
      here o same = byte_in z Live file m o (size / 8192) same ∙ ap (λ (b : List ℕ). slice_index b (o % 8192)) (s.live ∙ is)

      by_offset : (o : ℕ) → o < 2 ^ 64 → o / 8192 < floor_of size → (o / 8192 ≡ size / 8192) ⊎ (o / 8192 ≢ size / 8192)
          → (o < size) ⊎ (size ≤ o) → byte_at z Live file m o ≡ trimmed size (byte_at v Live file m) o
      by_offset o small low (inl same) (inl less) =
          here o same ∙ get_or-take (size % 8192) bytes (o % 8192) 0 (omega arith) ∙ last_byte o same
          ∙ sym (trimmed-below size (byte_at v Live file m) o less)
      by_offset o small low (inl same) (inr behind) =
          here o same ∙ get_or_past (take (size % 8192) bytes) (o % 8192) 0 (omega (arith, length-take (size % 8192) bytes))
          ∙ sym (trimmed-behind size (byte_at v Live file m) o behind)
      by_offset o small low (inr other) within =
          let less : o < size = last_or_below size o low other in
          byte_same v z Live file m o (s.beside (o / 8192) (omega arith) other)
          ∙ sym (trimmed-below size (byte_at v Live file m) o less)

-- ---- the marks behind the cut

-- what no sweep is needed for: the floor does not rise, or each extent counts
abbrev IsSwept : ℕ → Marks → ℕ → Versions → Type 0
IsSwept file m size v = Sweeps file m size false v

module _ (file : ℕ) (m : Marks) (size : ℕ) (v : Versions) (swept : IsSwept file m size v) (marks : live_marks v file ≡ Some m)
    (stale : MarksStale v) where
  below_counts : (i : ℕ) (x : Extent) → IsPlace file i → extent_at v Live file i ≡ Some x → nat_lt i (floor_of size) ≡ true
      → counts m i x ≡ true
  below_counts i x place is low = by_swept swept
    where
      by_test : (t : Bool) → counts m i x ≡ t → row v Live (StaleKey file) ≡ None → counts m i x ≡ true
      by_test true at none = at
      by_test false at none = absurd (stale.marked file i x place is
          (ap (λ (o : Option Marks). counts_by o i x) marks ∙ at) none)

      by_swept : IsSwept file m size v → counts m i x ≡ true
      by_swept (inl same) = grind (arith, common_steps)
      by_swept (inr none) = by_test (counts m i x) refl none

  behind_counts : (i : ℕ) (x : Extent) → IsPlace file i → extent_at v Live file i ≡ Some x → nat_lt i (floor_of size) ≡ false
      → counts (cut_marks size m) i x ≡ false
  behind_counts i x place is high =
      let low : x.stamp ≤ m.stamp =
      subst (λ (o : Option Marks). IfSome o (λ n. x.stamp ≤ n.stamp)) marks (stale.within file i x place is) in
      grind (arith, common_steps)

  cut_slot : (i : ℕ) → IsPlace file i
      → block_slot v Live file (cut_marks size m) i ≡ (if nat_lt i (floor_of size) then block_slot v Live file m i else None)
  unfolding block_slot
  cut_slot i place = by_extent (extent_at v Live file i) refl
    where
      old : Marks → Option Extent → Option Slot
      old n x = option_map (slot_of v.stores file i) (counted n i x)

      low_counts : (x : Extent) → nat_lt i (floor_of size) ≡ true → counts (cut_marks size m) i x ≡ true
      low_counts x low = grind (arith, common_steps)

      by_test : (x : Extent) → extent_at v Live file i ≡ Some x → (t : Bool) → nat_lt i (floor_of size) ≡ t
          → option_map (slot_of v.stores file i) (counted (cut_marks size m) i (Some x))
          ≡ (if t then option_map (slot_of v.stores file i) (counted m i (Some x)) else None)
      by_test x is true low = rw (low_counts x low, below_counts i x place is low) refl
      by_test x is false high = rw (behind_counts i x place is high) refl

      by_none : (t : Bool) → option_map (slot_of v.stores file i) (counted (cut_marks size m) i None)
          ≡ (if t then option_map (slot_of v.stores file i) (counted m i None) else None)
      by_none true = refl
      by_none false = refl

      by_extent : (x : Option Extent) → extent_at v Live file i ≡ x
          → option_map (slot_of v.stores file i) (counted (cut_marks size m) i x)
          ≡ (if nat_lt i (floor_of size) then option_map (slot_of v.stores file i) (counted m i x) else None)
      by_extent None is = by_none (nat_lt i (floor_of size))
      by_extent (Some x) is = by_test x is (nat_lt i (floor_of size)) refl

  by_slot : (n : Marks) (o : ℕ) (slot : Option Slot) → block_slot v Live file n (o / 8192) ≡ slot
      → byte_at v Live file n o ≡ slice_index (unwrap_or (option_and_then v.blocks slot) []) (o % 8192)
  unfolding byte_at
  by_slot n o slot is = ap (λ (s : Option Slot). slice_index (unwrap_or (option_and_then v.blocks s) []) (o % 8192)) is

  cut_byte : (f : ℕ → ℕ) (o : ℕ) → IsPlace file (o / 8192)
      → (o / 8192 < floor_of size → byte_at v Live file m o ≡ trimmed size f o)
      → byte_at v Live file (cut_marks size m) o ≡ trimmed size f o
  cut_byte f o place was = by_floor (below_or (o / 8192) (floor_of size))
    where
      low_slot : o / 8192 < floor_of size → block_slot v Live file (cut_marks size m) (o / 8192) ≡ block_slot v Live file m
          (o / 8192)
      low_slot low = let t : nat_lt (o / 8192) (floor_of size) ≡ true = grind (arith, common_steps) in
          cut_slot (o / 8192) place ∙ rw t refl

      high_slot : floor_of size ≤ o / 8192 → block_slot v Live file (cut_marks size m) (o / 8192) ≡ None
      high_slot high = let t : nat_lt (o / 8192) (floor_of size) ≡ false = grind (arith, common_steps) in
          cut_slot (o / 8192) place ∙ rw t refl

      by_floor : (o / 8192 < floor_of size) ⊎ (floor_of size ≤ o / 8192)
          → byte_at v Live file (cut_marks size m) o ≡ trimmed size f o
      by_floor (inl low) = by_slot (cut_marks size m) o (block_slot v Live file m (o / 8192)) (low_slot low)
          ∙ sym (by_slot m o (block_slot v Live file m (o / 8192)) refl) ∙ was low
      by_floor (inr high) = by_slot (cut_marks size m) o None (high_slot high)
          ∙ get_or_past [] (o % 8192) 0 (omega arith) ∙ sym (trimmed-behind size f o (omega arith))

-- ---- the file is marked

module _ (file : ℕ) (m : Marks) (y : Versions) (has : HasBlocks y) where
  abbrev key : List ℕ
  key = stale_key file

  abbrev z : Versions
  z = with_put key [] y

  can : CanPut key [] y
  can = record { lives = has.lives; rises = λ is. absurd (stale-not_epoch file is) }

  extents_stay : (g j : ℕ) → z.lives (extent_key g j) ≡ y.lives (extent_key g j)
  extents_stay g j = put-there key [] (extent_key g j) y (extent-not_stale g j file)

  blocks_stay : (at : At) (g : ℕ) (n : Marks) (j : ℕ) → block_at z at g n j ≡ block_at y at g n j
  blocks_stay at g n j = block_same y z at g n j
      (slot_same y z at g n j (put-stores key [] y) (ap (seen at) (extents_stay g j)))
      (λ t is. ap (λ (b : Slot → Option (List ℕ)). b t) (put-blocks key [] y))

  bytes_stay : (at : At) (g : ℕ) (n : Marks) (o : ℕ) → byte_at z at g n o ≡ byte_at y at g n o
  bytes_stay at g n o = byte_same y z at g n o (blocks_stay at g n (o / 8192))

  inodes_stay : (f : ℕ) → z.lives (key_of (InodeKey f)) ≡ y.lives (key_of (InodeKey f))
  inodes_stay f = put-there key [] (key_of (InodeKey f)) y (inode-not_stale f file)

  has_z : HasBlocks z
  unfolding with_put
  has_z = record {
    lives = has-put key [] y can;
    blocks = record {
      some = has.blocks.some;
      named = λ f i l place among.
          let n = has.blocks.named f i l place (subst (λ (ls : List Life). Contains ls l) (extents_stay f i) among) in
          record { extent = n.extent; said = n.said; there = n.there };
      alone = λ f i g j l k x w a b. has.blocks.alone f i g j l k x w
          (record {
            place = a.place;
            life = subst (λ (ls : List Life). Contains ls l) (extents_stay f i) a.life;
            said = a.said;
          })
          (record {
            place = b.place;
            life = subst (λ (ls : List Life). Contains ls k) (extents_stay g j) b.life;
            said = b.said;
          });
    };
  }

  some_not : (o : Option (List ℕ)) (b : List ℕ) → o ≡ Some b → o ≢ None
  some_not o b is = λ none. absurd (cc)

  pub is_marked : row z Live (StaleKey file) ≢ None
  is_marked = some_not (row z Live (StaleKey file)) [] (live-put key [] y can)

  marks_stay : (f : ℕ) → live_marks z f ≡ live_marks y f
  marks_stay f = marks_kept f y z (inodes_stay f)

  extent_stays : (f i : ℕ) → extent_at z Live f i ≡ extent_at y Live f i
  extent_stays f i = ap (λ (ls : List Life). option_and_then extent_in (seen Live ls)) (extents_stay f i)

  stale_z : MarksStale y → MarksStale z
  stale_z stale = record {
    within = λ f i x place is. subst (λ (o : Option Marks). IfSome o (λ n. x.stamp ≤ n.stamp)) (sym (marks_stay f))
        (stale.within f i x place (sym (extent_stays f i) ∙ is));
    marked = λ f i x place is not. marked f (key_or (stale_key f) key)
        (stale.marked f i x place (sym (extent_stays f i) ∙ is)
        (ap (λ (o : Option Marks). counts_by o i x) (sym (marks_stay f)) ∙ not));
  }
    where
      marked : (f : ℕ) → (stale_key f ≡ key) ⊎ (stale_key f ≢ key) → row y Live (StaleKey f) ≢ None
          → row z Live (StaleKey f) ≢ None
      marked f (inl same) some = subst (λ (k : List ℕ). value_at Live z k ≢ None) (sym same) is_marked
      marked f (inr other) some = subst (λ (o : Option (List ℕ)). o ≢ None)
          (sym (others-put key [] (stale_key f) y Live other)) some

  pub mark_leaves : Leaves file m y z
  mark_leaves = record {
    others = λ g n o fits small other. bytes_stay Live g n o;
    earlier = λ number late g n o fits small. bytes_stay (Snap number) g n o;
    before = λ number late k. earlier-put key [] k y number can late;
    in_place = λ index slot small lies. record {
      slot_is = slot_same y z Live file m index (put-stores key [] y) (ap (seen Live) (extents_stay file index)) ∙ lies.slot_is;
      now = ap born (extents_stay file index) ∙ lies.now ∙ ap Some (sym (epoch-put key [] y (stale-not_epoch file)));
    };
    stores = put-stores key [] y;
    epoch_is = epoch-put key [] y (stale-not_epoch file);
    has = has_z;
    stale = λ marks stale. stale_z stale;
  }

  pub mark_bytes : (n : Marks) (o : ℕ) → byte_at z Live file n o ≡ byte_at y Live file n o
  mark_bytes n o = bytes_stay Live file n o

  pub mark_keys : (k : List ℕ) → k ≢ key → z.lives k ≡ y.lives k
  mark_keys k other = put-there key [] k y other

  pub mark_inodes : z.lives (key_of (InodeKey file)) ≡ y.lives (key_of (InodeKey file))
  mark_inodes = inodes_stay file

pub cuts_by : (file : ℕ) (m : Marks) (size : ℕ) (v y z : Versions) → file < 2 ^ 64 → IsSwept file m size v
    → Trims file m size v y → z ≡ with_put (stale_key file) [] y → Cuts file m size v z
cuts_by file m size v y z fits swept t is = subst (λ (z : Versions). Cuts file m size v z) (sym is) (record {
  live = λ marks stale o small.
      mark_bytes file m y t.leaves.has (cut_marks size m) o
      ∙ cut_byte file m size y (swept_still swept) (marks_kept file v y inode ∙ marks) (t.leaves.stale marks stale)
      (byte_at v Live file m) o (record { file_fits = fits; index_fits = omega arith }) (λ low. t.live o small low);
  marked = is_marked file m y t.leaves.has;
  keys = λ key beside other. mark_keys file m y t.leaves.has key other ∙ t.keys key beside;
  leaves = leaves_both file m v y (with_put (stale_key file) [] y) inode t.leaves (mark_leaves file m y t.leaves.has);
})
  where
    inode : y.lives (key_of (InodeKey file)) ≡ v.lives (key_of (InodeKey file))
    inode = t.keys (key_of (InodeKey file)) (inode-beside file file)

    swept_still : IsSwept file m size v → IsSwept file m size y
    swept_still (inl low) = inl low
    swept_still (inr none) = inr (ap (seen Live) (t.keys (key_of (StaleKey file)) (stale-beside file file)) ∙ none)
