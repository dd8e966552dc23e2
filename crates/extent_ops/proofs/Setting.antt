-- A block of a live file is written: over the old one, or into a new place.
use Rattle.std.proofs.Common.{◌≡◌, ◌≢◌, ◌⊎◌, inl, inr, ℕ, ◌<◌, ◌≤◌, ◌^◌, ◌/◌, Bool, true, false}
use Rattle.std.proofs.Common.{if◌then◌else◌, List, [], Option, Some, None, refl, sym, ◌∙◌, ap, subst, arith}
use Rattle.std.proofs.lemmas.Grind.{common_steps}
use Rattle.std.specs.Prelude.{option_map, option_and_then, IfSome}
use Rattle.std.specs.List.{Contains}
use Rattle.pair_types.specs.declared.slot.Slot.{Slot}
use Rattle.pairs.specs.declared.at.At.{At}
use Rattle.pairs.specs.declared.at.At.TheVariants.{Live, Snap}
use Rattle.pairs.specs.Lives.{Life, seen, born}
use Rattle.pairs.specs.Versions.{Versions, value_at, epoch, HasLives, CanPut, with_put, with_block}
use Rattle.pairs.specs.Found.{IsFresh}
use Rattle.pairs.proofs.VersionsLaws.{block-here, block-there, live-put, earlier-put, has-put}
use Rattle.fs_keys.specs.declared.key_parts.KeyParts.TheVariants.{Inode as InodeKey, Stale as StaleKey}
use Rattle.fs_keys.specs.declared.rows.Extent.{Extent}
use Rattle.fs_keys.specs.Keys.{key_of}
use Rattle.fs_keys.specs.Values.{extent_in}
use Rattle.fs_shows.specs.Extents.{Marks, counts, counted, slot_of, IsPlace, row, extent_at, block_slot, block_at}
use Rattle.fs_shows.specs.Shows.{NamesBlock, IsExtent, live_marks, counts_by, MarksStale}
use Rattle.extent_ops.specs.Steps.{HasBlocks}
use Rattle.extent_ops.specs.Blocks.{extent_key, extent_value, LiesNow, LiesAt, SetsBlock, PlacesNew}
use Rattle.extent_ops.proofs.Among.{Lived, born-among, unseen-earlier}
use Rattle.extent_ops.proofs.Keys.{key-place, key-not_epoch, inode-beside, stale-beside, file-beside, value-in}
use Rattle.extent_ops.proofs.Changing.{key_or, block-some, has-block, epoch-put, put-there, put-blocks, put-stores, marks_kept}
use Rattle.extent_ops.proofs.Changing.{IsPut, origin}
use Rattle.extent_ops.proofs.Showing.{ShownBy, shown_by, same_some, block_there, slot_same, block_same, block_of, byte_same}

-- ---- what a write of one block changes

-- the record at one key, and what lies in one slot, which no other block had and no earlier view shows
pub record Changes (file : ℕ) (m : Marks) (index : ℕ) (at : Slot) (block : List ℕ) (v z : Versions) : Type 0 where
  pub stores : z.stores ≡ v.stores
  pub epoch_is : epoch z ≡ epoch v
  pub keys : (k : List ℕ) → k ≢ extent_key file index → z.lives k ≡ v.lives k
  pub before : (number : ℕ) → number < epoch v → (k : List ℕ) → value_at (Snap number) z k ≡ value_at (Snap number) v k
  pub here : z.blocks at ≡ Some block
  pub elsewhere : (t : Slot) → t ≢ at → z.blocks t ≡ v.blocks t
  pub slot_is : block_slot z Live file m index ≡ Some at
  pub in_place : (slot : Slot) → LiesNow file m index slot v → LiesNow file m index slot z
  pub apart : (g : ℕ) (n : Marks) (j : ℕ) (t : Slot) → IsPlace g j → extent_key g j ≢ extent_key file index
      → block_slot v Live g n j ≡ Some t → t ≢ at
  pub apart_before : (number : ℕ) → number < epoch v → (g : ℕ) (n : Marks) (j : ℕ) (t : Slot) → IsPlace g j
      → block_slot v (Snap number) g n j ≡ Some t → t ≢ at
  pub has : HasBlocks z
  pub stale : live_marks v file ≡ Some m → MarksStale v → MarksStale z

module _ (file : ℕ) (m : Marks) (index : ℕ) (at : Slot) (block : List ℕ) (v z : Versions) (place : IsPlace file index)
    (c : Changes file m index at block v z) where
  live_same : (g : ℕ) (n : Marks) (j : ℕ) → IsPlace g j → extent_key g j ≢ extent_key file index
      → block_at z Live g n j ≡ block_at v Live g n j
  live_same g n j there other =
      block_same v z Live g n j (slot_same v z Live g n j c.stores (ap (seen Live) (c.keys (extent_key g j) other)))
      (λ t is. c.elsewhere t (c.apart g n j t there other is))

  before_same : (number : ℕ) → number < epoch v → (g : ℕ) (n : Marks) (j : ℕ) → IsPlace g j
      → block_at z (Snap number) g n j ≡ block_at v (Snap number) g n j
  before_same number late g n j there =
      block_same v z (Snap number) g n j (slot_same v z (Snap number) g n j c.stores (c.before number late (extent_key g j)))
      (λ t is. c.elsewhere t (c.apart_before number late g n j t there is))

  at_offset : (g o : ℕ) → g < 2 ^ 64 → o < 2 ^ 64 → IsPlace g (o / 8192)
  at_offset g o fits small = record { file_fits = fits; index_fits = omega arith }

  stays_now : (i : ℕ) (slot : Slot) → i < 2 ^ 64 → LiesNow file m i slot v
      → (extent_key file i ≡ extent_key file index) ⊎ (extent_key file i ≢ extent_key file index) → LiesNow file m i slot z
  stays_now i slot small lies (inl same) =
      let is : i ≡ index =
      (key-place file i file index (record { file_fits = place.file_fits; index_fits = small }) place same).1 in
      subst (λ (j : ℕ). LiesNow file m j slot z) (sym is)
      (c.in_place slot (subst (λ (j : ℕ). LiesNow file m j slot v) is lies))
  stays_now i slot small lies (inr other) = record {
    slot_is = slot_same v z Live file m i c.stores (ap (seen Live) (c.keys (extent_key file i) other)) ∙ lies.slot_is;
    now = ap born (c.keys (extent_key file i) other) ∙ lies.now ∙ ap Some (sym c.epoch_is);
  }

  pub sets : SetsBlock file m index block v z
  sets = record {
    live = block_of z Live file m index at block c.slot_is c.here;
    beside = λ j small other. live_same file m j (record { file_fits = place.file_fits; index_fits = small })
        (λ is. other (key-place file j file index (record { file_fits = place.file_fits; index_fits = small }) place is).1);
    keys = λ key beside. c.keys key (beside index place.index_fits);
    leaves = record {
      others = λ g n o fits small other. byte_same v z Live g n o (live_same g n (o / 8192) (at_offset g o fits small)
          (λ is. file-beside file g (o / 8192) place.file_fits (at_offset g o fits small) other index place.index_fits is));
      earlier = λ number late g n o fits small.
          byte_same v z (Snap number) g n o (before_same number late g n (o / 8192) (at_offset g o fits small));
      before = c.before;
      in_place = λ i slot small lies. stays_now i slot small lies (key_or (extent_key file i) (extent_key file index));
      stores = c.stores;
      epoch_is = c.epoch_is;
      has = c.has;
      stale = c.stale;
    };
  }

-- ---- over the old block

over_has : (at : Slot) (block : List ℕ) (v : Versions) → HasBlocks v → HasBlocks (with_block at (Some block) v)
unfolding with_block
over_has at block v has = record {
  lives = has-block at (Some block) v has.lives;
  blocks = record {
    some = has.blocks.some;
    named = λ f i l place among.
        let n = has.blocks.named f i l place among in
        record {
          extent = n.extent;
          said = n.said;
          there = block-some at block v (slot_of v.stores f i n.extent) n.there;
        };
    alone = λ f i g j l k x y a b. has.blocks.alone f i g j l k x y
        (record { place = a.place; life = a.life; said = a.said }) (record { place = b.place; life = b.life; said = b.said });
  };
}

over_stale : (file : ℕ) (m : Marks) (at : Slot) (block : List ℕ) (v : Versions) → MarksStale v
    → MarksStale (with_block at (Some block) v)
unfolding with_block
over_stale file m at block v stale = record { within = stale.within; marked = stale.marked }

pub over_changes : (file : ℕ) (m : Marks) (index : ℕ) (at : Slot) (block : List ℕ) (v : Versions) → IsPlace file index
    → LiesAt file m index (Some at) v → born (v.lives (extent_key file index)) ≡ Some (epoch v)
    → Changes file m index at block v (with_block at (Some block) v)
unfolding with_block epoch
over_changes file m index at block v place lies now = record {
  stores = refl;
  epoch_is = refl;
  keys = λ k other. refl;
  before = λ number late k. refl;
  here = block-here at (Some block) v;
  elsewhere = λ t other. block-there at t (Some block) v other;
  slot_is = slot_same v (with_block at (Some block) v) Live file m index refl refl ∙ lies.slot_is;
  in_place = λ slot lies. record {
    slot_is = slot_same v (with_block at (Some block) v) Live file m index refl refl ∙ lies.slot_is;
    now = lies.now;
  };
  apart = λ g n j t there other is same. other (alone Live g n j t there is same).0;
  apart_before = λ number late g n j t there is same.
      let b = shown_by v (Snap number) g n j t is in
      unseen-earlier number (epoch v) b.life late ((alone (Snap number) g n j t there is same).1 ∙ lived.born_at) b.seen_by;
  has = over_has at block v lies.has;
  stale = λ marks stale. over_stale file m at block v stale;
}
  where
    own : ShownBy v Live file index at
    own = shown_by v Live file m index at lies.slot_is

    lived : Lived (epoch v) own.life.value (v.lives (extent_key file index))
    lived = born-among (epoch v) own.life.value (v.lives (extent_key file index)) own.value now

    alone : (view : At) (g : ℕ) (n : Marks) (j : ℕ) (t : Slot) → IsPlace g j → (is : block_slot v view g n j ≡ Some t) → t ≡ at
        → (extent_key g j ≡ extent_key file index) × ((shown_by v view g n j t is).life.birth ≡ lived.life.birth)
    alone view g n j t there is same =
        let b = shown_by v view g n j t is in
        let r = lies.has.blocks.alone g j file index b.life lived.life b.extent own.extent
        (record { place = there; life = b.among; said = b.said })
        (record { place = place; life = lived.among; said = ap extent_in lived.is ∙ own.said })
        (b.is ∙ same ∙ sym own.is) in
        (ap (λ (f : ℕ). extent_key f j) r.0 ∙ ap (λ (i : ℕ). extent_key file i) r.1, r.2)

-- ---- in a new place

abbrev with_both : Slot → List ℕ → Versions → Versions
with_both at block v = with_block at (Some block) (with_block at (Some []) v)

abbrev new_extent : Slot → Marks → Extent
new_extent at m = record { number = at.number; stamp = m.stamp }

abbrev with_new : ℕ → Marks → ℕ → List ℕ → Slot → Versions → Versions
with_new file m index block at v = with_put (extent_key file index) (extent_value (new_extent at m)) (with_both at block v)

both_lives : (at : Slot) (block : List ℕ) (v : Versions) → (with_both at block v).lives ≡ v.lives
unfolding with_block
both_lives at block v = refl

both_stores : (at : Slot) (block : List ℕ) (v : Versions) → (with_both at block v).stores ≡ v.stores
unfolding with_block
both_stores at block v = refl

both_epoch : (at : Slot) (block : List ℕ) (v : Versions) → epoch (with_both at block v) ≡ epoch v
unfolding with_block epoch
both_epoch at block v = refl

both_there : (at : Slot) (block : List ℕ) (v : Versions) (t : Slot) → t ≢ at → (with_both at block v).blocks t ≡ v.blocks t
both_there at block v t other =
    block-there at t (Some block) (with_block at (Some []) v) other ∙ block-there at t (Some []) v other

both_some : (at : Slot) (block : List ℕ) (v : Versions) (t : Slot) → v.blocks t ≢ None → (with_both at block v).blocks t ≢ None
both_some at block v t some = block-some at block (with_block at (Some []) v) t (block-some at [] v t some)

no_none : (o : Option (List ℕ)) (b : List ℕ) → o ≡ Some b → o ≢ None
no_none o b is = λ none. absurd (cc)

module _ (file : ℕ) (m : Marks) (index : ℕ) (block : List ℕ) (at : Slot) (v : Versions) (place : IsPlace file index)
    (stamp : m.stamp < 2 ^ 64) (numbered : at.number < 2 ^ 64) (fresh : IsFresh file index at v) (has : HasBlocks v)
    (older : (slot : Slot) → LiesNow file m index slot v → ⊥) where
  abbrev key : List ℕ
  key = extent_key file index

  abbrev value : List ℕ
  value = extent_value (new_extent at m)

  abbrev y : Versions
  y = with_both at block v

  abbrev z : Versions
  z = with_new file m index block at v

  lives_y : HasLives y
  lives_y = has-block at (Some block) (with_block at (Some []) v) (has-block at (Some []) v has.lives)

  can : CanPut key value y
  can = record { lives = lives_y; rises = λ is. absurd (key-not_epoch file index is) }

  epoch_z : epoch z ≡ epoch v
  epoch_z = epoch-put key value y (key-not_epoch file index) ∙ both_epoch at block v

  stores_z : z.stores ≡ v.stores
  stores_z = put-stores key value y ∙ both_stores at block v

  blocks_z : z.blocks ≡ y.blocks
  blocks_z = put-blocks key value y

  lives_there : (k : List ℕ) → k ≢ key → z.lives k ≡ v.lives k
  lives_there k other = put-there key value k y other ∙ ap (λ (ls : List ℕ → List Life). ls k) (both_lives at block v)

  here_z : z.blocks at ≡ Some block
  here_z = ap (λ (b : Slot → Option (List ℕ)). b at) blocks_z ∙ block-here at (Some block) (with_block at (Some []) v)

  some_z : (t : Slot) → v.blocks t ≢ None → z.blocks t ≢ None
  some_z t some = subst (λ (b : Slot → Option (List ℕ)). b t ≢ None) (sym blocks_z) (both_some at block v t some)

  slot_new : slot_of v.stores file index (new_extent at m) ≡ at
  slot_new = ap (λ (s : ℕ). let made : Slot = record { store = s; number = at.number } in made) (sym fresh.store)

  seen_new : value_at Live z key ≡ Some value
  seen_new = live-put key value y can

  said_new : extent_in value ≡ Some (new_extent at m)
  said_new = value-in (new_extent at m) numbered stamp

  own_counts : (i : ℕ) → counts m i (new_extent at m) ≡ true
  own_counts i = grind (arith, common_steps)

  slot_z : block_slot z Live file m index ≡ Some at
  unfolding block_slot
  slot_z =
      ap (λ (o : Option (List ℕ)). option_map (slot_of z.stores file index) (counted m index (option_and_then extent_in o)))
      seen_new
      ∙ ap (λ (x : Option Extent). option_map (slot_of z.stores file index) (counted m index x)) said_new
      ∙ ap (λ (t : Bool). option_map (slot_of z.stores file index) (if t then Some (new_extent at m) else None))
      (own_counts index)
      ∙ ap (λ (s : ℕ). Some (slot_of s file index (new_extent at m))) stores_z
      ∙ ap Some slot_new

  -- a life behind the new extent is the one that was put, or one that was there
  new_origin : (k : List ℕ) (l : Life) → Contains (z.lives k) l → IsPut key value v k l ⊎ Lived l.birth l.value (v.lives k)
  new_origin k l among = by_origin (origin key value y k l among)
    where
      by_origin : IsPut key value y k l ⊎ Lived l.birth l.value (y.lives k)
          → IsPut key value v k l ⊎ Lived l.birth l.value (v.lives k)
      by_origin (inl p) = inl (record {
        key_is = p.key_is;
        value_is = p.value_is;
        birth_is = p.birth_is ∙ both_epoch at block v;
      })
      by_origin (inr q) = inr (subst (λ (ls : List ℕ → List Life). Lived l.birth l.value (ls k)) (both_lives at block v) q)

  -- the slot that it names, and the slots that others name
  put_slot : (f i : ℕ) (l : Life) (x : Extent) → IsPlace f i → IsPut key value v (extent_key f i) l → extent_in l.value ≡ Some x
      → slot_of v.stores f i x ≡ at
  put_slot f i l x there p said =
      let e = key-place f i file index there place p.key_is in
      let d : x ≡ new_extent at m =
      same_some x (new_extent at m) (extent_in l.value) said (ap extent_in p.value_is ∙ said_new) in
      ap (λ (g : ℕ). slot_of v.stores g i x) e.0
      ∙ ap (λ (j : ℕ). slot_of v.stores file j x) e.1
      ∙ ap (slot_of v.stores file index) d
      ∙ slot_new

  was_slot : (f i : ℕ) (l : Life) (x : Extent) → IsPlace f i → Lived l.birth l.value (v.lives (extent_key f i))
      → extent_in l.value ≡ Some x → slot_of v.stores f i x ≡ at → ⊥
  was_slot f i l x there q said is =
      let d = has.blocks.named f i q.life there q.among in
      let same : d.extent ≡ x = same_some d.extent x (extent_in l.value) (ap extent_in (sym q.is) ∙ d.said) said in
      d.there (ap (λ (e : Extent). v.blocks (slot_of v.stores f i e)) same ∙ ap v.blocks is ∙ fresh.absent)

  named_z : (f i : ℕ) (l : Life) → IsPlace f i → Contains (z.lives (extent_key f i)) l → NamesBlock z f i l
  named_z f i l there among = by_origin (new_origin (extent_key f i) l among)
    where
      by_origin : IsPut key value v (extent_key f i) l ⊎ Lived l.birth l.value (v.lives (extent_key f i)) → NamesBlock z f i l
      by_origin (inl p) =
          let said : extent_in l.value ≡ Some (new_extent at m) = ap extent_in p.value_is ∙ said_new in
          let is : slot_of z.stores f i (new_extent at m) ≡ at =
          ap (λ (s : ℕ). slot_of s f i (new_extent at m)) stores_z ∙ put_slot f i l (new_extent at m) there p said in
          record {
            extent = new_extent at m;
            said = said;
            there = subst (λ (t : Slot). z.blocks t ≢ None) (sym is) (no_none (z.blocks at) block here_z);
          }
      by_origin (inr q) =
          let n = has.blocks.named f i q.life there q.among in
          record {
            extent = n.extent;
            said = ap extent_in (sym q.is) ∙ n.said;
            there = subst (λ (s : ℕ). z.blocks (slot_of s f i n.extent) ≢ None) (sym stores_z)
                (some_z (slot_of v.stores f i n.extent) n.there);
          }

  alone_z : (f i g j : ℕ) (l k : Life) (x w : Extent) → IsExtent z f i l x → IsExtent z g j k w
      → slot_of z.stores f i x ≡ slot_of z.stores g j w → (f ≡ g) × (i ≡ j) × (l.birth ≡ k.birth)
  alone_z f i g j l k x w a b same =
      by_origins (new_origin (extent_key f i) l a.life) (new_origin (extent_key g j) k b.life)
    where
      one : slot_of v.stores f i x ≡ slot_of v.stores g j w
      one = ap (λ (s : ℕ). slot_of s f i x) (sym stores_z) ∙ same ∙ ap (λ (s : ℕ). slot_of s g j w) stores_z

      by_origins : IsPut key value v (extent_key f i) l ⊎ Lived l.birth l.value (v.lives (extent_key f i))
          → IsPut key value v (extent_key g j) k ⊎ Lived k.birth k.value (v.lives (extent_key g j))
          → (f ≡ g) × (i ≡ j) × (l.birth ≡ k.birth)
      by_origins (inl p) (inl q) =
          let c = key-place f i file index a.place place p.key_is in
          let d = key-place g j file index b.place place q.key_is in
          (c.0 ∙ sym d.0, c.1 ∙ sym d.1, p.birth_is ∙ sym q.birth_is)
      by_origins (inl p) (inr q) = absurd (was_slot g j k w b.place q b.said (sym one ∙ put_slot f i l x a.place p a.said))
      by_origins (inr p) (inl q) = absurd (was_slot f i l x a.place p a.said (one ∙ put_slot g j k w b.place q b.said))
      by_origins (inr p) (inr q) =
          let r = has.blocks.alone f i g j p.life q.life x w
          (record { place = a.place; life = p.among; said = ap extent_in p.is ∙ a.said })
          (record { place = b.place; life = q.among; said = ap extent_in q.is ∙ b.said }) one in
          (r.0, r.1, sym p.born_at ∙ r.2 ∙ q.born_at)

  has_z : HasBlocks z
  has_z = record {
    lives = has-put key value y can;
    blocks = record {
      some = subst (λ (s : ℕ). 1 ≤ s) (sym stores_z) has.blocks.some;
      named = named_z;
      alone = alone_z;
    };
  }

  -- no extent is left unmarked that does not count
  marks_z : (f : ℕ) → live_marks z f ≡ live_marks v f
  marks_z f = marks_kept f v z (lives_there (key_of (InodeKey f)) (inode-beside file f index place.index_fits))

  row_z : (f : ℕ) → row z Live (StaleKey f) ≡ row v Live (StaleKey f)
  row_z f = ap (seen Live) (lives_there (key_of (StaleKey f)) (stale-beside file f index place.index_fits))

  new_is : (f i : ℕ) (x : Extent) → extent_key f i ≡ key → extent_at z Live f i ≡ Some x → x ≡ new_extent at m
  new_is f i x same is = same_some x (new_extent at m) (extent_at z Live f i) is
      (ap (λ (k : List ℕ). option_and_then extent_in (value_at Live z k)) same ∙ ap (option_and_then extent_in) seen_new ∙
      said_new)

  old_is : (f i : ℕ) → extent_key f i ≢ key → extent_at z Live f i ≡ extent_at v Live f i
  old_is f i other =
      ap (λ (ls : List Life). option_and_then extent_in (seen Live ls)) (lives_there (extent_key f i) other)

  file_is : (f i : ℕ) → live_marks v file ≡ Some m → IsPlace f i → extent_key f i ≡ key → live_marks z f ≡ Some m
  file_is f i marks there same = ap (live_marks z) (key-place f i file index there place same).0 ∙ marks_z file ∙ marks

  stale_z : live_marks v file ≡ Some m → MarksStale v → MarksStale z
  stale_z marks stale = record {
    within = λ f i x there is. within f i x there is (key_or (extent_key f i) key);
    marked = λ f i x there is not. marked f i x there is not (key_or (extent_key f i) key);
  }
    where
      within : (f i : ℕ) (x : Extent) → IsPlace f i → extent_at z Live f i ≡ Some x
          → (extent_key f i ≡ key) ⊎ (extent_key f i ≢ key) → IfSome (live_marks z f) (λ n. x.stamp ≤ n.stamp)
      within f i x there is (inl same) =
          let e : x.stamp ≡ m.stamp = ap (λ (x : Extent). x.stamp) (new_is f i x same is) in
          subst (λ (o : Option Marks). IfSome o (λ n. x.stamp ≤ n.stamp)) (sym (file_is f i marks there same)) (omega (arith, e))
      within f i x there is (inr other) = subst (λ (o : Option Marks). IfSome o (λ n. x.stamp ≤ n.stamp)) (sym (marks_z f))
          (stale.within f i x there (sym (old_is f i other) ∙ is))

      marked : (f i : ℕ) (x : Extent) → IsPlace f i → extent_at z Live f i ≡ Some x → counts_by (live_marks z f) i x ≡ false
          → (extent_key f i ≡ key) ⊎ (extent_key f i ≢ key) → row z Live (StaleKey f) ≢ None
      marked f i x there is not (inl same) =
          let t : counts_by (live_marks z f) i x ≡ true =
          ap (λ (o : Option Marks). counts_by o i x) (file_is f i marks there same)
          ∙ ap (counts m i) (new_is f i x same is) ∙ own_counts i in
          absurd (cc)
      marked f i x there is not (inr other) = subst (λ (o : Option (List ℕ)). o ≢ None) (sym (row_z f))
          (stale.marked f i x there (sym (old_is f i other) ∙ is)
          (ap (λ (o : Option Marks). counts_by o i x) (sym (marks_z f)) ∙ not))

  shown_apart : (view : At) (g : ℕ) (n : Marks) (j : ℕ) (t : Slot) → IsPlace g j → block_slot v view g n j ≡ Some t → t ≢ at
  shown_apart view g n j t there is = λ same.
      block_there v view g n j t has.blocks there is (ap v.blocks same ∙ fresh.absent)

  pub new_changes : Changes file m index at block v z
  new_changes = record {
    stores = stores_z;
    epoch_is = epoch_z;
    keys = lives_there;
    before = λ number late k.
        earlier-put key value k y number can (subst (λ (e : ℕ). number < e) (sym (both_epoch at block v)) late)
        ∙ ap (λ (ls : List ℕ → List Life). seen (Snap number) (ls k)) (both_lives at block v);
    here = here_z;
    elsewhere = λ t other. ap (λ (b : Slot → Option (List ℕ)). b t) blocks_z ∙ both_there at block v t other;
    slot_is = slot_z;
    in_place = λ slot lies. absurd (older slot lies);
    apart = λ g n j t there other is. shown_apart Live g n j t there is;
    apart_before = λ number late g n j t there is. shown_apart (Snap number) g n j t there is;
    has = has_z;
    stale = stale_z;
  }

-- ---- either

pub over_sets : (file : ℕ) (m : Marks) (index : ℕ) (at : Slot) (block : List ℕ) (v z : Versions) → IsPlace file index
    → LiesAt file m index (Some at) v → born (v.lives (extent_key file index)) ≡ Some (epoch v)
    → z ≡ with_block at (Some block) v → SetsBlock file m index block v z
over_sets file m index at block v z place lies now is =
    subst (λ (z : Versions). SetsBlock file m index block v z) (sym is)
    (sets file m index at block v (with_block at (Some block) v) place (over_changes file m index at block v place lies now))

pub new_sets : (file : ℕ) (m : Marks) (index : ℕ) (block : List ℕ) (v z : Versions) → IsPlace file index → HasBlocks v
    → ((slot : Slot) → LiesNow file m index slot v → ⊥) → PlacesNew file m index block v z → SetsBlock file m index block v z
new_sets file m index block v z place has older p =
    subst (λ (z : Versions). SetsBlock file m index block v z) (sym p.is)
    (sets file m index p.at block v (with_new file m index block p.at v) place
    (new_changes file m index block p.at v place p.stamped p.numbered p.fresh has older))
