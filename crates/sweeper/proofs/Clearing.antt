-- An extent that does not count ends, and a file whose extents all count loses its mark: each tree is shown on.
use Rattle.std.proofs.Common.{◌≡◌, ◌≢◌, ◌⊎◌, inl, inr, ℕ, ◌/◌, ◌%◌, ◌^◌, ◌<◌, ◌≤◌, ◌==◌, Bool, true, false}
use Rattle.std.proofs.Common.{List, [], Option, Some, None, refl, sym, ◌∙◌, ap, subst, arith}
use Rattle.std.proofs.lemmas.Bool.{eqb-true, eqb-false}
use Rattle.std.specs.List.{Contains}
use Rattle.std.specs.Prelude.{IfSome, option_map, option_and_then, unwrap_or, slice_index_or}
use Rattle.pair_types.specs.declared.slot.Slot.{Slot}
use Rattle.pairs.specs.declared.at.At.TheVariants.{Live, Snap}
use Rattle.pairs.specs.Lives.{Life, del_life}
use Rattle.pairs.specs.Versions.{Versions, epoch, with_del}
use Rattle.pairs.proofs.VersionsLaws.{lives-here}
use Rattle.fs_rules.specs.Tree.{Tree}
use Rattle.fs_keys.specs.declared.key_parts.KeyParts.TheVariants.{First, Inode, Extent, Stale}
use Rattle.fs_keys.specs.declared.rows.Extent.{Extent as ExtentRow}
use Rattle.fs_keys.specs.Keys.{Parts, key_of}
use Rattle.fs_keys.specs.Values.{extent_in}
use Rattle.fs_shows.specs.Extents.{Marks, counts, counted, slot_of, IsPlace, row, block_size, extent_at, block_slot, byte_at}
use Rattle.fs_shows.specs.Shows.{IsExtent, KeepsBlocks, Shows, live_marks, counts_by}
use Rattle.fs_shows.proofs.Apart.{Differ}
use Rattle.fs_shows.proofs.Rewriting.{Rewrites, rewrites-none, rewrites-del, row-apart, row-del, byte-same, byte-none}
use Rattle.fs_shows.proofs.Rewriting.{blocks-kept, lives-del-other}
use Rattle.extent_ops.proofs.Among.{Lived}
use Rattle.extent_ops.proofs.Changing.{key_or, marks_kept}
use Rattle.extent_ops.proofs.Keys.{key-place}
use Rattle.sweeper.specs.Ending.{IsStale}
use Rattle.sweeper.specs.Knowing.{AllCount}
use Rattle.sweeper.proofs.Carrying.{IsPlain, Carries, shows-carried}
use Rattle.sweeper.proofs.Remaining.{lived-same, among-del, none-del}

-- ---- where lives have their origin

-- extents name blocks of their own on, where each of their lives was there by its birth and value, and its block stays
pub blocks-from : (v z : Versions) → z.stores ≡ v.stores
    → ((k : List ℕ) (l : Life) → Contains (z.lives k) l → Lived l.birth l.value (v.lives k))
    → ((f i : ℕ) (l : Life) (x : ExtentRow) → IsExtent z f i l x → v.blocks (slot_of v.stores f i x) ≢ None
    → z.blocks (slot_of v.stores f i x) ≢ None)
    → KeepsBlocks v → KeepsBlocks z
blocks-from v z stores from there keeps = record {
  some = rw stores keeps.some;
  named = λ f i l place among.
      let o = from (key_of (Extent f i)) l among in
      let n = keeps.named f i o.life place o.among in
      let said : extent_in l.value ≡ Some n.extent = ap extent_in (sym o.is) ∙ n.said in
      record {
        extent = n.extent;
        said = said;
        there = subst (λ (s : ℕ). z.blocks (slot_of s f i n.extent) ≢ None) (sym stores)
            (there f i l n.extent (record { place = place; life = among; said = said }) n.there);
      };
  alone = λ f i g j l k x y first second same.
      let o = from (key_of (Extent f i)) l first.life in
      let p = from (key_of (Extent g j)) k second.life in
      let r = keeps.alone f i g j o.life p.life x y
      (record { place = first.place; life = o.among; said = ap extent_in o.is ∙ first.said })
      (record { place = second.place; life = p.among; said = ap extent_in p.is ∙ second.said })
      (subst (λ (s : ℕ). slot_of s f i x ≡ slot_of s g j y) stores same) in
      (r.0, r.1, sym o.born_at ∙ r.2 ∙ p.born_at);
}

-- ---- a live extent that does not count

-- it shows no byte
uncounted : (v : Versions) (file index : ℕ) (m : Marks) (o : ℕ) (x : ExtentRow) → o / block_size ≡ index
    → extent_at v Live file index ≡ Some x → counts m index x ≡ false → byte_at v Live file m o ≡ 0
unfolding byte_at block_slot
uncounted v file index m o x at is out =
    ap (λ (s : Option Slot). slice_index_or (unwrap_or (option_and_then v.blocks s) []) (o % block_size) 0) none
  where
    none : option_map (slot_of v.stores file (o / block_size)) (counted m (o / block_size) (extent_at v Live file (o / block_size)))
        ≡ None
    none = rw at (rw is (rw out refl))

module _ (v : Versions) (t : Tree) (file index : ℕ) (value : List ℕ) (place : IsPlace file index) (shows : Shows v t)
    (is : row v Live (Extent file index) ≡ Some value) (stale : IsStale (live_marks v file) index value) where
  abbrev key : List ℕ
  key = key_of (Extent file index)

  abbrev z : Versions
  z = with_del (key_of (Extent file index)) v

  abbrev Apart : Parts → Type 0
  Apart p = p ≢ Extent file index

  not-first : Differ First (Extent file index)
  not-first e = cc

  r : Rewrites v z Apart
  r = rewrites-del Apart (Extent file index) v v (place.file_fits, place.index_fits) not-first (λ q apart. apart)
      (rewrites-none v Apart shows.lives)

  plain-apart : (p : Parts) → IsPlain p → p ≢ Extent file index
  plain-apart p plain e = subst IsPlain e plain

  at-extent : extent_at v Live file index ≡ Some stale.extent
  at-extent = ap (option_and_then extent_in) is ∙ stale.said

  pub gone : row z Live (Extent file index) ≡ None
  gone = row-del (Extent file index) v shows.lives

  pub marks-same : (f : ℕ) → f < 2 ^ 64 → live_marks z f ≡ live_marks v f
  marks-same f fits = marks_kept f v z (r.apart (Inode f) fits (λ e. cc))

  pub stale-same : (f : ℕ) → f < 2 ^ 64 → row z Live (Stale f) ≡ row v Live (Stale f)
  stale-same f fits = row-apart v z Apart (Stale f) Live r fits (λ e. cc)

  -- the key is this extent's, or the row stays
  extent-or : (f i : ℕ) → IsPlace f i → ((f ≡ file) × (i ≡ index)) ⊎ (row z Live (Extent f i) ≡ row v Live (Extent f i))
  extent-or f i there = by_key (key_or (key_of (Extent f i)) (key_of (Extent file index)))
    where
      by_key : (key_of (Extent f i) ≡ key_of (Extent file index)) ⊎ (key_of (Extent f i) ≢ key_of (Extent file index))
          → ((f ≡ file) × (i ≡ index)) ⊎ (row z Live (Extent f i) ≡ row v Live (Extent f i))
      by_key (inl same) = inl (key-place f i file index there place same)
      by_key (inr other) = inr (row-apart v z Apart (Extent f i) Live r (there.file_fits, there.index_fits)
          (λ e. other (ap key_of e)))

  bytes-stay : (id : ℕ) (m : Marks) (o : ℕ) → id < 2 ^ 64 → o < 2 ^ 64 → live_marks v id ≡ Some m
      → byte_at z Live id m o ≡ byte_at v Live id m o
  bytes-stay id m o fits low at =
      by_place (extent-or id (o / block_size) (record { file_fits = fits; index_fits = omega arith }))
    where
      out : id ≡ file → counts m index stale.extent ≡ false
      out same = subst (λ (o : Option Marks). counts_by o index stale.extent ≡ false)
          (subst (λ (f : ℕ). live_marks v f ≡ Some m) same at) stale.out

      here : id ≡ file → o / block_size ≡ index → byte_at z Live file m o ≡ byte_at v Live file m o
      here same at = byte-none z Live file m o (subst (λ (i : ℕ). row z Live (Extent file i) ≡ None) (sym at) gone)
          ∙ sym (uncounted v file index m o stale.extent at at-extent (out same))

      by_place : ((id ≡ file) × (o / block_size ≡ index))
          ⊎ (row z Live (Extent id (o / block_size)) ≡ row v Live (Extent id (o / block_size)))
          → byte_at z Live id m o ≡ byte_at v Live id m o
      by_place (inl h) = subst (λ (f : ℕ). byte_at z Live f m o ≡ byte_at v Live f m o) (sym h.0) (here h.0 h.1)
      by_place (inr same) = byte-same v z Live id m o r.stores_are r.blocks_are same

  pub extents-stay : (f i : ℕ) (x : ExtentRow) → IsPlace f i → extent_at z Live f i ≡ Some x → extent_at v Live f i ≡ Some x
  extents-stay f i x there at = by_place (extent-or f i there)
    where
      none : (o : Option (List ℕ)) → o ≡ None → option_and_then extent_in o ≡ Some x → extent_at v Live f i ≡ Some x
      none None e h = absurd (cc)
      none (Some y) e h = absurd (cc)

      by_place : ((f ≡ file) × (i ≡ index)) ⊎ (row z Live (Extent f i) ≡ row v Live (Extent f i))
          → extent_at v Live f i ≡ Some x
      by_place (inl h) =
          none (row z Live (Extent f i))
          (subst (λ (g : ℕ). row z Live (Extent g i) ≡ None) (sym h.0)
          (subst (λ (j : ℕ). row z Live (Extent file j) ≡ None) (sym h.1) gone)) at
      by_place (inr same) = ap (option_and_then extent_in) (sym same) ∙ at

  del-here : z.lives key ≡ del_life (epoch v) (v.lives key)
  unfolding with_del
  del-here = lives-here (key_of (Extent file index)) (del_life (epoch v) (v.lives (key_of (Extent file index)))) v.lives

  lived : (k : List ℕ) (l : Life) → Contains (z.lives k) l → Lived l.birth l.value (v.lives k)
  lived k l among = by_key (key_or k (key_of (Extent file index)))
    where
      by_key : (k ≡ key_of (Extent file index)) ⊎ (k ≢ key_of (Extent file index)) → Lived l.birth l.value (v.lives k)
      by_key (inl same) = subst (λ (j : List ℕ). Lived l.birth l.value (v.lives j)) (sym same)
          (among-del (epoch v) l (v.lives key) (subst (λ (ls : List Life). Contains ls l) del-here
          (subst (λ (j : List ℕ). Contains (z.lives j) l) same among)))
      by_key (inr other) = lived-same l (v.lives k)
          (subst (λ (ls : List Life). Contains ls l) (lives-del-other (key_of (Extent file index)) k v other) among)

  fewer : (k : List ℕ) → z.lives k ≢ [] → v.lives k ≢ []
  fewer k some = by_key (key_or k (key_of (Extent file index)))
    where
      by_key : (k ≡ key_of (Extent file index)) ⊎ (k ≢ key_of (Extent file index)) → v.lives k ≢ []
      by_key (inl same) = λ none. some (subst (λ (j : List ℕ). z.lives j ≡ []) (sym same)
          (del-here ∙ none-del (epoch v) (v.lives key) (subst (λ (j : List ℕ). v.lives j ≡ []) same none)))
      by_key (inr other) = λ none. some (lives-del-other (key_of (Extent file index)) k v other ∙ none)

  carried : Carries v z t
  carried = record {
    lives = r.lives;
    epoch_is = r.epoch_is;
    live = λ p fits plain. row-apart v z Apart p Live r fits (plain-apart p plain);
    bytes = bytes-stay;
    kept = λ k d less.
        let s = slice_index_or t.snapshots k d in
        let late : s.number < epoch v = rw shows.epoch_is (shows.earlier k d less) in
        record {
          rows = λ p fits. r.earlier s.number (key_of p) late;
          bytes = λ id m o fits low. byte-same v z (Snap s.number) id m o r.stores_are r.blocks_are
              (r.earlier s.number (key_of (Extent id (o / block_size))) late);
        };
    blocks = blocks-from v z r.stores_are lived
        (λ f i l x ext some. subst (λ (b : Slot → Option (List ℕ)). b (slot_of v.stores f i x) ≢ None) (sym r.blocks_are) some)
        shows.blocks;
    stale = record {
      within = λ f i x there at.
          subst (λ (o : Option Marks). IfSome o (λ m. x.stamp ≤ m.stamp)) (sym (marks-same f there.file_fits))
          (shows.stale.within f i x there (extents-stay f i x there at));
      marked = λ f i x there at out.
          subst (λ (o : Option (List ℕ)). o ≢ None)
          (sym (row-apart v z Apart (Stale f) Live r there.file_fits (λ e. cc)))
          (shows.stale.marked f i x there (extents-stay f i x there at)
          (subst (λ (o : Option Marks). counts_by o i x ≡ false) (marks-same f there.file_fits) out));
    };
    fewer = fewer;
  }

  pub extent-ended : Shows z t
  extent-ended = shows-carried v z t carried shows

-- ---- a mark of a file whose extents all count

module _ (v : Versions) (t : Tree) (file : ℕ) (fits : file < 2 ^ 64) (shows : Shows v t) (count : AllCount file v) where
  abbrev y : Versions
  y = with_del (key_of (Stale file)) v

  abbrev Beside : Parts → Type 0
  Beside p = p ≢ Stale file

  first-beside : Differ First (Stale file)
  first-beside e = cc

  q : Rewrites v y Beside
  q = rewrites-del Beside (Stale file) v v fits first-beside (λ p apart. apart) (rewrites-none v Beside shows.lives)

  plain-beside : (p : Parts) → IsPlain p → p ≢ Stale file
  plain-beside p plain e = subst IsPlain e plain

  extent-beside : (f i : ℕ) → Beside (Extent f i)
  extent-beside f i e = cc

  marks-kept : (f : ℕ) → f < 2 ^ 64 → live_marks y f ≡ live_marks v f
  marks-kept f low = marks_kept f v y (q.apart (Inode f) low (λ e. cc))

  extent-kept : (f i : ℕ) → IsPlace f i → row y Live (Extent f i) ≡ row v Live (Extent f i)
  extent-kept f i there = row-apart v y Beside (Extent f i) Live q (there.file_fits, there.index_fits) (extent-beside f i)

  pub mark-kept : (f : ℕ) → f < 2 ^ 64 → f ≢ file → row y Live (Stale f) ≡ row v Live (Stale f)
  mark-kept f low other = row-apart v y Beside (Stale f) Live q low (λ e. other (cc))

  pub unmarked-here : row y Live (Stale file) ≡ None
  unmarked-here = row-del (Stale file) v shows.lives

  still-marked : (f i : ℕ) (x : ExtentRow) → IsPlace f i → extent_at v Live f i ≡ Some x
      → counts_by (live_marks v f) i x ≡ false → row y Live (Stale f) ≢ None
  still-marked f i x there at out = by_file (f == file) refl
    where
      differs : (b : Bool) → b ≡ true → b ≡ false → ⊥
      differs b e h = cc

      by_file : (u : Bool) → (f == file) ≡ u → row y Live (Stale f) ≢ None
      by_file true same =
          let is : f ≡ file = eqb-true f file same in
          absurd (differs (counts_by (live_marks v file) i x)
          (count i x (subst (λ (g : ℕ). IsPlace g i) is there) (subst (λ (g : ℕ). extent_at v Live g i ≡ Some x) is at))
          (subst (λ (g : ℕ). counts_by (live_marks v g) i x ≡ false) is out))
      by_file false other =
          subst (λ (o : Option (List ℕ)). o ≢ None) (sym (mark-kept f there.file_fits (eqb-false f file other)))
          (shows.stale.marked f i x there at out)

  mark-here : y.lives (key_of (Stale file)) ≡ del_life (epoch v) (v.lives (key_of (Stale file)))
  unfolding with_del
  mark-here = lives-here (key_of (Stale file)) (del_life (epoch v) (v.lives (key_of (Stale file)))) v.lives

  fewer-left : (k : List ℕ) → y.lives k ≢ [] → v.lives k ≢ []
  fewer-left k some = by_key (key_or k (key_of (Stale file)))
    where
      by_key : (k ≡ key_of (Stale file)) ⊎ (k ≢ key_of (Stale file)) → v.lives k ≢ []
      by_key (inl same) = λ none. some (subst (λ (j : List ℕ). y.lives j ≡ []) (sym same)
          (mark-here ∙ none-del (epoch v) (v.lives (key_of (Stale file))) (subst (λ (j : List ℕ). v.lives j ≡ []) same none)))
      by_key (inr other) = λ none. some (lives-del-other (key_of (Stale file)) k v other ∙ none)

  pub mark-ended : Shows y t
  mark-ended = shows-carried v y t (record {
    lives = q.lives;
    epoch_is = q.epoch_is;
    live = λ p low plain. row-apart v y Beside p Live q low (plain-beside p plain);
    bytes = λ id m o low low' at. byte-same v y Live id m o q.stores_are q.blocks_are
        (extent-kept id (o / block_size) (record { file_fits = low; index_fits = omega arith }));
    kept = λ k d less.
        let s = slice_index_or t.snapshots k d in
        let late : s.number < epoch v = rw shows.epoch_is (shows.earlier k d less) in
        record {
          rows = λ p low. q.earlier s.number (key_of p) late;
          bytes = λ id m o low low'. byte-same v y (Snap s.number) id m o q.stores_are q.blocks_are
              (q.earlier s.number (key_of (Extent id (o / block_size))) late);
        };
    blocks = blocks-kept v y Beside extent-beside q shows.blocks;
    stale = record {
      within = λ f i x there at.
          subst (λ (o : Option Marks). IfSome o (λ m. x.stamp ≤ m.stamp)) (sym (marks-kept f there.file_fits))
          (shows.stale.within f i x there (ap (option_and_then extent_in) (sym (extent-kept f i there)) ∙ at));
      marked = λ f i x there at out.
          still-marked f i x there (ap (option_and_then extent_in) (sym (extent-kept f i there)) ∙ at)
          (subst (λ (o : Option Marks). counts_by o i x ≡ false) (marks-kept f there.file_fits) out);
    };
    fewer = fewer-left;
  }) shows
