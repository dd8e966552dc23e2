-- A dead record is purged that no kept snapshot sees, and its block is dropped: each tree is shown on.
use Rattle.std.proofs.Common.{◌≡◌, ◌≢◌, ◌⊎◌, inl, inr, ℕ, ◌/◌, ◌^◌, ◌<◌, ◌≤◌, Bool, true, false, List, [], Option, Some, None}
use Rattle.std.proofs.Common.{refl, sym, ◌∙◌, ap, subst, arith}
use Rattle.std.specs.List.{Contains}
use Rattle.std.specs.Prelude.{IfSome, option_map, option_and_then, slice_index_or}
use Rattle.xdr_grammar.specs.Laws.{AreBytes}
use Rattle.pair_types.specs.declared.slot.Slot.{Slot}
use Rattle.pairs.specs.declared.at.At.{At}
use Rattle.pairs.specs.declared.at.At.TheVariants.{Live, Snap}
use Rattle.pairs.specs.Lives.{Life, sees, is_spent, spent, purge_life}
use Rattle.pairs.specs.Versions.{Versions, HasLives, epoch, epoch_in, epoch_key, value_at, with_purge, with_block}
use Rattle.pairs.specs.Versions.{IsBlock}
use Rattle.pairs.proofs.LivesLaws.{unseen-spent, dead-spent}
use Rattle.pairs.proofs.VersionsLaws.{lives-here, lives-there, other-is, live-purge, kept-purge, has-purge, block-there}
use Rattle.fs_rules.specs.Tree.{Tree}
use Rattle.fs_keys.specs.declared.key_parts.KeyParts.TheVariants.{First, Lane, Snapshot, Inode, Name, Cookie, Extent, Stale}
use Rattle.fs_keys.specs.declared.key_parts.KeyParts.TheVariants.{Times}
use Rattle.fs_keys.specs.declared.inode.Inode.{Inode as InodeRow}
use Rattle.fs_keys.specs.declared.rows.Extent.{Extent as ExtentRow}
use Rattle.fs_keys.specs.Inodes.{inode_of}
use Rattle.fs_keys.specs.Keys.{Parts, key_of, parts_of}
use Rattle.fs_keys.specs.Values.{extent_in}
use Rattle.fs_keys.proofs.KeyLaws.{said-found, said-bounds}
use Rattle.fs_shows.specs.Extents.{Marks, slot_of, IsPlace, row, block_size, extent_at, block_slot, byte_at}
use Rattle.fs_shows.specs.Nodes.{marks_of}
use Rattle.fs_shows.specs.Shows.{IsExtent, Shows, live_marks, counts_by}
use Rattle.extent_ops.proofs.Changing.{key_or, has-block, block-epoch}
use Rattle.extent_ops.proofs.Showing.{shown_by, slot_same, block_same, byte_same}
use Rattle.sweeper.specs.Dropping.{slot_in, slot_named, without, NamesThere, without_named}
use Rattle.sweeper.specs.Knowing.{AreKept}
use Rattle.sweeper.proofs.Carrying.{shows-carried}
use Rattle.sweeper.proofs.Clearing.{blocks-from}
use Rattle.sweeper.proofs.Remaining.{lived-same, among-purge, none-purge, spent-among, one-birth, purged-other}

-- ---- a slot that holds no block

pub without-lives : (o : Option Slot) (y : Versions) → (without o y).lives ≡ y.lives
unfolding with_block
without-lives None y = refl
without-lives (Some s) y = refl

without-stores : (o : Option Slot) (y : Versions) → (without o y).stores ≡ y.stores
unfolding with_block
without-stores None y = refl
without-stores (Some s) y = refl

without-epoch : (o : Option Slot) (y : Versions) → epoch (without o y) ≡ epoch y
without-epoch None y = refl
without-epoch (Some s) y = block-epoch s None y

without-has : (o : Option Slot) (y : Versions) → HasLives y → HasLives (without o y)
without-has None y has = has
without-has (Some s) y has = has-block s None y has

without-there : (o : Option Slot) (y : Versions) (u : Slot) → (o ≡ Some u → ⊥) → (without o y).blocks u ≡ y.blocks u
without-there None y u other = refl
without-there (Some s) y u other = block-there s u None y (λ same. other (ap Some (sym same)))

-- ---- the extent that a record is

-- a record that names a slot is that of an extent
pub record Names (stores : ℕ) (key value : List ℕ) (s : Slot) : Type 0 where
  pub file : ℕ
  pub index : ℕ
  pub extent : ExtentRow
  pub place : IsPlace file index
  pub key_is : key ≡ key_of (Extent file index)
  pub said : extent_in value ≡ Some extent
  pub slot_is : slot_of stores file index extent ≡ s

pub names-of : (stores : ℕ) (key value : List ℕ) (s : Slot) → AreBytes key → slot_named stores key value ≡ Some s
    → Names stores key value s
names-of stores key value s are is = by_parts (parts_of key) refl is
  where
    by_extent : (file index : ℕ) → parts_of key ≡ Some (Extent file index) → (o : Option ExtentRow) → extent_in value ≡ o
        → option_map (slot_of stores file index) o ≡ Some s → Names stores key value s
    by_extent file index at None said is = absurd (cc)
    by_extent file index at (Some x) said is =
        let fits = said-bounds key (Extent file index) are at in
        record {
          file = file;
          index = index;
          extent = x;
          place = record { file_fits = fits.0; index_fits = fits.1 };
          key_is = sym (said-found key (Extent file index) are at);
          said = said;
          slot_is = (cc);
        }

    by_part : (p : Parts) → parts_of key ≡ Some p → slot_in stores value p ≡ Some s → Names stores key value s
    by_part First at is = absurd (cc)
    by_part (Lane lane) at is = absurd (cc)
    by_part (Snapshot number) at is = absurd (cc)
    by_part (Inode id) at is = absurd (cc)
    by_part (Name directory name) at is = absurd (cc)
    by_part (Cookie directory cookie) at is = absurd (cc)
    by_part (Extent file index) at is = by_extent file index at (extent_in value) refl is
    by_part (Stale file) at is = absurd (cc)
    by_part Times at is = absurd (cc)

    by_parts : (o : Option Parts) → parts_of key ≡ o → option_and_then (slot_in stores value) o ≡ Some s
        → Names stores key value s
    by_parts None at is = absurd (cc)
    by_parts (Some p) at is = by_part p at is

-- ---- the purge

module _ (v : Versions) (t : Tree) (kept key : List ℕ) (l : Life) (shows : Shows v t) (are : AreBytes key)
    (is : spent kept (v.lives key) ≡ Some l) where
  abbrev slot : Option Slot
  slot = slot_named v.stores key l.value

  abbrev y : Versions
  y = with_purge kept key v

  abbrev z : Versions
  z = without (slot_named v.stores key l.value) (with_purge kept key v)

  among : Contains (v.lives key) l
  among = (spent-among kept l (v.lives key) is).0

  is-spent : is_spent kept l ≡ true
  is-spent = (spent-among kept l (v.lives key) is).1

  y-stores : y.stores ≡ v.stores
  unfolding with_purge
  y-stores = refl

  y-blocks : y.blocks ≡ v.blocks
  unfolding with_purge
  y-blocks = refl

  y-here : y.lives key ≡ purge_life kept (v.lives key)
  unfolding with_purge
  y-here = lives-here key (purge_life kept (v.lives key)) v.lives

  y-there : (k : List ℕ) → k ≢ key → y.lives k ≡ v.lives k
  unfolding with_purge
  y-there k other = lives-there key k (purge_life kept (v.lives key)) v.lives (other-is k key other)

  z-lives : z.lives ≡ y.lives
  z-lives = without-lives (slot_named v.stores key l.value) (with_purge kept key v)

  z-stores : z.stores ≡ v.stores
  z-stores = without-stores (slot_named v.stores key l.value) (with_purge kept key v) ∙ y-stores

  -- the record of a slot that is dropped is the extent's that was purged
  pub dropped : (s : Slot) → slot_named v.stores key l.value ≡ Some s → Names v.stores key l.value s
  dropped s at = names-of v.stores key l.value s are at

  -- one that names that slot is the life that was purged
  only-life : (f i : ℕ) (k : Life) (x : ExtentRow) → IsExtent v f i k x
      → slot_named v.stores key l.value ≡ Some (slot_of v.stores f i x) → (key_of (Extent f i) ≡ key) × (k.birth ≡ l.birth)
  only-life f i k x ext at =
      let n = dropped (slot_of v.stores f i x) at in
      let a = shows.blocks.alone f i n.file n.index k l x n.extent ext
      (record {
        place = n.place;
        life = subst (λ (j : List ℕ). Contains (v.lives j) l) n.key_is among;
        said = n.said;
      }) (sym n.slot_is) in
      (ap (λ (g : ℕ). key_of (Extent g i)) a.0 ∙ ap (λ (j : ℕ). key_of (Extent n.file j)) a.1 ∙ sym n.key_is, a.2)

  lives-at : (f i : ℕ) (k : Life) → key_of (Extent f i) ≡ key → Contains (v.lives (key_of (Extent f i))) k
      → Contains (v.lives key) k
  lives-at f i k same at = subst (λ (j : List ℕ). Contains (v.lives j) k) same at

  -- a view that does not see the purged life, and sees the same at each key, shows the same bytes
  bytes-stay : (at : At) → sees at l ≡ false → ((k : List ℕ) → value_at at z k ≡ value_at at v k)
      → (id : ℕ) (m : Marks) (o : ℕ) → id < 2 ^ 64 → o < 2 ^ 64 → byte_at z at id m o ≡ byte_at v at id m o
  bytes-stay at blind same id m o fits low =
      byte_same v z at id m o
      (block_same v z at id m (o / block_size) (slot_same v z at id m (o / block_size) z-stores (same _)) blocks)
    where
      place : IsPlace id (o / block_size)
      place = record { file_fits = fits; index_fits = omega arith }

      differs : (b : Bool) → b ≡ true → b ≡ false → ⊥
      differs b p q = cc

      blocks : (u : Slot) → block_slot v at id m (o / block_size) ≡ Some u → z.blocks u ≡ v.blocks u
      blocks u shown =
          let b = shown_by v at id m (o / block_size) u shown in
          without-there (slot_named v.stores key l.value) (with_purge kept key v) u
          (λ hit.
          let a = only-life id (o / block_size) b.life b.extent
          (record { place = place; life = b.among; said = b.said }) (hit ∙ ap Some (sym b.is)) in
          let one : b.life ≡ l = one-birth (epoch v) 0 b.life l (v.lives key) (shows.lives.lives key)
          (lives-at id (o / block_size) b.life a.0 b.among) among a.1 in
          differs (sees at l) (subst (λ (x : Life). sees at x ≡ true) one b.seen_by) blind)
          ∙ ap (λ (bs : Slot → Option (List ℕ)). bs u) y-blocks

  live-same : (k : List ℕ) → value_at Live z k ≡ value_at Live v k
  live-same k = ap (λ (ls : List ℕ → List Life). value_at Live (record v { lives = ls }) k) z-lives ∙ live-purge kept key k v

  kept-same : (n : ℕ) → Contains kept n → (k : List ℕ) → value_at (Snap n) z k ≡ value_at (Snap n) v k
  kept-same n here k =
      ap (λ (ls : List ℕ → List Life). value_at (Snap n) (record v { lives = ls }) k) z-lives ∙ kept-purge kept key k v n here

  remain : (k : List ℕ) (x : Life) → Contains (z.lives k) x → Contains (v.lives k) x
  remain k x at = by_key (key_or k key)
    where
      here : Contains (y.lives k) x
      here = subst (λ (ls : List ℕ → List Life). Contains (ls k) x) z-lives at

      by_key : (k ≡ key) ⊎ (k ≢ key) → Contains (v.lives k) x
      by_key (inl same) = subst (λ (j : List ℕ). Contains (v.lives j) x) (sym same)
          (among-purge kept x (v.lives key) (subst (λ (ls : List Life). Contains ls x) y-here
          (subst (λ (j : List ℕ). Contains (y.lives j) x) same here)))
      by_key (inr other) = subst (λ (ls : List Life). Contains ls x) (y-there k other) here

  still-there : (f i : ℕ) (k : Life) (x : ExtentRow) → IsExtent z f i k x → v.blocks (slot_of v.stores f i x) ≢ None
      → z.blocks (slot_of v.stores f i x) ≢ None
  still-there f i k x ext some =
      subst (λ (b : Option (List ℕ)). b ≢ None)
      (sym (without-there (slot_named v.stores key l.value) (with_purge kept key v) (slot_of v.stores f i x)
      (λ hit.
      let a = only-life f i k x
      (record { place = ext.place; life = remain (key_of (Extent f i)) k ext.life; said = ext.said }) hit in
      purged-other kept (epoch v) 0 l k (v.lives key) (shows.lives.lives key) is
      (subst (λ (ls : List Life). Contains ls k) y-here
      (subst (λ (j : List ℕ). Contains (y.lives j) k) a.0
      (subst (λ (ls : List ℕ → List Life). Contains (ls (key_of (Extent f i))) k) z-lives ext.life))) a.1)
      ∙ ap (λ (bs : Slot → Option (List ℕ)). bs (slot_of v.stores f i x)) y-blocks)) some

  pub row-same : (p : Parts) → row z Live p ≡ row v Live p
  row-same p = live-same (key_of p)

  marks-same : (f : ℕ) → live_marks z f ≡ live_marks v f
  marks-same f = ap (λ (x : Option (List ℕ)). option_map (λ (i : InodeRow). marks_of i.head) (option_and_then inode_of x))
      (row-same (Inode f))

  extent-same : (f i : ℕ) → extent_at z Live f i ≡ extent_at v Live f i
  extent-same f i = ap (option_and_then extent_in) (row-same (Extent f i))

  epoch-same : epoch z ≡ epoch v
  unfolding epoch
  epoch-same = ap epoch_in (live-same epoch_key)

  -- the block is there that is dropped
  pub names-there : NamesThere key l.value y
  names-there = by_slot (slot_named y.stores key l.value) refl
    where
      by_slot : (o : Option Slot) → slot_named y.stores key l.value ≡ o → IfSome o (λ s. IsBlock s y)
      by_slot None at = tt
      by_slot (Some s) at =
          let n = dropped s (ap (λ (k : ℕ). slot_named k key l.value) (sym y-stores) ∙ at) in
          let b = shows.blocks.named n.file n.index l n.place
          (subst (λ (j : List ℕ). Contains (v.lives j) l) n.key_is among) in
          let one : b.extent ≡ n.extent = same-extent (extent_in l.value) b.extent n.extent b.said n.said in
          record {
            there = subst (λ (bs : Slot → Option (List ℕ)). bs s ≢ None) (sym y-blocks)
                (subst (λ (u : Slot). v.blocks u ≢ None) (ap (slot_of v.stores n.file n.index) one ∙ n.slot_is) b.there);
          }
        where
          same-extent : (o : Option ExtentRow) (a b : ExtentRow) → o ≡ Some a → o ≡ Some b → a ≡ b
          same-extent o a b p q = cc

  pub named-is : without_named key l.value y ≡ z
  named-is = ap (λ (k : ℕ). without (slot_named k key l.value) (with_purge kept key v)) y-stores

  -- at another key each life stays
  pub other-lives : (k : List ℕ) → k ≢ key → z.lives k ≡ v.lives k
  other-lives k other = ap (λ (ls : List ℕ → List Life). ls k) z-lives ∙ y-there k other

  module _ (knows : AreKept kept t) where
    pub purged-shows : Shows z t
    purged-shows = shows-carried v z t (record {
      lives = without-has (slot_named v.stores key l.value) (with_purge kept key v) (has-purge kept key v shows.lives);
      epoch_is = epoch-same;
      live = λ p low plain. row-same p;
      bytes = λ id m o low low' at. bytes-stay Live (dead-spent kept l is-spent) live-same id m o low low';
      kept = λ k d less.
          let s = slice_index_or t.snapshots k d in
          let here : Contains kept s.number = knows.all k d less in
          record {
            rows = λ p low. kept-same s.number here (key_of p);
            bytes = bytes-stay (Snap s.number) (unseen-spent kept s.number l here is-spent) (kept-same s.number here);
          };
      blocks = blocks-from v z z-stores (λ k x at. lived-same x (v.lives k) (remain k x at)) still-there shows.blocks;
      stale = record {
        within = λ f i x there at.
            subst (λ (o : Option Marks). IfSome o (λ m. x.stamp ≤ m.stamp)) (sym (marks-same f))
            (shows.stale.within f i x there (sym (extent-same f i) ∙ at));
        marked = λ f i x there at out.
            subst (λ (o : Option (List ℕ)). o ≢ None) (sym (row-same (Stale f)))
            (shows.stale.marked f i x there (sym (extent-same f i) ∙ at)
            (subst (λ (o : Option Marks). counts_by o i x ≡ false) (marks-same f) out));
      };
      fewer = λ k some. fewer k some (key_or k key);
    }) shows
      where
        fewer : (k : List ℕ) → z.lives k ≢ [] → (k ≡ key) ⊎ (k ≢ key) → v.lives k ≢ []
        fewer k some (inl same) = λ none. some (ap (λ (ls : List ℕ → List Life). ls k) z-lives
            ∙ subst (λ (j : List ℕ). y.lives j ≡ []) (sym same)
            (y-here ∙ none-purge kept (v.lives key) (subst (λ (j : List ℕ). v.lives j ≡ []) same none)))
        fewer k some (inr other) = λ none. some (ap (λ (ls : List ℕ → List Life). ls k) z-lives ∙ (y-there k other ∙ none))
