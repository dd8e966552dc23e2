-- Records of snapshots change, and all others stay: so does what is shown of them.
use Rattle.std.proofs.Common.{◌≡◌, ◌≢◌, ℕ, ◌<◌, ◌≤◌, ◌^◌, true, false, List, [], Option, Some, None, refl, sym, ◌∙◌, ap}
use Rattle.std.proofs.Common.{subst}
use Rattle.std.specs.Prelude.{⊤, ◌+◌, map, option_map, option_and_then, slice_get, IfSome, All, Contains}
use Rattle.pair_types.specs.declared.slot.Slot.{Slot}
use Rattle.pairs.specs.declared.at.At.{At}
use Rattle.pairs.specs.declared.at.At.TheVariants.{Live, Snap}
use Rattle.pairs.specs.Lives.{Life, seen}
use Rattle.pairs.specs.Versions.{Versions, HasLives, epoch, with_put, with_del}
use Rattle.fs_rules.specs.declared.times.Times.{Times}
use Rattle.fs_rules.specs.Places.{snapshot_entry, snapshot_numbered}
use Rattle.fs_rules.specs.Sound.{is_given}
use Rattle.fs_rules.specs.Tree.{Tree, Nodes, Snapshot}
use Rattle.fs_keys.specs.declared.key_parts.KeyParts.TheVariants as key
use Rattle.fs_keys.specs.declared.inode.Inode.{Inode as InodeRow}
use Rattle.fs_keys.specs.declared.rows.Extent.{Extent as ExtentRow}
use Rattle.fs_keys.specs.Inodes.{inode_of}
use Rattle.fs_keys.specs.Keys.{Parts, HasBounds, key_of, parts_of}
use Rattle.fs_keys.specs.Values.{first_in, lane_in, extent_in, times_in}
use Rattle.fs_shows.specs.Extents.{Marks, slot_of, IsPlace, row, extent_at}
use Rattle.fs_shows.specs.Nodes.{Holds, ShowsNodes, marks_of, numbered}
use Rattle.fs_shows.specs.Shows.{IsExtent, KeepsBlocks, MarksStale, IsWithin, Shows, first_of}
use Rattle.fs_shows.specs.Shows.{live_marks, counts_by}
use Rattle.fs_shows.proofs.Apart.{keys-apart, outside-apart}
use Rattle.fs_shows.proofs.Rewriting.{IsFileRow, lives-put-other, lives-del-other, nodes-carried}
use Rattle.snap_ops.proofs.Entries.{numbered-entry}

-- the records that are no snapshot's name, and neither the first one nor that of times
abbrev pub IsOther : Parts → Type 0
IsOther key.First = ⊥
IsOther (key.Lane lane) = ⊤
IsOther (key.Snapshot number) = ⊥
IsOther (key.Inode id) = ⊤
IsOther (key.Name directory name) = ⊤
IsOther (key.Cookie directory cookie) = ⊤
IsOther (key.Extent file index) = ⊤
IsOther (key.Stale file) = ⊤
IsOther key.Times = ⊥

pub file-other : (p : Parts) → IsFileRow p → IsOther p
file-other key.First of = of
file-other (key.Lane lane) of = tt
file-other (key.Snapshot number) of = of
file-other (key.Inode id) of = tt
file-other (key.Name directory name) of = tt
file-other (key.Cookie directory cookie) of = tt
file-other (key.Extent file index) of = tt
file-other (key.Stale file) of = tt
file-other key.Times of = of

-- all records but those of snapshots stay, and so do blocks
pub record Leaves (v z : Versions) : Type 0 where
  pub stores_are : z.stores ≡ v.stores
  pub blocks_are : z.blocks ≡ v.blocks
  pub others : (p : Parts) → HasBounds p → IsOther p → z.lives (key_of p) ≡ v.lives (key_of p)
  pub outside : (k : List ℕ) → parts_of k ≡ None → z.lives k ≡ v.lives k

pub leaves-none : (v : Versions) → Leaves v v
leaves-none v = record {
  stores_are = refl;
  blocks_are = refl;
  others = λ p fits other. refl;
  outside = λ k none. refl;
}

other-differs : (p q : Parts) → (IsOther p → ⊥) → IsOther q → q ≢ p
other-differs p q own other is = own (subst IsOther is other)

pub leaves-put : (p : Parts) (value : List ℕ) (v y : Versions) → HasBounds p → (IsOther p → ⊥) → Leaves v y
    → Leaves v (with_put (key_of p) value y)
unfolding with_put
leaves-put p value v y fits own leaves = record {
  stores_are = leaves.stores_are;
  blocks_are = leaves.blocks_are;
  others = λ q fits' other.
      lives-put-other (key_of p) value (key_of q) y (keys-apart p q fits fits' (other-differs p q own other))
      ∙ leaves.others q fits' other;
  outside = λ k none. lives-put-other (key_of p) value k y (outside-apart p k fits none) ∙ leaves.outside k none;
}

pub leaves-del : (p : Parts) (v y : Versions) → HasBounds p → (IsOther p → ⊥) → Leaves v y → Leaves v (with_del (key_of p) y)
unfolding with_del
leaves-del p v y fits own leaves = record {
  stores_are = leaves.stores_are;
  blocks_are = leaves.blocks_are;
  others = λ q fits' other.
      lives-del-other (key_of p) (key_of q) y (keys-apart p q fits fits' (other-differs p q own other))
      ∙ leaves.others q fits' other;
  outside = λ k none. lives-del-other (key_of p) k y (outside-apart p k fits none) ∙ leaves.outside k none;
}

-- ---- what stays shown

module _ (v z : Versions) (leaves : Leaves v z) where
  pub row-left : (p : Parts) (at : At) → HasBounds p → IsOther p → row z at p ≡ row v at p
  row-left p at fits other = ap (seen at) (leaves.others p fits other)

  pub nodes-left : (at : At) (nodes : Nodes) → ShowsNodes v at nodes → ShowsNodes z at nodes
  nodes-left at nodes shows =
      nodes-carried v z at nodes leaves.stores_are leaves.blocks_are
      (λ p fits of. row-left p at fits (file-other p of)) shows

  blocks-left : KeepsBlocks v → KeepsBlocks z
  blocks-left keeps = record {
    some = rw leaves.stores_are keeps.some;
    named = λ file index l place among.
        let n = keeps.named file index l place (before file index l place among) in
        record { extent = n.extent; said = n.said; there = there file index n.extent n.there };
    alone = λ f i g j l k x y first second same.
        keeps.alone f i g j l k x y (extent f i l x first) (extent g j k y second)
        (subst (λ (stores : ℕ). slot_of stores f i x ≡ slot_of stores g j y) leaves.stores_are same);
  }
    where
      there : (file index : ℕ) (x : ExtentRow) → v.blocks (slot_of v.stores file index x) ≢ None
          → z.blocks (slot_of z.stores file index x) ≢ None
      there file index x is =
          subst (λ (b : Slot → Option (List ℕ)). b (slot_of z.stores file index x) ≢ None) (sym leaves.blocks_are)
          (subst (λ (stores : ℕ). v.blocks (slot_of stores file index x) ≢ None) (sym leaves.stores_are) is)

      before : (file index : ℕ) (l : Life) → IsPlace file index → Contains (z.lives (key_of (key.Extent file index))) l
          → Contains (v.lives (key_of (key.Extent file index))) l
      before file index l place among =
          subst (λ (ls : List Life). Contains ls l)
          (leaves.others (key.Extent file index) (place.file_fits, place.index_fits) tt) among

      extent : (f i : ℕ) (l : Life) (x : ExtentRow) → IsExtent z f i l x → IsExtent v f i l x
      extent f i l x is = record { place = is.place; life = before f i l is.place is.life; said = is.said }

  marks-left : (file : ℕ) → file < 2 ^ 64 → live_marks z file ≡ live_marks v file
  marks-left file fits =
      ap (λ (x : Option (List ℕ)). option_map (λ (i : InodeRow). marks_of i.head) (option_and_then inode_of x))
      (row-left (key.Inode file) Live fits tt)

  extent-left : (file index : ℕ) → IsPlace file index → extent_at z Live file index ≡ extent_at v Live file index
  extent-left file index place =
      ap (option_and_then extent_in) (row-left (key.Extent file index) Live (place.file_fits, place.index_fits) tt)

  stale-left : MarksStale v → MarksStale z
  stale-left stale = record {
    within = λ file index x place is.
        subst (λ (o : Option Marks). IfSome o (λ m. x.stamp ≤ m.stamp)) (sym (marks-left file place.file_fits))
        (stale.within file index x place (sym (extent-left file index place) ∙ is));
    marked = λ file index x place is out.
        subst (λ (o : Option (List ℕ)). o ≢ None) (sym (row-left (key.Stale file) Live place.file_fits tt))
        (stale.marked file index x place (sym (extent-left file index place) ∙ is)
        (subst (λ (o : Option Marks). counts_by o index x ≡ false) (marks-left file place.file_fits) out));
  }

  -- of a tree that gave the same numbers
  within-left : (t u : Tree) → ((file : ℕ) → is_given t file ≡ true → is_given u file ≡ true) → IsWithin v t → IsWithin z u
  within-left t u given within = record {
    extents = λ file index place some.
        given file (within.extents file index place
        (subst (λ (ls : List Life). ls ≢ [])
        (leaves.others (key.Extent file index) (place.file_fits, place.index_fits) tt) some));
    stale = λ file fits some.
        given file (within.stale file fits
        (subst (λ (ls : List Life). ls ≢ []) (leaves.others (key.Stale file) fits tt) some));
    table = λ k none. leaves.outside k none ∙ within.table k none;
  }

-- ---- the whole tree

-- a tree with another epoch, other times of `.snapshot` and other snapshots
abbrev pub resnapped : ℕ → Times → List Snapshot → Tree → Tree
resnapped epoch times snapshots t = record t { epoch = epoch; snapshot_times = times; snapshots = snapshots }

given-left : (t : Tree) (e : ℕ) (times : Times) (snapshots : List Snapshot) (file : ℕ) → is_given t file ≡ true
    → is_given (resnapped e times snapshots t) file ≡ true
unfolding is_given
given-left t e times snapshots file is = is

-- what is to be shown of the records of snapshots
pub record ShowsSnapshots (z : Versions) (u : Tree) : Type 0 where
  pub lives : HasLives z
  pub epoch_is : epoch z ≡ u.epoch
  pub first : Holds first_in (row z Live key.First) (Some (first_of u))
  pub names : (number : ℕ) → number < 2 ^ 64
      → row z Live (key.Snapshot number) ≡ option_map (λ e. e.name) (numbered (number + 2) (map snapshot_entry u.snapshots))
  pub times : Holds times_in (row z Live key.Times) (Some u.snapshot_times)
  pub earlier : All (λ s. s.number < u.epoch) u.snapshots
  pub kept : All (λ s. ShowsNodes z (Snap s.number) s.nodes) u.snapshots

pub shows-left : (v z : Versions) (t : Tree) (e : ℕ) (times : Times) (snapshots : List Snapshot) → Leaves v z → Shows v t
    → ShowsSnapshots z (resnapped e times snapshots t) → Shows z (resnapped e times snapshots t)
unfolding snapshot_numbered
shows-left v z t e times snapshots leaves shows own = record {
  lives = own.lives;
  epoch_is = own.epoch_is;
  rows = record {
    first = own.first;
    lanes = λ lane fits.
        subst (λ (x : Option (List ℕ)). Holds lane_in x (slice_get t.next_fileids lane))
        (sym (row-left v z leaves (key.Lane lane) Live fits tt)) (shows.rows.lanes lane fits);
    snapshots = λ number fits. own.names number fits ∙ sym (numbered-entry number snapshots);
    times = own.times;
  };
  live = nodes-left v z leaves Live t.nodes shows.live;
  earlier = own.earlier;
  kept = own.kept;
  blocks = blocks-left v z leaves shows.blocks;
  stale = stale-left v z leaves shows.stale;
  within = within-left v z leaves t (resnapped e times snapshots t) (given-left t e times snapshots) shows.within;
}
