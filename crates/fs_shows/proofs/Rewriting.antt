-- Rows that are rewritten in the live view: all else stays, and so does what is shown of it.
use Rattle.std.proofs.Common.{◌≡◌, ◌≢◌, ℕ, ◌+◌, ◌*◌, ◌/◌, ◌%◌, ◌^◌, ◌<◌, ◌≤◌, List, [], Option, Some, None, refl, sym, ◌∙◌, ap}
use Rattle.std.proofs.Common.{subst, arith}
use Rattle.std.specs.Prelude.{⊤, slice_index_or, option_map, option_and_then, unwrap_or, length, All, Contains}
use Rattle.pair_types.specs.declared.slot.Slot.{Slot}
use Rattle.pairs.specs.declared.at.At.{At}
use Rattle.pairs.specs.declared.at.At.TheVariants.{Live, Snap}
use Rattle.pairs.specs.Lives.{Life, seen, put_life, del_life}
use Rattle.pairs.specs.Versions.{Versions, HasLives, CanPut, value_at, epoch, epoch_in, epoch_key, with_put, with_del}
use Rattle.pairs.proofs.VersionsLaws.{other-is, lives-there, live-put, others-put, earlier-put, has-put, live-del, others-del}
use Rattle.pairs.proofs.VersionsLaws.{earlier-del, has-del}
use Rattle.fs_rules.specs.Tree.{Tree, Nodes, Node, Snapshot}
use Rattle.fs_keys.specs.declared.key_parts.KeyParts.TheVariants.{First, Inode, Name, Cookie, Extent}
use Rattle.fs_keys.specs.declared.rows.Extent.{Extent as ExtentRow}
use Rattle.fs_keys.specs.Keys.{Parts, HasBounds, key_of, parts_of}
use Rattle.fs_rules.specs.Limits.{longest_name}
use Rattle.fs_keys.specs.Values.{extent_in, name_in, cookie_in}
use Rattle.fs_shows.specs.Extents.{Marks, counted, slot_of, IsPlace, row, block_size, extent_at, block_slot, byte_at}
use Rattle.fs_shows.specs.Extents.{ShowsContent}
use Rattle.fs_shows.specs.Nodes.{Holds, ShowsInode, ShowsNodes, marks_of, bytes_of, name_row, cookie_row, numbered}
use Rattle.fs_rules.specs.Names.{named}
use Rattle.fs_rules.specs.Places.{names_of}
use Rattle.fs_shows.specs.Shows.{NamesBlock, IsExtent, KeepsBlocks, MarksStale, IsWithin, ShowsRows, Shows}
use Rattle.fs_shows.proofs.Apart.{short-name, keys-apart, outside-apart}

-- ---- one row

-- a value may be put at each key but that of the epoch
pub can-put : (p : Parts) (value : List ℕ) (v : Versions) → HasBounds p → First ≢ p → HasLives v → CanPut (key_of p) value v
can-put p value v fits other lives = record {
  lives = lives;
  rises = λ is. absurd (keys-apart p First fits tt other (sym is));
}

pub keeps-put : (p : Parts) (value : List ℕ) (v : Versions) → HasBounds p → First ≢ p → HasLives v → HasLives
    (with_put (key_of p) value v)
keeps-put p value v fits other lives = has-put (key_of p) value v (can-put p value v fits other lives)

pub keeps-del : (p : Parts) (v : Versions) → HasBounds p → First ≢ p → HasLives v → HasLives (with_del (key_of p) v)
keeps-del p v fits other lives = has-del (key_of p) v (λ is. keys-apart p First fits tt other (sym is)) lives

pub row-put : (p : Parts) (value : List ℕ) (v : Versions) → HasBounds p → First ≢ p → HasLives v → row
    (with_put (key_of p) value v) Live p ≡ Some value
row-put p value v fits other lives = live-put (key_of p) value v (can-put p value v fits other lives)

pub row-put-other : (p q : Parts) (value : List ℕ) (v : Versions) (at : At) → HasBounds p → HasBounds q → q ≢ p
    → row (with_put (key_of p) value v) at q ≡ row v at q
row-put-other p q value v at fits fits' other = others-put (key_of p) value (key_of q) v at (keys-apart p q fits fits' other)

pub row-del : (p : Parts) (v : Versions) → HasLives v → row (with_del (key_of p) v) Live p ≡ None
row-del p v lives = live-del (key_of p) v lives

pub row-del-other : (p q : Parts) (v : Versions) (at : At) → HasBounds p → HasBounds q → q ≢ p
    → row (with_del (key_of p) v) at q ≡ row v at q
row-del-other p q v at fits fits' other = others-del (key_of p) (key_of q) v at (keys-apart p q fits fits' other)

-- ---- rows that are rewritten, and what stays

-- Live rows were rewritten, none of those that stand apart: lives are in order, and the epoch, the blocks, each earlier view,
-- the rows apart and what lies outside of the table are as they were.
pub record Rewrites (v z : Versions) (Apart : Parts → Type 0) : Type 0 where
  pub lives : HasLives z
  pub epoch_is : epoch z ≡ epoch v
  pub stores_are : z.stores ≡ v.stores
  pub blocks_are : z.blocks ≡ v.blocks
  pub earlier : (n : ℕ) (k : List ℕ) → n < epoch v → value_at (Snap n) z k ≡ value_at (Snap n) v k
  pub apart : (p : Parts) → HasBounds p → Apart p → z.lives (key_of p) ≡ v.lives (key_of p)
  pub outside : (k : List ℕ) → parts_of k ≡ None → z.lives k ≡ v.lives k

pub rewrites-none : (v : Versions) (Apart : Parts → Type 0) → HasLives v → Rewrites v v Apart
rewrites-none v Apart lives = record {
  lives = lives;
  epoch_is = refl;
  stores_are = refl;
  blocks_are = refl;
  earlier = λ n k late. refl;
  apart = λ p fits apart. refl;
  outside = λ k none. refl;
}

pub lives-put-other : (key value k : List ℕ) (v : Versions) → k ≢ key → (with_put key value v).lives k ≡ v.lives k
unfolding with_put
lives-put-other key value k v other = lives-there key k (put_life (epoch v) value (v.lives key)) v.lives (other-is k key other)

pub lives-del-other : (key k : List ℕ) (v : Versions) → k ≢ key → (with_del key v).lives k ≡ v.lives k
unfolding with_del
lives-del-other key k v other = lives-there key k (del_life (epoch v) (v.lives key)) v.lives (other-is k key other)

epoch-put : (key value : List ℕ) (v : Versions) → epoch_key ≢ key → epoch (with_put key value v) ≡ epoch v
unfolding epoch
epoch-put key value v other = ap epoch_in (others-put key value epoch_key v Live other)

epoch-del : (key : List ℕ) (v : Versions) → epoch_key ≢ key → epoch (with_del key v) ≡ epoch v
unfolding epoch
epoch-del key v other = ap epoch_in (others-del key epoch_key v Live other)

pub rewrites-put : (Apart : Parts → Type 0) (p : Parts) (value : List ℕ) (v y : Versions) → HasBounds p → First ≢ p
    → ((q : Parts) → Apart q → q ≢ p) → Rewrites v y Apart → Rewrites v (with_put (key_of p) value y) Apart
unfolding with_put
rewrites-put Apart p value v y fits first other r = record {
  lives = keeps-put p value y fits first r.lives;
  epoch_is = epoch-put (key_of p) value y (keys-apart p First fits tt first) ∙ r.epoch_is;
  stores_are = r.stores_are;
  blocks_are = r.blocks_are;
  earlier = λ n k late.
      earlier-put (key_of p) value k y n (can-put p value y fits first r.lives) (rw r.epoch_is late) ∙ r.earlier n k late;
  apart = λ q fits' apart.
      lives-put-other (key_of p) value (key_of q) y (keys-apart p q fits fits' (other q apart)) ∙ r.apart q fits' apart;
  outside = λ k none. lives-put-other (key_of p) value k y (outside-apart p k fits none) ∙ r.outside k none;
}

pub rewrites-del : (Apart : Parts → Type 0) (p : Parts) (v y : Versions) → HasBounds p → First ≢ p
    → ((q : Parts) → Apart q → q ≢ p) → Rewrites v y Apart → Rewrites v (with_del (key_of p) y) Apart
unfolding with_del
rewrites-del Apart p v y fits first other r = record {
  lives = keeps-del p y fits first r.lives;
  epoch_is = epoch-del (key_of p) y (keys-apart p First fits tt first) ∙ r.epoch_is;
  stores_are = r.stores_are;
  blocks_are = r.blocks_are;
  earlier = λ n k late. earlier-del (key_of p) k y n r.lives (rw r.epoch_is late) ∙ r.earlier n k late;
  apart = λ q fits' apart.
      lives-del-other (key_of p) (key_of q) y (keys-apart p q fits fits' (other q apart)) ∙ r.apart q fits' apart;
  outside = λ k none. lives-del-other (key_of p) k y (outside-apart p k fits none) ∙ r.outside k none;
}

pub row-apart : (v z : Versions) (Apart : Parts → Type 0) (p : Parts) (at : At) → Rewrites v z Apart → HasBounds p → Apart p
    → row z at p ≡ row v at p
row-apart v z Apart p at r fits apart = ap (seen at) (r.apart p fits apart)

-- ---- bytes

byte_from : ℕ → (Slot → Option (List ℕ)) → Option (List ℕ) → ℕ → Marks → ℕ → ℕ
byte_from stores blocks value file m offset =
    slice_index_or
    (unwrap_or
    (option_and_then blocks
    (option_map (slot_of stores file (offset / block_size))
    (counted m (offset / block_size) (option_and_then extent_in value))))
    [])
    (offset % block_size)
    0

byte-is : (v : Versions) (at : At) (file : ℕ) (m : Marks) (offset : ℕ)
    → byte_at v at file m offset ≡ byte_from v.stores v.blocks (row v at (Extent file (offset / block_size))) file m offset
unfolding byte_at block_slot byte_from
byte-is v at file m offset = refl

pub byte-same : (v z : Versions) (at : At) (file : ℕ) (m : Marks) (offset : ℕ) → z.stores ≡ v.stores → z.blocks ≡ v.blocks
    → row z at (Extent file (offset / block_size)) ≡ row v at (Extent file (offset / block_size))
    → byte_at z at file m offset ≡ byte_at v at file m offset
byte-same v z at file m offset stores blocks same =
    let r = row z at (Extent file (offset / block_size)) in
    byte-is z at file m offset
    ∙ ap (λ (x : ℕ). byte_from x z.blocks r file m offset) stores
    ∙ ap (λ (b : Slot → Option (List ℕ)). byte_from v.stores b r file m offset) blocks
    ∙ ap (λ (x : Option (List ℕ)). byte_from v.stores v.blocks x file m offset) same
    ∙ sym (byte-is v at file m offset)

-- where no extent stands, a zero is shown
pub byte-none : (v : Versions) (at : At) (file : ℕ) (m : Marks) (offset : ℕ) → row v at (Extent file (offset / block_size)) ≡ None
    → byte_at v at file m offset ≡ 0
unfolding byte_from
byte-none v at file m offset none = byte-is v at file m offset ∙ ap
    (λ (x : Option (List ℕ)). byte_from v.stores v.blocks x file m offset) none

pub content-carried : (v z : Versions) (at : At) (id : ℕ) (m : Marks) (content : List ℕ)
    → ((o : ℕ) → o < 2 ^ 64 → byte_at z at id m o ≡ byte_at v at id m o) → ShowsContent v at id m content
    → ShowsContent z at id m content
content-carried v z at id m content same shows = record { bytes = λ o less. shows.bytes o less ∙ same' o less }
  where
    same' : (o : ℕ) → o < 2 ^ 64 → byte_at v at id m o ≡ byte_at z at id m o
    same' o less = sym (same o less)

pub inode-carried : (v z : Versions) (at : At) (id : ℕ) (value : Option (List ℕ)) (n : Option Node)
    → ((m : Marks) (o : ℕ) → o < 2 ^ 64 → byte_at z at id m o ≡ byte_at v at id m o) → ShowsInode v at id value n
    → ShowsInode z at id value n
inode-carried v z at id None None same shows = tt
inode-carried v z at id None (Some n) same shows = shows
inode-carried v z at id (Some value) None same shows = shows
inode-carried v z at id (Some value) (Some n) same shows = record {
  inode = shows.inode;
  said = shows.said;
  is = shows.is;
  content = content-carried v z at id (marks_of shows.inode.head) (bytes_of n) (same (marks_of shows.inode.head)) shows.content;
}

-- ---- nodes of a view whose rows stay

-- a row of some file
abbrev pub IsFileRow : Parts → Type 0
IsFileRow (Inode id) = ⊤
IsFileRow (Name directory name) = ⊤
IsFileRow (Cookie directory cookie) = ⊤
IsFileRow (Extent file index) = ⊤
IsFileRow _ = ⊥

pub bytes-carried : (v z : Versions) (at : At) (id : ℕ) → id < 2 ^ 64 → z.stores ≡ v.stores → z.blocks ≡ v.blocks
    → ((index : ℕ) → index < 2 ^ 64 → row z at (Extent id index) ≡ row v at (Extent id index))
    → (m : Marks) (o : ℕ) → o < 2 ^ 64 → byte_at z at id m o ≡ byte_at v at id m o
bytes-carried v z at id fits stores blocks same m o less =
    byte-same v z at id m o stores blocks (same (o / block_size) (omega arith))

pub nodes-carried : (v z : Versions) (at : At) (nodes : Nodes) → z.stores ≡ v.stores → z.blocks ≡ v.blocks
    → ((p : Parts) → HasBounds p → IsFileRow p → row z at p ≡ row v at p) → ShowsNodes v at nodes → ShowsNodes z at nodes
nodes-carried v z at nodes stores blocks same shows = record {
  inodes = λ id fits.
      subst (λ (x : Option (List ℕ)). ShowsInode z at id x (nodes id)) (sym (same (Inode id) fits tt))
      (inode-carried v z at id (row v at (Inode id)) (nodes id)
      (bytes-carried v z at id fits stores blocks (λ index less. same (Extent id index) (fits, less) tt)) (shows.inodes id fits));
  names = λ directory name fits short.
      subst (λ (x : Option (List ℕ)). Holds name_in x (option_map name_row (named name (names_of (nodes directory)))))
      (sym (same (Name directory name) (fits, short-name name short) tt)) (shows.names directory name fits short);
  cookies = λ directory cookie fits fits'.
      subst (λ (x : Option (List ℕ)). Holds cookie_in x (option_map cookie_row (numbered cookie (names_of (nodes directory)))))
      (sym (same (Cookie directory cookie) (fits, fits') tt)) (shows.cookies directory cookie fits fits');
}

-- ---- the whole tree

-- extents stand apart
abbrev pub LeavesExtents : (Parts → Type 0) → Type 0
LeavesExtents Apart = (file index : ℕ) → Apart (Extent file index)

pub blocks-kept : (v z : Versions) (Apart : Parts → Type 0) → LeavesExtents Apart → Rewrites v z Apart → KeepsBlocks v
    → KeepsBlocks z
blocks-kept v z Apart leaves r keeps = record {
  some = rw r.stores_are keeps.some;
  named = λ file index l place among.
      let n = keeps.named file index l place (before file index l place among) in
      record { extent = n.extent; said = n.said; there = there file index n.extent n.there };
  alone = λ f i g j l k x y first second same.
      keeps.alone f i g j l k x y (extent f i l x first) (extent g j k y second)
      (subst (λ (stores : ℕ). slot_of stores f i x ≡ slot_of stores g j y) r.stores_are same);
}
  where
    there : (file index : ℕ) (x : ExtentRow) → v.blocks (slot_of v.stores file index x) ≢ None → z.blocks
        (slot_of z.stores file index x) ≢ None
    there file index x is =
        subst (λ (b : Slot → Option (List ℕ)). b (slot_of z.stores file index x) ≢ None) (sym r.blocks_are)
        (subst (λ (stores : ℕ). v.blocks (slot_of stores file index x) ≢ None) (sym r.stores_are) is)

    before : (file index : ℕ) (l : Life) → IsPlace file index → Contains (z.lives (key_of (Extent file index))) l
        → Contains (v.lives (key_of (Extent file index))) l
    before file index l place among =
        subst (λ (ls : List Life). Contains ls l)
        (r.apart (Extent file index) (place.file_fits, place.index_fits) (leaves file index)) among

    extent : (f i : ℕ) (l : Life) (x : ExtentRow) → IsExtent z f i l x → IsExtent v f i l x
    extent f i l x is = record { place = is.place; life = before f i l is.place is.life; said = is.said }

-- what was shown of the snapshots is shown on
pub kept-shown : (v z : Versions) (t : Tree) (Apart : Parts → Type 0) → LeavesExtents Apart → Rewrites v z Apart → Shows v t
    → All (λ s. ShowsNodes z (Snap s.number) s.nodes) t.snapshots
kept-shown v z t Apart leaves r shows k d less =
    let s = slice_index_or t.snapshots k d in
    nodes-carried v z (Snap s.number) s.nodes r.stores_are r.blocks_are
    (λ p fits is. r.earlier s.number (key_of p) (rw shows.epoch_is (shows.earlier k d less)))
    (shows.kept k d less)

pub shows-rewritten : (v z : Versions) (t : Tree) (nodes : Nodes) (next : List ℕ) (Apart : Parts → Type 0) → LeavesExtents Apart
    → Rewrites v z Apart → Shows v t → ShowsRows z (record t { nodes = nodes; next_fileids = next }) → ShowsNodes z Live nodes
    → MarksStale z → IsWithin z (record t { nodes = nodes; next_fileids = next })
    → Shows z (record t { nodes = nodes; next_fileids = next })
shows-rewritten v z t nodes next Apart leaves r shows rows live stale within = record {
  lives = r.lives;
  epoch_is = r.epoch_is ∙ shows.epoch_is;
  rows = rows;
  live = live;
  earlier = shows.earlier;
  kept = kept-shown v z t Apart leaves r shows;
  blocks = blocks-kept v z Apart leaves r shows.blocks;
  stale = stale;
  within = within;
}
