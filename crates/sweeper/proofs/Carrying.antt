-- A tree is shown on where the rows of its nodes, their bytes and its own rows stay.
use Rattle.std.proofs.Common.{◌≡◌, ◌≢◌, ℕ, ◌^◌, ◌<◌, List, [], ◌∷◌, Option, Some, None, refl, sym, ◌∙◌, ap, subst}
use Rattle.std.specs.Prelude.{⊤, All, slice_index_or, slice_get, option_map, option_and_then}
use Rattle.pairs.specs.declared.at.At.{At}
use Rattle.pairs.specs.declared.at.At.TheVariants.{Live, Snap}
use Rattle.pairs.specs.Lives.{Life}
use Rattle.pairs.specs.Versions.{Versions, HasLives, epoch}
use Rattle.fs_rules.specs.Names.{named}
use Rattle.fs_rules.specs.Places.{names_of}
use Rattle.fs_rules.specs.Tree.{Tree, Nodes, Node}
use Rattle.fs_keys.specs.declared.key_parts.KeyParts.TheVariants.{First, Lane, Snapshot as SnapshotKey, Inode, Name, Cookie}
use Rattle.fs_keys.specs.declared.key_parts.KeyParts.TheVariants.{Extent, Stale, Times}
use Rattle.fs_keys.specs.declared.inode.Inode.{Inode as InodeRow}
use Rattle.fs_keys.specs.Inodes.{inode_of}
use Rattle.fs_keys.specs.Keys.{Parts, HasBounds, key_of}
use Rattle.fs_keys.specs.Values.{first_in, lane_in, times_in, name_in, cookie_in}
use Rattle.fs_shows.specs.Extents.{Marks, row, byte_at}
use Rattle.fs_shows.specs.Nodes.{Holds, marks_of, bytes_of, ShowsInode, ShowsNodes, name_row, cookie_row, numbered}
use Rattle.fs_shows.specs.Shows.{KeepsBlocks, MarksStale, Shows, first_of, live_marks}
use Rattle.fs_shows.proofs.Apart.{short-name}
use Rattle.fs_shows.proofs.Rewriting.{content-carried, inode-carried}

-- a row that is neither an extent nor a mark
abbrev pub IsPlain : Parts → Type 0
IsPlain First = ⊤
IsPlain (Lane lane) = ⊤
IsPlain (SnapshotKey number) = ⊤
IsPlain (Inode id) = ⊤
IsPlain (Name directory name) = ⊤
IsPlain (Cookie directory cookie) = ⊤
IsPlain (Extent file index) = ⊥
IsPlain (Stale file) = ⊥
IsPlain Times = ⊤

-- the rows of a view, and the bytes of each file by any marks
pub record ViewStays (v z : Versions) (n : ℕ) : Type 0 where
  pub rows : (p : Parts) → HasBounds p → row z (Snap n) p ≡ row v (Snap n) p
  pub bytes : (id : ℕ) (m : Marks) (o : ℕ) → id < 2 ^ 64 → o < 2 ^ 64 → byte_at z (Snap n) id m o ≡ byte_at v (Snap n) id m o

pub record Carries (v z : Versions) (t : Tree) : Type 0 where
  pub lives : HasLives z
  pub epoch_is : epoch z ≡ epoch v
  pub live : (p : Parts) → HasBounds p → IsPlain p → row z Live p ≡ row v Live p
  pub bytes : (id : ℕ) (m : Marks) (o : ℕ) → id < 2 ^ 64 → o < 2 ^ 64 → live_marks v id ≡ Some m
      → byte_at z Live id m o ≡ byte_at v Live id m o
  pub kept : All (λ s. ViewStays v z s.number) t.snapshots
  pub blocks : KeepsBlocks z
  pub stale : MarksStale z
  pub fewer : (k : List ℕ) → z.lives k ≢ [] → v.lives k ≢ []

-- ---- nodes

marks-are : (v : Versions) (id : ℕ) (value : List ℕ) (i : InodeRow) → row v Live (Inode id) ≡ Some value → inode_of value ≡ Some i
    → live_marks v id ≡ Some (marks_of i.head)
marks-are v id value i at said =
    ap (λ (x : Option (List ℕ)). option_map (λ (i : InodeRow). marks_of i.head) (option_and_then inode_of x)) at
    ∙ ap (λ (o : Option InodeRow). option_map (λ (i : InodeRow). marks_of i.head) o) said

inode-live : (v z : Versions) (id : ℕ) (value : Option (List ℕ)) (n : Option Node) → row v Live (Inode id) ≡ value
    → ((m : Marks) (o : ℕ) → o < 2 ^ 64 → live_marks v id ≡ Some m → byte_at z Live id m o ≡ byte_at v Live id m o)
    → ShowsInode v Live id value n → ShowsInode z Live id value n
inode-live v z id None None at same shows = tt
inode-live v z id None (Some n) at same shows = shows
inode-live v z id (Some value) None at same shows = shows
inode-live v z id (Some value) (Some n) at same shows = record {
  inode = shows.inode;
  said = shows.said;
  is = shows.is;
  content = content-carried v z Live id (marks_of shows.inode.head) (bytes_of n)
      (λ o less. same (marks_of shows.inode.head) o less (marks-are v id value shows.inode at shows.said)) shows.content;
}

nodes-by : (v z : Versions) (at : At) (nodes : Nodes)
    → ((id : ℕ) → id < 2 ^ 64 → ShowsInode v at id (row v at (Inode id)) (nodes id)
    → ShowsInode z at id (row v at (Inode id)) (nodes id))
    → ((p : Parts) → HasBounds p → IsPlain p → row z at p ≡ row v at p) → ShowsNodes v at nodes → ShowsNodes z at nodes
nodes-by v z at nodes inodes same shows = record {
  inodes = λ id fits.
      subst (λ (x : Option (List ℕ)). ShowsInode z at id x (nodes id)) (sym (same (Inode id) fits tt))
      (inodes id fits (shows.inodes id fits));
  names = λ directory name fits short.
      subst (λ (x : Option (List ℕ)). Holds name_in x (option_map name_row (named name (names_of (nodes directory)))))
      (sym (same (Name directory name) (fits, short-name name short) tt)) (shows.names directory name fits short);
  cookies = λ directory cookie fits fits'.
      subst (λ (x : Option (List ℕ)). Holds cookie_in x (option_map cookie_row (numbered cookie (names_of (nodes directory)))))
      (sym (same (Cookie directory cookie) (fits, fits') tt)) (shows.cookies directory cookie fits fits');
}

-- ---- the whole tree

none-left : (v z : Versions) (k : List ℕ) → (z.lives k ≢ [] → v.lives k ≢ []) → v.lives k ≡ [] → z.lives k ≡ []
none-left v z k fewer none = by_lives (z.lives k) refl
  where
    by_lives : (ls : List Life) → z.lives k ≡ ls → ls ≡ []
    by_lives [] is = refl
    by_lives (l ∷ ls) is = absurd (fewer (λ empty. differs (sym is ∙ empty)) none)
      where
        differs : l ∷ ls ≡ [] → ⊥
        differs e = cc

pub shows-carried : (v z : Versions) (t : Tree) → Carries v z t → Shows v t → Shows z t
shows-carried v z t c shows = record {
  lives = c.lives;
  epoch_is = c.epoch_is ∙ shows.epoch_is;
  rows = record {
    first = subst (λ (x : Option (List ℕ)). Holds first_in x (Some (first_of t))) (sym (c.live First tt tt)) shows.rows.first;
    lanes = λ lane fits.
        subst (λ (x : Option (List ℕ)). Holds lane_in x (slice_get t.next_fileids lane)) (sym (c.live (Lane lane) fits tt))
        (shows.rows.lanes lane fits);
    snapshots = λ number fits. c.live (SnapshotKey number) fits tt ∙ shows.rows.snapshots number fits;
    times = subst (λ (x : Option (List ℕ)). Holds times_in x (Some t.snapshot_times)) (sym (c.live Times tt tt)) shows.rows.times;
  };
  live = nodes-by v z Live t.nodes
      (λ id fits is. inode-live v z id (row v Live (Inode id)) (t.nodes id) refl
      (λ m o less at. c.bytes id m o fits less at) is)
      c.live shows.live;
  earlier = shows.earlier;
  kept = λ k d less.
      let s = slice_index_or t.snapshots k d in
      nodes-by v z (Snap s.number) s.nodes
      (λ id fits is. inode-carried v z (Snap s.number) id (row v (Snap s.number) (Inode id)) (s.nodes id)
      (λ m o low. (c.kept k d less).bytes id m o fits low) is)
      (λ p fits plain. (c.kept k d less).rows p fits) (shows.kept k d less);
  blocks = c.blocks;
  stale = c.stale;
  within = record {
    extents = λ file index place some. shows.within.extents file index place (c.fewer (key_of (Extent file index)) some);
    stale = λ file fits some. shows.within.stale file fits (c.fewer (key_of (Stale file)) some);
    table = λ k none. none-left v z k (c.fewer k) (shows.within.table k none);
  };
}
