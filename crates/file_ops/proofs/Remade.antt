-- A live file that was remade, by its inode, its blocks and its mark: all else that is shown stays.
use Rattle.std.proofs.Common.{◌≡◌, ◌≢◌, ◌⊎◌, inl, inr, ℕ, ◌<◌, ◌≤◌, ◌^◌, true, false, List, [], Option, Some, None, refl, sym}
use Rattle.std.proofs.Common.{◌∙◌, ap, subst, arith}
use Rattle.std.specs.Prelude.{⊤, IfSome, length, option_map, option_and_then, slice_get, slice_index_or}
use Rattle.pairs.specs.declared.at.At.{At}
use Rattle.pairs.specs.declared.at.At.TheVariants.{Live, Snap}
use Rattle.pairs.specs.Lives.{Life, seen}
use Rattle.pairs.specs.Versions.{Versions, value_at, epoch, with_put}
use Rattle.fs_rules.specs.Edits.{with_node}
use Rattle.fs_rules.specs.Limits.{longest_name}
use Rattle.fs_rules.specs.declared.name_entry.NameEntry.{NameEntry}
use Rattle.fs_rules.specs.Names.{named}
use Rattle.fs_rules.specs.Places.{names_of, snapshot_numbered}
use Rattle.fs_rules.specs.Sound.{is_given}
use Rattle.fs_rules.specs.Tree.{Tree, Nodes, Node, Snapshot}
use Rattle.fs_keys.specs.declared.key_parts.KeyParts.TheVariants.{First, Lane, Snapshot as SnapshotKey, Inode, Name, Cookie}
use Rattle.fs_keys.specs.declared.key_parts.KeyParts.TheVariants.{Extent}
use Rattle.fs_keys.specs.declared.key_parts.KeyParts.TheVariants.{Stale, Times}
use Rattle.fs_keys.specs.declared.inode.Inode.{Inode as InodeRow}
use Rattle.fs_keys.specs.declared.rows.Extent.{Extent as ExtentRow}
use Rattle.fs_keys.specs.Inodes.{inode_of, value_of}
use Rattle.fs_keys.specs.Keys.{Parts, HasBounds, key_of, parts_of}
use Rattle.fs_keys.specs.Values.{extent_in, name_in, cookie_in, first_in, lane_in, times_in}
use Rattle.fs_shows.specs.Extents.{Marks, IsPlace, row, extent_at, byte_at, ShowsContent}
use Rattle.fs_shows.specs.Nodes.{Holds, ShowsInode, ShowsNodes, IsInodeOf, marks_of, bytes_of, name_row, cookie_row, numbered}
use Rattle.fs_shows.specs.Shows.{first_of, live_marks, counts_by, MarksStale, IsWithin, ShowsRows, Shows}
use Rattle.fs_shows.proofs.Apart.{short-name, each-number, keys-apart, outside-apart, IsApart}
use Rattle.fs_shows.proofs.Rewriting.{Rewrites, rewrites-none, row-apart, row-put, row-put-other, lives-put-other, bytes-carried}
use Rattle.fs_shows.proofs.Rewriting.{content-carried, inode-carried, blocks-kept}
use Rattle.fs_shows.proofs.NodeEdits.{each-node, StaleHere, rewrites-own-put}
use Rattle.fs_shows.proofs.InodeEdits.{inode-first, inode-apart-stale, inode-apart-extent}
use Rattle.extent_ops.specs.Steps.{HasBlocks}
use Rattle.extent_ops.specs.Blocks.{IsBeside, Leaves}
use Rattle.extent_ops.specs.Cuts.{stale_key}

-- ---- what stays where one file is remade

-- a row that stands aside: none of this file's inode, of its extents, or of its mark
abbrev pub IsAside : ℕ → Parts → Type 0
IsAside id First = ⊤
IsAside id (Lane lane) = ⊤
IsAside id (SnapshotKey number) = ⊤
IsAside id (Inode file) = file ≢ id
IsAside id (Name directory name) = ⊤
IsAside id (Cookie directory cookie) = ⊤
IsAside id (Extent file index) = file ≢ id
IsAside id (Stale file) = file ≢ id
IsAside id Times = ⊤

aside-inode : (id : ℕ) (p : Parts) → IsAside id p → p ≢ Inode id
aside-inode id p aside is = let h : IsAside id (Inode id) = subst (IsAside id) is aside in h refl

aside-extent : (id index : ℕ) (p : Parts) → IsAside id p → p ≢ Extent id index
aside-extent id index p aside is = let h : IsAside id (Extent id index) = subst (IsAside id) is aside in h refl

aside-stale : (id : ℕ) (p : Parts) → IsAside id p → p ≢ Stale id
aside-stale id p aside is = let h : IsAside id (Stale id) = subst (IsAside id) is aside in h refl

-- One live file was remade: lives are in order, extents name blocks, and the epoch, what every other file and every earlier view
-- shows, the rows aside and what lies outside of the table are as they were.
pub record Remakes (id : ℕ) (v z : Versions) : Type 0 where
  pub has : HasBlocks z
  pub epoch_is : epoch z ≡ epoch v
  pub others : (file : ℕ) (m : Marks) (o : ℕ) → file < 2 ^ 64 → o < 2 ^ 64 → file ≢ id
      → byte_at z Live file m o ≡ byte_at v Live file m o
  pub earlier : (n : ℕ) → n < epoch v → (file : ℕ) (m : Marks) (o : ℕ) → file < 2 ^ 64 → o < 2 ^ 64
      → byte_at z (Snap n) file m o ≡ byte_at v (Snap n) file m o
  pub before : (n : ℕ) (k : List ℕ) → n < epoch v → value_at (Snap n) z k ≡ value_at (Snap n) v k
  pub aside : (p : Parts) → HasBounds p → IsAside id p → z.lives (key_of p) ≡ v.lives (key_of p)
  pub outside : (k : List ℕ) → parts_of k ≡ None → z.lives k ≡ v.lives k

pub remakes-none : (id : ℕ) (v : Versions) → HasBlocks v → Remakes id v v
remakes-none id v has = record {
  has = has;
  epoch_is = refl;
  others = λ file m o fits small other. refl;
  earlier = λ n late file m o fits small. refl;
  before = λ n k late. refl;
  aside = λ p fits aside. refl;
  outside = λ k none. refl;
}

-- blocks of the file were written, and it may have been marked
pub remakes-leaves : (id : ℕ) (m : Marks) (v y : Versions) → id < 2 ^ 64 → Leaves id m v y
    → ((key : List ℕ) → IsBeside id key → key ≢ stale_key id → y.lives key ≡ v.lives key) → Remakes id v y
remakes-leaves id m v y fits leaves keys = record {
  has = leaves.has;
  epoch_is = leaves.epoch_is;
  others = λ file n o fits' small other. leaves.others file n o fits' small other;
  earlier = λ n late file k o fits' small. leaves.earlier n late file k o fits' small;
  before = λ n k late. leaves.before n late k;
  aside = λ p fits' aside.
      keys (key_of p) (λ index small. keys-apart (Extent id index) p (fits, small) fits' (aside-extent id index p aside))
      (keys-apart (Stale id) p fits fits' (aside-stale id p aside));
  outside = λ k none. keys k (λ index small. outside-apart (Extent id index) k (fits, small) none) (outside-apart (Stale id) k
      fits none);
}

-- and then its inode was put
pub remakes-put : (id : ℕ) (value : List ℕ) (v y : Versions) → id < 2 ^ 64 → Remakes id v y
    → Remakes id v (with_put (key_of (Inode id)) value y)
remakes-put id value v y fits r = record {
  has = record { lives = w.lives; blocks = blocks-kept y z (IsApart id) (λ file index. tt) w r.has.blocks };
  epoch_is = w.epoch_is ∙ r.epoch_is;
  others = λ file m o fits' small other. bytes file Live fits' m o small ∙ r.others file m o fits' small other;
  earlier = λ n late file m o fits' small. bytes file (Snap n) fits' m o small ∙ r.earlier n late file m o fits' small;
  before = λ n k late. w.earlier n k (rw r.epoch_is late) ∙ r.before n k late;
  aside = λ p fits' aside.
      lives-put-other (key_of (Inode id)) value (key_of p) y (keys-apart (Inode id) p fits fits' (aside-inode id p aside))
      ∙ r.aside p fits' aside;
  outside = λ k none. lives-put-other (key_of (Inode id)) value k y (outside-apart (Inode id) k fits none) ∙ r.outside k none;
}
  where
    z : Versions
    z = with_put (key_of (Inode id)) value y

    w : Rewrites y z (IsApart id)
    w = rewrites-own-put id (Inode id) value y y fits refl (rewrites-none y (IsApart id) r.has.lives)

    bytes : (file : ℕ) (at : At) → file < 2 ^ 64 → (m : Marks) (o : ℕ) → o < 2 ^ 64
        → byte_at z at file m o ≡ byte_at y at file m o
    bytes file at fits' =
        bytes-carried y z at file fits' w.stores_are w.blocks_are
        (λ index less. row-apart y z (IsApart id) (Extent file index) at w (fits', less) tt)

-- ---- what is shown then

-- what the rows and blocks of a file say of its node now
pub record FileHere (z : Versions) (t : Tree) (id : ℕ) (m : Node) : Type 0 where
  pub inode : ShowsInode z Live id (row z Live (Inode id)) (Some m)
  pub names : m.names ≡ names_of (t.nodes id)
  pub stale : StaleHere z t id

row-aside : (id : ℕ) (v z : Versions) (p : Parts) → Remakes id v z → HasBounds p → IsAside id p → row z Live p ≡ row v Live p
row-aside id v z p r fits aside = ap (seen Live) (r.aside p fits aside)

-- a view shows nodes on, where its bytes and rows stay
nodes-on : (v z : Versions) (at : At) (nodes : Nodes)
    → ((file : ℕ) (m : Marks) (o : ℕ) → file < 2 ^ 64 → o < 2 ^ 64 → byte_at z at file m o ≡ byte_at v at file m o)
    → ((p : Parts) → row z at p ≡ row v at p) → ShowsNodes v at nodes → ShowsNodes z at nodes
nodes-on v z at nodes bytes same shows = record {
  inodes = λ id fits.
      subst (λ (x : Option (List ℕ)). ShowsInode z at id x (nodes id)) (sym (same (Inode id)))
      (inode-carried v z at id (row v at (Inode id)) (nodes id) (λ m o less. bytes id m o fits less) (shows.inodes id fits));
  names = λ directory name fits short.
      subst (λ (x : Option (List ℕ)). Holds name_in x (option_map name_row (named name (names_of (nodes directory)))))
      (sym (same (Name directory name))) (shows.names directory name fits short);
  cookies = λ directory cookie fits fits'.
      subst (λ (x : Option (List ℕ)). Holds cookie_in x (option_map cookie_row (numbered cookie (names_of (nodes directory)))))
      (sym (same (Cookie directory cookie))) (shows.cookies directory cookie fits fits');
}

file-nodes : (v z : Versions) (t : Tree) (id : ℕ) (m : Node) → Shows v t → Remakes id v z → FileHere z t id m
    → ShowsNodes z Live (with_node id (Some m) t.nodes)
file-nodes v z t id m shows r here = record {
  inodes = λ i fits. each-node InodeAt id (Some m) t.nodes (λ fits. here.inode) inode-there i fits;
  names = λ d name fits short. each-node (NameAt name) id (Some m) t.nodes
      (λ fits. subst (NameOf name id) (sym here.names) (name-on name short id fits)) (λ i other fits. name-on name short i fits)
      d fits;
  cookies = λ d cookie fits fits'. each-node (CookieAt cookie) id (Some m) t.nodes
      (λ fits. subst (CookieOf cookie id) (sym here.names) (cookie-on cookie fits' id fits)) (λ i other fits. cookie-on cookie
      fits' i fits)
      d fits;
}
  where
    InodeAt : ℕ → Option Node → Type 0
    InodeAt i n = i < 2 ^ 64 → ShowsInode z Live i (row z Live (Inode i)) n

    NameOf : List ℕ → ℕ → List NameEntry → Type 0
    NameOf name d names = Holds name_in (row z Live (Name d name)) (option_map name_row (named name names))

    NameAt : List ℕ → ℕ → Option Node → Type 0
    NameAt name d n = d < 2 ^ 64 → NameOf name d (names_of n)

    CookieOf : ℕ → ℕ → List NameEntry → Type 0
    CookieOf cookie d names = Holds cookie_in (row z Live (Cookie d cookie)) (option_map cookie_row (numbered cookie names))

    CookieAt : ℕ → ℕ → Option Node → Type 0
    CookieAt cookie d n = d < 2 ^ 64 → CookieOf cookie d (names_of n)

    inode-there : (i : ℕ) → i ≢ id → i < 2 ^ 64 → ShowsInode z Live i (row z Live (Inode i)) (t.nodes i)
    inode-there i other fits =
        subst (λ (x : Option (List ℕ)). ShowsInode z Live i x (t.nodes i)) (sym (row-aside id v z (Inode i) r fits other))
        (inode-carried v z Live i (row v Live (Inode i)) (t.nodes i) (λ m o less. r.others i m o fits less other)
        (shows.live.inodes i fits))

    name-on : (name : List ℕ) → length name ≤ longest_name → (d : ℕ) → d < 2 ^ 64 → NameOf name d (names_of (t.nodes d))
    name-on name short d fits =
        subst (λ (x : Option (List ℕ)). Holds name_in x (option_map name_row (named name (names_of (t.nodes d)))))
        (sym (row-aside id v z (Name d name) r (fits, short-name name short) tt)) (shows.live.names d name fits short)

    cookie-on : (cookie : ℕ) → cookie < 2 ^ 64 → (d : ℕ) → d < 2 ^ 64 → CookieOf cookie d (names_of (t.nodes d))
    cookie-on cookie fits' d fits =
        subst (λ (x : Option (List ℕ)). Holds cookie_in x (option_map cookie_row (numbered cookie (names_of (t.nodes d)))))
        (sym (row-aside id v z (Cookie d cookie) r (fits, fits') tt)) (shows.live.cookies d cookie fits fits')

file-rows : (v z : Versions) (t : Tree) (id : ℕ) (nodes : Nodes) → Shows v t → Remakes id v z → ShowsRows z
    (record t { nodes = nodes })
unfolding snapshot_numbered
file-rows v z t id nodes shows r = record {
  first = subst (λ (x : Option (List ℕ)). Holds first_in x (Some (first_of t))) (sym (row-aside id v z First r tt tt))
      shows.rows.first;
  lanes = λ lane low. subst (λ (x : Option (List ℕ)). Holds lane_in x (slice_get t.next_fileids lane))
      (sym (row-aside id v z (Lane lane) r low tt)) (shows.rows.lanes lane low);
  snapshots = λ number fits. row-aside id v z (SnapshotKey number) r fits tt ∙ shows.rows.snapshots number fits;
  times = subst (λ (x : Option (List ℕ)). Holds times_in x (Some t.snapshot_times)) (sym (row-aside id v z Times r tt tt))
      shows.rows.times;
}

file-stale : (v z : Versions) (t : Tree) (id : ℕ) → Shows v t → Remakes id v z → StaleHere z t id → MarksStale z
file-stale v z t id shows r here = record {
  within = λ file index x place is. each-number WithinAt id (λ index x place is. here.within index x place is) within-there
      file index x place is;
  marked = λ file index x place is out. each-number MarkedAt id (λ index x place is out. here.marked index x place is out)
      marked-there file index x place is out;
}
  where
    WithinAt : ℕ → Type 0
    WithinAt file = (index : ℕ) (x : ExtentRow) → IsPlace file index → extent_at z Live file index ≡ Some x
        → IfSome (live_marks z file) (λ m. x.stamp ≤ m.stamp)

    MarkedAt : ℕ → Type 0
    MarkedAt file = (index : ℕ) (x : ExtentRow) → IsPlace file index → extent_at z Live file index ≡ Some x
        → counts_by (live_marks z file) index x ≡ false → row z Live (Stale file) ≢ None

    marks-there : (file : ℕ) → file ≢ id → file < 2 ^ 64 → live_marks z file ≡ live_marks v file
    marks-there file other fits =
        ap (λ (x : Option (List ℕ)). option_map (λ (i : InodeRow). marks_of i.head) (option_and_then inode_of x))
        (row-aside id v z (Inode file) r fits other)

    extent-there : (file index : ℕ) → file ≢ id → IsPlace file index → extent_at z Live file index ≡ extent_at v Live file index
    extent-there file index other place =
        ap (option_and_then extent_in) (row-aside id v z (Extent file index) r (place.file_fits, place.index_fits) other)

    within-there : (file : ℕ) → file ≢ id → WithinAt file
    within-there file other index x place is =
        subst (λ (o : Option Marks). IfSome o (λ m. x.stamp ≤ m.stamp)) (sym (marks-there file other place.file_fits))
        (shows.stale.within file index x place (sym (extent-there file index other place) ∙ is))

    marked-there : (file : ℕ) → file ≢ id → MarkedAt file
    marked-there file other index x place is out =
        subst (λ (o : Option (List ℕ)). o ≢ None) (sym (row-aside id v z (Stale file) r place.file_fits other))
        (shows.stale.marked file index x place (sym (extent-there file index other place) ∙ is)
        (subst (λ (o : Option Marks). counts_by o index x ≡ false) (marks-there file other place.file_fits) out))

file-within : (v z : Versions) (t : Tree) (id : ℕ) (nodes : Nodes) → Shows v t → is_given t id ≡ true → Remakes id v z
    → IsWithin z (record t { nodes = nodes })
unfolding is_given
file-within v z t id nodes shows given r = record {
  extents = λ file index place some. each-number ExtentAt id (λ index place some. given) extent-there file index place some;
  stale = λ file fits some. each-number StaleAt id (λ fits some. given) stale-there file fits some;
  table = λ k none. r.outside k none ∙ shows.within.table k none;
}
  where
    ExtentAt : ℕ → Type 0
    ExtentAt file = (index : ℕ) → IsPlace file index → z.lives (key_of (Extent file index)) ≢ [] → is_given t file ≡ true

    StaleAt : ℕ → Type 0
    StaleAt file = file < 2 ^ 64 → z.lives (key_of (Stale file)) ≢ [] → is_given t file ≡ true

    extent-there : (file : ℕ) → file ≢ id → ExtentAt file
    extent-there file other index place some =
        shows.within.extents file index place
        (subst (λ (ls : List Life). ls ≢ []) (r.aside (Extent file index) (place.file_fits, place.index_fits) other) some)

    stale-there : (file : ℕ) → file ≢ id → StaleAt file
    stale-there file other fits some =
        shows.within.stale file fits (subst (λ (ls : List Life). ls ≢ []) (r.aside (Stale file) fits other) some)

-- the file shows another node now, all else what it showed
pub file-shown : (v z : Versions) (t : Tree) (id : ℕ) (m : Node) → Shows v t → is_given t id ≡ true → Remakes id v z
    → FileHere z t id m → Shows z (record t { nodes = with_node id (Some m) t.nodes })
file-shown v z t id m shows given r here = record {
  lives = r.has.lives;
  epoch_is = r.epoch_is ∙ shows.epoch_is;
  rows = file-rows v z t id (with_node id (Some m) t.nodes) shows r;
  live = file-nodes v z t id m shows r here;
  earlier = shows.earlier;
  kept = λ k d less. kept-on (slice_index_or t.snapshots k d) (shows.earlier k d less) (shows.kept k d less);
  blocks = r.has.blocks;
  stale = file-stale v z t id shows r here.stale;
  within = file-within v z t id (with_node id (Some m) t.nodes) shows given r;
}
  where
    kept-on : (s : Snapshot) → s.number < t.epoch → ShowsNodes v (Snap s.number) s.nodes → ShowsNodes z (Snap s.number) s.nodes
    kept-on s early shown =
        let late : s.number < epoch v = rw shows.epoch_is early in
        nodes-on v z (Snap s.number) s.nodes (λ file m o fits small. r.earlier s.number late file m o fits small)
        (λ p. r.before s.number (key_of p) late) shown

-- ---- its inode was put

-- the marks that a record holds
pub marks-said : (v : Versions) (id : ℕ) (i : InodeRow) → Holds inode_of (row v Live (Inode id)) (Some i)
    → live_marks v id ≡ Some (marks_of i.head)
marks-said v id i held = by_value (row v Live (Inode id)) held
  where
    by_value : (value : Option (List ℕ)) → Holds inode_of value (Some i)
        → option_map (λ (i : InodeRow). marks_of i.head) (option_and_then inode_of value) ≡ Some (marks_of i.head)
    by_value None held = absurd held
    by_value (Some value) held = ap (option_map (λ (i : InodeRow). marks_of i.head)) held

-- other marks: a later stamp, where the file is marked, or the same ones
abbrev pub Follow : Versions → ℕ → Marks → Marks → Type 0
Follow y id m k = (m ≡ k) ⊎ ((m.stamp ≤ k.stamp) × (row y Live (Stale id) ≢ None))

follow-stamp : (y : Versions) (id : ℕ) (m k : Marks) → Follow y id m k → m.stamp ≤ k.stamp
follow-stamp y id m k (inl same) = subst (λ (k : Marks). m.stamp ≤ k.stamp) same (omega arith)
follow-stamp y id m k (inr later) = later.0

-- The inode of a file was put behind what was made of its blocks: the tree shows it, with the bytes that its marks show.
module _ (v y : Versions) (t : Tree) (id : ℕ) (fits : id < 2 ^ 64) (shows : Shows v t) (given : is_given t id ≡ true)
    (r : Remakes id v y) (stale : MarksStale y) (m : Marks) (marks : live_marks y id ≡ Some m) (j : InodeRow)
    (follow : Follow y id m (marks_of j.head)) (again : inode_of (value_of j) ≡ Some j) where
  abbrev pub put-now : Versions
  put-now = with_put (key_of (Inode id)) (value_of j) y

  now-said : row put-now Live (Inode id) ≡ Some (value_of j)
  now-said = row-put (Inode id) (value_of j) y fits (inode-first id) r.has.lives

  marks-now : live_marks put-now id ≡ Some (marks_of j.head)
  marks-now = marks-said put-now id j (subst (λ (x : Option (List ℕ)). Holds inode_of x (Some j)) (sym now-said) again)

  extent-now : (index : ℕ) → IsPlace id index → extent_at put-now Live id index ≡ extent_at y Live id index
  extent-now index place =
      ap (option_and_then extent_in) (row-put-other (Inode id) (Extent id index) (value_of j) y Live fits
      (place.file_fits, place.index_fits) (inode-apart-extent id id index))

  stale-now : row put-now Live (Stale id) ≡ row y Live (Stale id)
  stale-now = row-put-other (Inode id) (Stale id) (value_of j) y Live fits fits (inode-apart-stale id id)

  stale-put : StaleHere put-now t id
  stale-put = record {
    within = λ index x place is.
        subst (λ (o : Option Marks). IfSome o (λ m. x.stamp ≤ m.stamp)) (sym marks-now)
        (late x (subst (λ (o : Option Marks). IfSome o (λ m. x.stamp ≤ m.stamp)) marks
        (stale.within id index x place (sym (extent-now index place) ∙ is))) (follow-stamp y id m (marks_of j.head) follow));
    marked = λ index x place is out.
        subst (λ (o : Option (List ℕ)). o ≢ None) (sym stale-now)
        (noted index x place (sym (extent-now index place) ∙ is)
        (subst (λ (o : Option Marks). counts_by o index x ≡ false) marks-now out) follow);
    given = λ some. given;
  }
    where
      late : (x : ExtentRow) → x.stamp ≤ m.stamp → m.stamp ≤ j.head.kept.cuts → x.stamp ≤ j.head.kept.cuts
      late x p q = omega arith

      noted : (index : ℕ) (x : ExtentRow) → IsPlace id index → extent_at y Live id index ≡ Some x
          → counts_by (Some (marks_of j.head)) index x ≡ false → Follow y id m (marks_of j.head) → row y Live (Stale id) ≢ None
      noted index x place is out (inl same) =
          stale.marked id index x place is
          (subst (λ (o : Option Marks). counts_by o index x ≡ false) (sym (marks ∙ ap (λ (m : Marks). Some m) same)) out)
      noted index x place is out (inr later) = later.1

  pub inode-put : (n : Node) → IsInodeOf j n → n.names ≡ names_of (t.nodes id)
      → ShowsContent y Live id (marks_of j.head) (bytes_of n)
      → Shows put-now (record t { nodes = with_node id (Some n) t.nodes })
  inode-put n is names content = file-shown v put-now t id n shows given (remakes-put id (value_of j) v y fits r) (record {
    inode = subst (λ (x : Option (List ℕ)). ShowsInode put-now Live id x (Some n)) (sym now-said) (record {
      inode = j;
      said = again;
      is = is;
      content = content-carried y put-now Live id (marks_of j.head) (bytes_of n) same content;
    });
    names = names;
    stale = stale-put;
  })
    where
      w : Rewrites y put-now (IsApart id)
      w = rewrites-own-put id (Inode id) (value_of j) y y fits refl (rewrites-none y (IsApart id) r.has.lives)

      same : (o : ℕ) → o < 2 ^ 64 → byte_at put-now Live id (marks_of j.head) o ≡ byte_at y Live id (marks_of j.head) o
      same o less =
          bytes-carried y put-now Live id fits w.stores_are w.blocks_are
          (λ index less. row-apart y put-now (IsApart id) (Extent id index) Live w (fits, less) tt) (marks_of j.head) o less
