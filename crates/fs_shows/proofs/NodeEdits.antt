-- A node that is another one now, where the rows of its file say so; and what a lane gives next.
use Rattle.std.proofs.Common.{◌≡◌, ◌≢◌, ℕ, ◌+◌, ◌<◌, ◌≤◌, ◌^◌, ◌==◌, Bool, true, false, if◌then◌else◌, List, [], Option, Some}
use Rattle.std.proofs.Common.{None}
use Rattle.std.proofs.Common.{refl, sym, ◌∙◌, ap, subst, arith}
use Rattle.std.proofs.lemmas.Bool.{eqb-true, eqb-false}
use Rattle.std.specs.Prelude.{⊤, option_map, option_and_then, IfSome, length, slice_get}
use Rattle.pairs.specs.declared.at.At.TheVariants.{Live, Snap}
use Rattle.pairs.specs.Lives.{Life, seen}
use Rattle.pairs.specs.Versions.{Versions, HasLives, with_put, with_del}
use Rattle.fs_rules.specs.declared.name_entry.NameEntry.{NameEntry}
use Rattle.fs_rules.specs.Edits.{with_node, edit_node}
use Rattle.fs_rules.specs.Names.{named}
use Rattle.fs_rules.specs.Places.{names_of, snapshot_numbered}
use Rattle.fs_rules.specs.Sound.{is_given}
use Rattle.fs_rules.specs.Tree.{Tree, Nodes, Node}
use Rattle.fs_keys.specs.declared.key_parts.KeyParts.TheVariants.{First, Lane, Snapshot, Inode, Name, Cookie, Extent, Stale}
use Rattle.fs_keys.specs.declared.key_parts.KeyParts.TheVariants.{Times}
use Rattle.fs_keys.specs.declared.inode.Inode.{Inode as InodeRow}
use Rattle.fs_keys.specs.declared.rows.Extent.{Extent as ExtentRow}
use Rattle.fs_keys.specs.Inodes.{inode_of, value_of}
use Rattle.fs_keys.specs.Keys.{Parts, HasBounds, key_of, parts_of}
use Rattle.fs_rules.specs.Limits.{longest_name}
use Rattle.fs_keys.specs.Values.{extent_in, name_in, cookie_in, first_in, lane_in, times_in}
use Rattle.fs_shows.specs.Extents.{Marks, IsPlace, row, extent_at, byte_at, ShowsContent}
use Rattle.fs_shows.specs.Nodes.{Holds, ShowsInode, ShowsNode, ShowsNodes, IsInodeOf, marks_of, bytes_of, name_row, cookie_row}
use Rattle.fs_shows.specs.Nodes.{numbered}
use Rattle.fs_shows.specs.Shows.{first_of, MarksStale, IsWithin, ShowsRows, Shows, live_marks, counts_by}
use Rattle.fs_shows.proofs.Apart.{short-name, each-number, IsApart, IsOf, of-apart, of-first}
use Rattle.fs_shows.proofs.Rewriting.{Rewrites, rewrites-none, rewrites-put, rewrites-del, row-apart, row-put, row-put-other}
use Rattle.fs_shows.proofs.Rewriting.{inode-carried, content-carried, bytes-carried, shows-rewritten}

-- what holds of a node at its number, and of all others, holds of each
pub each-node : (P : ℕ → Option Node → Type 0) (id : ℕ) (m : Option Node) (nodes : Nodes) → P id m
    → ((i : ℕ) → i ≢ id → P i (nodes i)) → (i : ℕ) → P i (with_node id m nodes i)
unfolding with_node
each-node P id m nodes here there i = by_test (i == id) refl
  where
    by_test : (u : Bool) → (i == id) ≡ u → P i (if u then m else nodes i)
    by_test true is = subst (λ (j : ℕ). P j m) (sym (eqb-true i id is)) here
    by_test false is = there i (eqb-false i id is)

-- ---- rows of one file

pub rewrites-own-put : (id : ℕ) (p : Parts) (value : List ℕ) (v y : Versions) → HasBounds p → IsOf id p
    → Rewrites v y (IsApart id) → Rewrites v (with_put (key_of p) value y) (IsApart id)
rewrites-own-put id p value v y fits of r =
    rewrites-put (IsApart id) p value v y fits (of-first id p of) (λ q apart. of-apart id p q of apart) r

pub rewrites-own-del : (id : ℕ) (p : Parts) (v y : Versions) → HasBounds p → IsOf id p → Rewrites v y (IsApart id)
    → Rewrites v (with_del (key_of p) y) (IsApart id)
rewrites-own-del id p v y fits of r = rewrites-del (IsApart id) p v y fits (of-first id p of)
    (λ q apart. of-apart id p q of apart) r

-- the rows of a directory say these names, by name and by cookie
pub record NamesHere (z : Versions) (id : ℕ) (names : List NameEntry) : Type 0 where
  pub by_name : (name : List ℕ) → length name ≤ longest_name
      → Holds name_in (row z Live (Name id name)) (option_map name_row (named name names))
  pub by_cookie : (cookie : ℕ) → cookie < 2 ^ 64
      → Holds cookie_in (row z Live (Cookie id cookie)) (option_map cookie_row (numbered cookie names))

-- a file's extents are none newer than its inode, and the file is marked where one of them does not count
pub record StaleHere (z : Versions) (t : Tree) (id : ℕ) : Type 0 where
  pub within : (index : ℕ) (x : ExtentRow) → IsPlace id index → extent_at z Live id index ≡ Some x
      → IfSome (live_marks z id) (λ m. x.stamp ≤ m.stamp)
  pub marked : (index : ℕ) (x : ExtentRow) → IsPlace id index → extent_at z Live id index ≡ Some x
      → counts_by (live_marks z id) index x ≡ false → row z Live (Stale id) ≢ None
  pub given : z.lives (key_of (Stale id)) ≢ [] → is_given t id ≡ true

-- what the rows of a file say of its node now
pub record NodeHere (z : Versions) (t : Tree) (id : ℕ) (m : Option Node) : Type 0 where
  pub inode : ShowsInode z Live id (row z Live (Inode id)) m
  pub names : NamesHere z id (names_of m)
  pub stale : StaleHere z t id

marks-apart : (v z : Versions) (id file : ℕ) → Rewrites v z (IsApart id) → file < 2 ^ 64 → file ≢ id
    → live_marks z file ≡ live_marks v file
marks-apart v z id file r fits other =
    ap (λ (x : Option (List ℕ)). option_map (λ (i : InodeRow). marks_of i.head) (option_and_then inode_of x))
    (row-apart v z (IsApart id) (Inode file) Live r fits other)

extent-apart : (v z : Versions) (id file index : ℕ) → Rewrites v z (IsApart id) → IsPlace file index
    → extent_at z Live file index ≡ extent_at v Live file index
extent-apart v z id file index r place =
    ap (option_and_then extent_in) (row-apart v z (IsApart id) (Extent file index) Live r (place.file_fits, place.index_fits) tt)

node-nodes : (v z : Versions) (t : Tree) (id : ℕ) (m : Option Node) → Shows v t → Rewrites v z (IsApart id) → NodeHere z t id m
    → ShowsNodes z Live (with_node id m t.nodes)
node-nodes v z t id m shows r here = record {
  inodes = λ i fits. each-node InodeAt id m t.nodes (λ fits. here.inode) inode-there i fits;
  names = λ d name fits short. each-node (NameAt name) id m t.nodes (λ fits. here.names.by_name name short)
      (name-there name short) d fits;
  cookies = λ d cookie fits fits'. each-node (CookieAt cookie) id m t.nodes (λ fits. here.names.by_cookie cookie fits')
      (cookie-there cookie fits') d fits;
}
  where
    InodeAt : ℕ → Option Node → Type 0
    InodeAt i n = i < 2 ^ 64 → ShowsInode z Live i (row z Live (Inode i)) n

    NameAt : List ℕ → ℕ → Option Node → Type 0
    NameAt name d n = d < 2 ^ 64 → Holds name_in (row z Live (Name d name)) (option_map name_row (named name (names_of n)))

    CookieAt : ℕ → ℕ → Option Node → Type 0
    CookieAt cookie d n = d < 2 ^ 64 → Holds cookie_in (row z Live (Cookie d cookie))
        (option_map cookie_row (numbered cookie (names_of n)))

    inode-there : (i : ℕ) → i ≢ id → i < 2 ^ 64 → ShowsInode z Live i (row z Live (Inode i)) (t.nodes i)
    inode-there i other fits =
        subst (λ (x : Option (List ℕ)). ShowsInode z Live i x (t.nodes i))
        (sym (row-apart v z (IsApart id) (Inode i) Live r fits other))
        (inode-carried v z Live i (row v Live (Inode i)) (t.nodes i)
        (bytes-carried v z Live i fits r.stores_are r.blocks_are
        (λ index less. row-apart v z (IsApart id) (Extent i index) Live r (fits, less) tt))
        (shows.live.inodes i fits))

    name-there : (name : List ℕ) → length name ≤ longest_name → (d : ℕ) → d ≢ id → d < 2 ^ 64
        → Holds name_in (row z Live (Name d name)) (option_map name_row (named name (names_of (t.nodes d))))
    name-there name short d other fits =
        subst (λ (x : Option (List ℕ)). Holds name_in x (option_map name_row (named name (names_of (t.nodes d)))))
        (sym (row-apart v z (IsApart id) (Name d name) Live r (fits, short-name name short) other))
        (shows.live.names d name fits short)

    cookie-there : (cookie : ℕ) → cookie < 2 ^ 64 → (d : ℕ) → d ≢ id → d < 2 ^ 64
        → Holds cookie_in (row z Live (Cookie d cookie)) (option_map cookie_row (numbered cookie (names_of (t.nodes d))))
    cookie-there cookie fits' d other fits =
        subst (λ (x : Option (List ℕ)). Holds cookie_in x (option_map cookie_row (numbered cookie (names_of (t.nodes d)))))
        (sym (row-apart v z (IsApart id) (Cookie d cookie) Live r (fits, fits') other)) (shows.live.cookies d cookie fits fits')

node-stale : (v z : Versions) (t : Tree) (id : ℕ) (m : Option Node) → Shows v t → Rewrites v z (IsApart id) → NodeHere z t id m
    → MarksStale z
node-stale v z t id m shows r here = record {
  within = λ file index x place is. each-number WithinAt id
      (λ index x place is. here.stale.within index x place is) within-there file index x place is;
  marked = λ file index x place is out. each-number MarkedAt id
      (λ index x place is out. here.stale.marked index x place is out) marked-there file index x place is out;
}
  where
    WithinAt : ℕ → Type 0
    WithinAt file = (index : ℕ) (x : ExtentRow) → IsPlace file index → extent_at z Live file index ≡ Some x
        → IfSome (live_marks z file) (λ m. x.stamp ≤ m.stamp)

    MarkedAt : ℕ → Type 0
    MarkedAt file = (index : ℕ) (x : ExtentRow) → IsPlace file index → extent_at z Live file index ≡ Some x
        → counts_by (live_marks z file) index x ≡ false → row z Live (Stale file) ≢ None

    within-there : (file : ℕ) → file ≢ id → WithinAt file
    within-there file other index x place is =
        subst (λ (o : Option Marks). IfSome o (λ m. x.stamp ≤ m.stamp)) (sym (marks-apart v z id file r place.file_fits other))
        (shows.stale.within file index x place (sym (extent-apart v z id file index r place) ∙ is))

    marked-there : (file : ℕ) → file ≢ id → MarkedAt file
    marked-there file other index x place is out =
        subst (λ (o : Option (List ℕ)). o ≢ None) (sym (row-apart v z (IsApart id) (Stale file) Live r place.file_fits other))
        (shows.stale.marked file index x place (sym (extent-apart v z id file index r place) ∙ is)
        (subst (λ (o : Option Marks). counts_by o index x ≡ false) (marks-apart v z id file r place.file_fits other) out))

node-rows : (v z : Versions) (t : Tree) (id : ℕ) (nodes : Nodes) → Shows v t → Rewrites v z (IsApart id) → ShowsRows z
    (record t { nodes = nodes })
unfolding snapshot_numbered
node-rows v z t id nodes shows r = record {
  first = subst (λ (x : Option (List ℕ)). Holds first_in x (Some (first_of t)))
      (sym (row-apart v z (IsApart id) First Live r tt tt)) shows.rows.first;
  lanes = λ lane low. subst (λ (x : Option (List ℕ)). Holds lane_in x (slice_get t.next_fileids lane))
      (sym (row-apart v z (IsApart id) (Lane lane) Live r low tt)) (shows.rows.lanes lane low);
  snapshots = λ number fits. row-apart v z (IsApart id) (Snapshot number) Live r fits tt ∙ shows.rows.snapshots number fits;
  times = subst (λ (x : Option (List ℕ)). Holds times_in x (Some t.snapshot_times))
      (sym (row-apart v z (IsApart id) Times Live r tt tt)) shows.rows.times;
}

node-within : (v z : Versions) (t : Tree) (id : ℕ) (m : Option Node) (nodes : Nodes) → Shows v t → Rewrites v z (IsApart id)
    → NodeHere z t id m
    → IsWithin z (record t { nodes = nodes })
unfolding is_given
node-within v z t id m nodes shows r here = record {
  extents = λ file index place some.
      shows.within.extents file index place
      (subst (λ (ls : List Life). ls ≢ []) (r.apart (Extent file index) (place.file_fits, place.index_fits) tt) some);
  stale = λ file fits some. each-number StaleAt id (λ fits some. here.stale.given some) stale-there file fits some;
  table = λ k none. r.outside k none ∙ shows.within.table k none;
}
  where
    StaleAt : ℕ → Type 0
    StaleAt file = file < 2 ^ 64 → z.lives (key_of (Stale file)) ≢ [] → is_given t file ≡ true

    stale-there : (file : ℕ) → file ≢ id → StaleAt file
    stale-there file other fits some =
        shows.within.stale file fits (subst (λ (ls : List Life). ls ≢ []) (r.apart (Stale file) fits other) some)

-- the rows of one file were rewritten, and say of its node what it is now
pub node-shown : (v z : Versions) (t : Tree) (id : ℕ) (m : Option Node) → Shows v t → Rewrites v z (IsApart id)
    → NodeHere z t id m
    → Shows z (record t { nodes = with_node id m t.nodes })
node-shown v z t id m shows r here =
    shows-rewritten v z t (with_node id m t.nodes) t.next_fileids (IsApart id) (λ file index. tt) r shows
    (node-rows v z t id (with_node id m t.nodes) shows r) (node-nodes v z t id m shows r here)
    (node-stale v z t id m shows r here)
    (node-within v z t id m (with_node id m t.nodes) shows r here)

-- ---- what stays of a file whose other rows are rewritten

-- names stay where their rows do
pub names-same : (v z : Versions) (t : Tree) (id : ℕ) (names : List NameEntry) → Shows v t → id < 2 ^ 64
    → names ≡ names_of (t.nodes id)
    → ((name : List ℕ) → length name ≤ longest_name → row z Live (Name id name) ≡ row v Live (Name id name))
    → ((cookie : ℕ) → cookie < 2 ^ 64 → row z Live (Cookie id cookie) ≡ row v Live (Cookie id cookie)) → NamesHere z id names
names-same v z t id names shows fits same by_name by_cookie = subst (NamesHere z id) (sym same) (record {
  by_name = λ name short.
      subst (λ (x : Option (List ℕ)). Holds name_in x (option_map name_row (named name (names_of (t.nodes id)))))
      (sym (by_name name short)) (shows.live.names id name fits short);
  by_cookie = λ cookie fits'.
      subst (λ (x : Option (List ℕ)). Holds cookie_in x (option_map cookie_row (numbered cookie (names_of (t.nodes id)))))
      (sym (by_cookie cookie fits')) (shows.live.cookies id cookie fits fits');
})

-- extents count as they did where the marks stay
pub stale-same : (v z : Versions) (t : Tree) (id : ℕ) → Shows v t → id < 2 ^ 64 → Rewrites v z (IsApart id)
    → live_marks z id ≡ live_marks v id → z.lives (key_of (Stale id)) ≡ v.lives (key_of (Stale id)) → StaleHere z t id
stale-same v z t id shows fits r marks stale = record {
  within = λ index x place is.
      subst (λ (o : Option Marks). IfSome o (λ m. x.stamp ≤ m.stamp)) (sym marks)
      (shows.stale.within id index x place (sym (extent-apart v z id id index r place) ∙ is));
  marked = λ index x place is out.
      subst (λ (ls : List Life). seen Live ls ≢ None) (sym stale)
      (shows.stale.marked id index x place (sym (extent-apart v z id id index r place) ∙ is)
      (subst (λ (o : Option Marks). counts_by o index x ≡ false) marks out));
  given = λ some. shows.within.stale id fits (subst (λ (ls : List Life). ls ≢ []) stale some);
}
