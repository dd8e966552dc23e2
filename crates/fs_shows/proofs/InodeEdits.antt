-- A node whose inode alone is another one now.
use Rattle.std.proofs.Common.{◌≡◌, ◌≢◌, ℕ, ◌<◌, ◌≤◌, ◌^◌, if◌then◌else◌, List, [], Option, Some, None, refl, sym, ◌∙◌, ap, subst}
use Rattle.std.specs.Prelude.{⊤, option_map, option_and_then, length, IsSome}
use Rattle.nfs3_types.specs.declared.file_type.FileType.{FileType}
use Rattle.pairs.specs.declared.at.At.{At}
use Rattle.pairs.specs.declared.at.At.TheVariants.{Live, Snap}
use Rattle.pairs.specs.Versions.{Versions, HasLives, with_put}
use Rattle.fs_rules.specs.declared.inode.Inode.{Inode as Kept}
use Rattle.fs_rules.specs.Attributes.{is_link, is_directory, size_of}
use Rattle.fs_rules.specs.Edits.{with_node, edit_node}
use Rattle.fs_rules.specs.Names.{named}
use Rattle.fs_rules.specs.Places.{names_of}
use Rattle.fs_rules.specs.Tree.{Tree, Nodes, Node}
use Rattle.fs_rules.specs.declared.name_entry.NameEntry.{NameEntry}
use Rattle.fs_keys.specs.declared.key_parts.KeyParts.TheVariants.{First, Inode, Name, Cookie, Extent, Stale}
use Rattle.fs_keys.specs.declared.inode.Inode.{Inode as InodeRow}
use Rattle.fs_keys.specs.Inodes.{inode_of, value_of}
use Rattle.fs_keys.specs.Keys.{Parts, HasBounds, key_of}
use Rattle.fs_keys.specs.Values.{name_in, cookie_in}
use Rattle.fs_shows.specs.Extents.{Marks, row, ShowsContent}
use Rattle.fs_shows.specs.Nodes.{Holds, ShowsInode, ShowsNode, IsInodeOf, marks_of, bytes_of, target_of, name_row, cookie_row}
use Rattle.fs_shows.specs.Nodes.{numbered}
use Rattle.fs_shows.specs.Shows.{Shows, live_marks, counts_by}
use Rattle.fs_shows.proofs.Apart.{Differ, short-name, keys-apart, IsApart, IsOf}
use Rattle.fs_shows.proofs.Rewriting.{Rewrites, rewrites-none, row-put, row-put-other, lives-put-other, row-apart}
use Rattle.fs_shows.proofs.Rewriting.{content-carried, bytes-carried}
use Rattle.fs_shows.proofs.NodeEdits.{NodeHere, NamesHere, StaleHere, node-shown, rewrites-own-put, names-same, stale-same}

-- a node as another inode has it, its bytes and names as they are
pub record Revises (j : InodeRow) (n m : Node) : Type 0 where
  pub is : IsInodeOf j m
  pub bytes : bytes_of m ≡ bytes_of n
  pub names : m.names ≡ n.names

-- what is kept of a file may change, but for its kind and how often it was cut
pub record KeepsFile (f : Kept → Kept) : Type 0 where
  pub kind : (k : Kept) → (f k).kind ≡ k.kind
  pub cuts : (k : Kept) → (f k).cuts ≡ k.cuts

abbrev pub revised : (Kept → Kept) → InodeRow → InodeRow
revised f i = record i { head = record i.head { kept = f i.head.kept } }

abbrev pub revise : (Kept → Kept) → Node → Node
revise f n = record n { inode = f n.inode }

pub revises-kept : (f : Kept → Kept) → KeepsFile f → (i : InodeRow) (n : Node) → IsInodeOf i n → Revises (revised f i) n
    (revise f n)
unfolding size_of
revises-kept f keeps i n is = record {
  is = record {
    kept = ap f is.kept;
    size = is.size ∙ ap (λ (k : FileType). if is_directory k then 4096 else length n.content) (sym (keeps.kind n.inode));
    target = is.target ∙ ap (λ (k : FileType). if is_link k then n.content else []) (sym (keeps.kind n.inode));
  };
  bytes = ap (λ (k : FileType). if is_link k then [] else n.content) (keeps.kind n.inode);
  names = refl;
}

-- the node whose inode a record holds
pub node-held : (v : Versions) (at : At) (id : ℕ) (value : Option (List ℕ)) (i : InodeRow) (n : Option Node)
    → Holds inode_of value (Some i)
    → ShowsInode v at id value n → (m : Node) × (n ≡ Some m) × IsInodeOf i m × ShowsContent v at id (marks_of i.head) (bytes_of m)
node-held v at id None i n held shows = absurd held
node-held v at id (Some value) i None held shows = absurd shows
node-held v at id (Some value) i (Some m) held shows =
    let same : shows.inode ≡ i = one (inode_of value) shows.inode i shows.said held in (
      m,
      refl,
      subst (λ (j : InodeRow). IsInodeOf j m) same shows.is,
      subst (λ (j : InodeRow). ShowsContent v at id (marks_of j.head) (bytes_of m)) same shows.content,
    )
  where
    one : (o : Option InodeRow) (j i : InodeRow) → o ≡ Some j → o ≡ Some i → j ≡ i
    one o j i p q = cc

marks-held : (value : Option (List ℕ)) (i : InodeRow) → Holds inode_of value (Some i)
    → option_map (λ (i : InodeRow). marks_of i.head) (option_and_then inode_of value) ≡ Some (marks_of i.head)
marks-held None i held = absurd held
marks-held (Some value) i held = ap (option_map (λ (i : InodeRow). marks_of i.head)) held

pub inode-first : (id : ℕ) → Differ First (Inode id)
inode-first id is = cc

pub inode-apart-name : (id directory : ℕ) (name : List ℕ) → Differ (Name directory name) (Inode id)
inode-apart-name id directory name is = cc

pub inode-apart-cookie : (id directory cookie : ℕ) → Differ (Cookie directory cookie) (Inode id)
inode-apart-cookie id directory cookie is = cc

pub inode-apart-stale : (id file : ℕ) → Differ (Stale file) (Inode id)
inode-apart-stale id file is = cc

pub inode-apart-extent : (id file index : ℕ) → Differ (Extent file index) (Inode id)
inode-apart-extent id file index is = cc

-- An inode is saved behind other rows of its file: the tree shows it, with the bytes that were there and the names that its
-- rows say.
pub node-saved : (v y : Versions) (t : Tree) (id : ℕ) (i j : InodeRow) (n m : Node) → id < 2 ^ 64 → Shows v t
    → t.nodes id ≡ Some n
    → Rewrites v y (IsApart id) → y.lives (key_of (Stale id)) ≡ v.lives (key_of (Stale id))
    → Holds inode_of (row v Live (Inode id)) (Some i) → marks_of j.head ≡ marks_of i.head → IsInodeOf j m
    → bytes_of m ≡ bytes_of n
    → inode_of (value_of j) ≡ Some j → NamesHere (with_put (key_of (Inode id)) (value_of j) y) id m.names
    → Shows (with_put (key_of (Inode id)) (value_of j) y) (record t { nodes = with_node id (Some m) t.nodes })
node-saved v y t id i j n m fits shows there before stale held marks is same_bytes again names = node-shown v z t id
    (Some m) shows r here
  where
    z : Versions
    z = with_put (key_of (Inode id)) (value_of j) y

    r : Rewrites v z (IsApart id)
    r = rewrites-own-put id (Inode id) (value_of j) v y fits refl before

    now : row z Live (Inode id) ≡ Some (value_of j)
    now = row-put (Inode id) (value_of j) y fits (inode-first id) before.lives

    was : ShowsInode v Live id (row v Live (Inode id)) (Some n)
    was = subst (λ (o : Option Node). ShowsInode v Live id (row v Live (Inode id)) o) there (shows.live.inodes id fits)

    bytes : ShowsContent v Live id (marks_of i.head) (bytes_of n)
    bytes =
        let h = node-held v Live id (row v Live (Inode id)) i (Some n) held was in
        subst (λ (x : Node). ShowsContent v Live id (marks_of i.head) (bytes_of x)) (one h.0 n h.1) h.3
      where
        one : (a b : Node) → Some b ≡ Some a → a ≡ b
        one a b e = cc

    content : ShowsContent z Live id (marks_of j.head) (bytes_of m)
    content =
        content-carried v z Live id (marks_of j.head) (bytes_of m)
        (bytes-carried v z Live id fits r.stores_are r.blocks_are
        (λ index less. row-apart v z (IsApart id) (Extent id index) Live r (fits, less) tt)
        (marks_of j.head))
        (subst (λ (k : Marks). ShowsContent v Live id k (bytes_of m)) (sym marks)
        (subst (λ (bs : List ℕ). ShowsContent v Live id (marks_of i.head) bs) (sym same_bytes) bytes))

    same-marks : live_marks z id ≡ live_marks v id
    same-marks =
        marks-held (row z Live (Inode id)) j (subst (λ (x : Option (List ℕ)). Holds inode_of x (Some j)) (sym now) again)
        ∙ ap (λ (k : Marks). Some k) marks
        ∙ sym (marks-held (row v Live (Inode id)) i held)

    here : NodeHere z t id (Some m)
    here = record {
      inode = subst (λ (x : Option (List ℕ)). ShowsInode z Live id x (Some m)) (sym now)
          (record { inode = j; said = again; is = is; content = content });
      names = names;
      stale = stale-same v z t id shows fits r same-marks
          (lives-put-other (key_of (Inode id)) (value_of j) (key_of (Stale id)) y
          (keys-apart (Inode id) (Stale id) fits fits (inode-apart-stale id id))
          ∙ stale);
    }

-- an inode is saved: the tree shows it, with the content and names that were there
pub inode-saved : (v : Versions) (t : Tree) (id : ℕ) (i j : InodeRow) (n m : Node) → id < 2 ^ 64 → Shows v t → t.nodes id ≡ Some n
    → Holds inode_of (row v Live (Inode id)) (Some i) → marks_of j.head ≡ marks_of i.head → Revises j n m
    → inode_of (value_of j) ≡ Some j
    → Shows (with_put (key_of (Inode id)) (value_of j) v) (record t { nodes = with_node id (Some m) t.nodes })
inode-saved v t id i j n m fits shows there held marks revises again =
    node-saved v v t id i j n m fits shows there
    (rewrites-none v (IsApart id) shows.lives) refl held marks revises.is revises.bytes again
    (names-same v z t id m.names shows fits (revises.names ∙ sym (ap names_of there))
    (λ name short. row-put-other (Inode id) (Name id name) (value_of j) v Live fits (fits, short-name name short)
    (inode-apart-name id id name))
    (λ cookie fits'. row-put-other (Inode id) (Cookie id cookie) (value_of j) v Live fits (fits, fits')
    (inode-apart-cookie id id cookie)))
  where
    z : Versions
    z = with_put (key_of (Inode id)) (value_of j) v

-- the same, as an edit of the node that is there
pub inode-edited : (v : Versions) (t : Tree) (id : ℕ) (i j : InodeRow) (edit : Node → Node) → id < 2 ^ 64 → Shows v t
    → Holds inode_of (row v Live (Inode id)) (Some i) → marks_of j.head ≡ marks_of i.head
    → ((n : Node) → t.nodes id ≡ Some n → IsInodeOf i n → Revises j n (edit n)) → inode_of (value_of j) ≡ Some j
    → Shows (with_put (key_of (Inode id)) (value_of j) v) (edit_node id edit t)
unfolding edit_node
inode-edited v t id i j edit fits shows held marks revises again =
    let h = node-held v Live id (row v Live (Inode id)) i (t.nodes id) held (shows.live.inodes id fits) in
    subst (λ (o : Option Node). Shows (with_put (key_of (Inode id)) (value_of j) v)
    (record t { nodes = with_node id (option_map edit o) t.nodes }))
    (sym h.1)
    (inode-saved v t id i j h.0 (edit h.0) fits shows h.1 held marks (revises h.0 h.1 h.2) again)
