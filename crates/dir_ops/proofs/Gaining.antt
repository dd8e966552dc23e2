-- A directory gains a name, and loses one: what its inode says then, and what its rows do.
use Rattle.std.proofs.Common.{◌≡◌, ℕ, ◌+◌, ◌<◌, ◌≤◌, ◌^◌, Bool, true, false, if◌then◌else◌, List, [], ◌∷◌, ◌++◌, length, Option}
use Rattle.std.proofs.Common.{Some, None}
use Rattle.std.proofs.Common.{refl, sym, ◌∙◌, ap, subst}
use Rattle.std.specs.Prelude.{⊤, IsSomeAnd, option_map}
use Rattle.nfs3_types.specs.declared.file_type.FileType.{FileType}
use Rattle.nfs3_types.specs.declared.moment.Moment.{Moment}
use Rattle.pair_types.specs.declared.fault.PairFault.TheVariants.{Odd}
use Rattle.pairs.specs.declared.at.At.TheVariants.{Live}
use Rattle.pairs.specs.Versions.{Versions, with_put}
use Rattle.pairs.specs.Told.{PairsTold, Goes, Tells}
use Rattle.fs_rules.specs.declared.inode.Inode.{Inode as Kept}
use Rattle.fs_rules.specs.declared.name_entry.NameEntry.{NameEntry}
use Rattle.fs_rules.specs.Attributes.{is_directory, size_of}
use Rattle.fs_rules.specs.Edits.{touch, add_name, add_link, edit_node, with_node}
use Rattle.fs_rules.specs.Limits.{longest_name}
use Rattle.fs_rules.specs.Making.{gain_name}
use Rattle.fs_rules.specs.Tree.{Tree, Node}
use Rattle.fs_keys.specs.declared.key_parts.KeyParts.TheVariants.{Inode as InodeKey}
use Rattle.fs_keys.specs.declared.inode.Inode.{Inode}
use Rattle.fs_keys.specs.Inodes.{inode_of, value_of}
use Rattle.fs_keys.specs.Keys.{key_of}
use Rattle.fs_shows.specs.Extents.{row}
use Rattle.fs_shows.specs.Nodes.{Holds, IsInodeOf, bytes_of, numbered}
use Rattle.fs_shows.specs.Shows.{Shows}
use Rattle.fs_shows.specs.Steps.{Edits, GivesUpOn}
use Rattle.fs_shows.specs.Views.{IsThere}
use Rattle.fs_shows.proofs.Doing.{Does, KeepsLives, does-tell, does-move, does-then, edits-of, up-odd}
use Rattle.fs_shows.proofs.InodeEdits.{node-held}
use Rattle.fs_shows.proofs.NameLists.{entry_of}
use Rattle.fs_shows.proofs.NameEdits.{keeps-entry, name-added}
use Rattle.inode_ops.specs.Saving.{Saves}
use Rattle.dir_ops.specs.Directories.{gained_by, CanGain, CanAdd}
use Rattle.dir_ops.specs.Entries.{with_entry, PutsEntry}

abbrev pub kept_as : Inode → Kept → Inode
kept_as i kept = record i { head = record i.head { kept = kept } }

-- the node is that of the inode, with the same bytes and these names
pub record NamedAs (j : Inode) (n m : Node) (names : List NameEntry) : Type 0 where
  pub is : IsInodeOf j m
  pub bytes : bytes_of m ≡ bytes_of n
  pub names_are : m.names ≡ names

pub one-node : (a b : Node) → Some a ≡ Some b → a ≡ b
one-node a b e = cc

-- what is shown of a node that is there, edited, is shown of the edit
pub as-edited : (id : ℕ) (edit : Node → Node) (n : Node) (t : Tree) (z : Versions) → t.nodes id ≡ Some n
    → Shows z (record t { nodes = with_node id (Some (edit n)) t.nodes }) → Shows z (edit_node id edit t)
unfolding edit_node
as-edited id edit n t z there shows =
    subst (λ (o : Option Node). Shows z (record t { nodes = with_node id (option_map edit o) t.nodes })) (sym there) shows

-- ---- a name more

abbrev gained_as : Bool → Moment → Kept → Kept
gained_as u now i =
    record i { nlink = if u then i.nlink + 1 else i.nlink; next_cookie = i.next_cookie + 1; mtime = now; ctime = now }

gains-by : (u : Bool) (now : Moment) (name : List ℕ) (fileid : ℕ) (i : Inode) (n : Node) → IsInodeOf i n
    → NamedAs (kept_as i (gained_as u now i.head.kept)) n (touch now (add_name name fileid (if u then add_link n else n)))
    (n.names ++ entry_of i.head.kept.next_cookie name fileid ∷ [])
unfolding size_of
gains-by true now name fileid i n is = record {
  is = record { kept = ap (gained_as true now) is.kept; size = is.size; target = is.target };
  bytes = refl;
  names_are = ap (λ (k : Kept). n.names ++ entry_of k.next_cookie name fileid ∷ []) (sym is.kept);
}
gains-by false now name fileid i n is = record {
  is = record { kept = ap (gained_as false now) is.kept; size = is.size; target = is.target };
  bytes = refl;
  names_are = ap (λ (k : Kept). n.names ++ entry_of k.next_cookie name fileid ∷ []) (sym is.kept);
}

gains : (kind : FileType) (now : Moment) (name : List ℕ) (fileid : ℕ) (i : Inode) (n : Node) → IsInodeOf i n
    → NamedAs (kept_as i (gained_by kind now i.head.kept)) n (gain_name kind name fileid now n)
    (n.names ++ entry_of i.head.kept.next_cookie name fileid ∷ [])
gains kind now name fileid i n is = gains-by (is_directory kind) now name fileid i n is

pub can-there : (id : ℕ) (name : List ℕ) (t : Tree) → CanAdd id name t → IsThere id t
can-there id name t can = subst (λ o. IsSomeAnd o (λ n. ⊤)) (sym can.there) tt

module _ {S W : Type 0} (told : PairsTold S W) (old mid new last : S) (id : ℕ) (fits : id < 2 ^ 64) (name : List ℕ)
    (short : length name ≤ longest_name) (i : Inode) where
  abbrev pub HoldsInode : Versions → Type 0
  HoldsInode v = Holds inode_of (row v Live (InodeKey id)) (Some i)

  pub add-odd : Tells told old mid HoldsInode → (CanGain i.head.kept → ⊥) → GivesUpOn told old mid (CanAdd id name) Odd
  add-odd loaded none =
      up-odd told old mid (λ v. v) HoldsInode (CanAdd id name) (does-tell told old mid HoldsInode loaded)
      (λ v t shows holds can.
      let h = node-held v Live id (row v Live (InodeKey id)) i (t.nodes id) holds (shows.live.inodes id fits) in
      let same : h.0 ≡ can.node = one-node h.0 can.node (sym h.1 ∙ can.there) in
      let kept : i.head.kept ≡ can.node.inode = h.2.kept ∙ ap (λ (n : Node). n.inode) same in
      none (subst CanGain (sym kept) can.room))

  pub entry-does : (fileid : ℕ) (e : PutsEntry told mid new id name
      (record { cookie = i.head.kept.next_cookie; fileid = fileid }))
      → Tells told old mid HoldsInode → Goes told mid new 2
      → Does told old new (with_entry id name i.head.kept.next_cookie e.by_name e.by_cookie) (λ v. HoldsInode v × ⊤)
  entry-does fileid e loaded goes =
      does-then told old mid new 2 (λ v. v) (with_entry id name i.head.kept.next_cookie e.by_name e.by_cookie) HoldsInode (λ v. ⊤)
      (λ v lives. lives) goes (does-tell told old mid HoldsInode loaded) (does-move told mid new _ e.moves)

  pub entry-keeps : (fileid : ℕ) (e : PutsEntry told mid new id name
      (record { cookie = i.head.kept.next_cookie; fileid = fileid }))
      → KeepsLives (with_entry id name i.head.kept.next_cookie e.by_name e.by_cookie)
  entry-keeps fileid e = keeps-entry id name i.head.kept.next_cookie e.by_name e.by_cookie fits short e.fits

  pub add-edits : (kind : FileType) (now : Moment) (fileid : ℕ) (kept : Kept)
      (e : PutsEntry told mid new id name (record { cookie = i.head.kept.next_cookie; fileid = fileid }))
      → Tells told old mid HoldsInode → Goes told mid new 2 → Goes told new last 1 → kept ≡ gained_by kind now i.head.kept
      → Saves told new last id (kept_as i kept) → Edits told old last (CanAdd id name)
      (edit_node id (gain_name kind name fileid now))
  add-edits kind now fileid kept e loaded first second is saved =
      edits-of told old last (λ v. with_put (key_of (InodeKey id)) (value_of j)
      (with_entry id name i.head.kept.next_cookie e.by_name e.by_cookie v))
      (λ v. (HoldsInode v × ⊤) × ⊤) (CanAdd id name) (edit_node id (gain_name kind name fileid now))
      (does-then told old new last 1 (with_entry id name i.head.kept.next_cookie e.by_name e.by_cookie)
      (with_put (key_of (InodeKey id)) (value_of j))
      (λ v. HoldsInode v × ⊤) (λ v. ⊤) (entry-keeps fileid e) second (entry-does fileid e loaded first)
      (does-move told new last (with_put (key_of (InodeKey id)) (value_of j)) saves.moves)) shown
    where
      j : Inode
      j = kept_as i (gained_by kind now i.head.kept)

      saves : Saves told new last id j
      saves = subst (λ (k : Kept). Saves told new last id (kept_as i k)) is saved

      shown : (v : Versions) (t : Tree) → Shows v t → (HoldsInode v × ⊤) × ⊤ → CanAdd id name t
          → Shows (with_put (key_of (InodeKey id)) (value_of j)
          (with_entry id name i.head.kept.next_cookie e.by_name e.by_cookie v))
          (edit_node id (gain_name kind name fileid now) t)
      shown v t shows holds can =
          let h = node-held v Live id (row v Live (InodeKey id)) i (t.nodes id) holds.0.0 (shows.live.inodes id fits) in
          let same : h.0 ≡ can.node = one-node h.0 can.node (sym h.1 ∙ can.there) in
          let of : IsInodeOf i can.node = subst (IsInodeOf i) same h.2 in
          let g = gains kind now name fileid i can.node of in
          edited-shown v t can g.is g.bytes g.names_are of shows holds.0.0
        where
          edited-shown : (v : Versions) (t : Tree) (can : CanAdd id name t) → IsInodeOf j
              (gain_name kind name fileid now can.node)
              → bytes_of (gain_name kind name fileid now can.node) ≡ bytes_of can.node
              → (gain_name kind name fileid now can.node).names ≡ can.node.names ++ entry_of i.head.kept.next_cookie name fileid
              ∷ []
              → IsInodeOf i can.node → Shows v t → HoldsInode v
              → Shows (with_put (key_of (InodeKey id)) (value_of j)
              (with_entry id name i.head.kept.next_cookie e.by_name e.by_cookie v))
              (edit_node id (gain_name kind name fileid now) t)
          edited-shown v t can is bytes names of shows holds =
              as-edited id (gain_name kind name fileid now) can.node t _ can.there
              (name-added v t id i j can.node
              (gain_name kind name fileid now can.node) name i.head.kept.next_cookie fileid e.by_name e.by_cookie
              fits short e.fits shows can.there can.free
              (subst (λ (k : Kept). numbered k.next_cookie can.node.names ≡ None) (sym of.kept) can.fresh)
              e.says_name e.says_cookie holds refl is bytes names saves.again)
