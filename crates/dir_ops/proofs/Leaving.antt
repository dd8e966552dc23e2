-- A directory loses a name: what its inode says then, and what its rows do.
use Rattle.std.proofs.Common.{◌≡◌, ℕ, ◌<◌, ◌≤◌, ◌^◌, Bool, true, false, List, length, Option, Some, None}
use Rattle.std.proofs.Common.{refl, sym, ◌∙◌, ap, subst}
use Rattle.std.specs.Prelude.{⊤, All, IsSome, IsSomeAnd, option_map}
use Rattle.nfs3_types.specs.declared.moment.Moment.{Moment}
use Rattle.pair_types.specs.declared.fault.PairFault.TheVariants.{Odd}
use Rattle.pairs.specs.declared.at.At.TheVariants.{Live}
use Rattle.pairs.specs.Versions.{Versions, HasLives, with_put}
use Rattle.pairs.specs.Told.{PairsTold, Goes, Tells, Moves}
use Rattle.fs_rules.specs.declared.inode.Inode.{Inode as Kept}
use Rattle.fs_rules.specs.declared.name_entry.NameEntry.{NameEntry}
use Rattle.fs_rules.specs.Attributes.{size_of}
use Rattle.fs_rules.specs.Edits.{edit_node}
use Rattle.fs_rules.specs.Limits.{longest_name}
use Rattle.fs_rules.specs.Names.{named}
use Rattle.fs_rules.specs.Places.{names_of}
use Rattle.fs_rules.specs.Tree.{Tree, Node}
use Rattle.fs_keys.specs.declared.key_parts.KeyParts.TheVariants.{Inode as InodeKey, Name as NameKey}
use Rattle.fs_keys.specs.declared.inode.Inode.{Inode}
use Rattle.fs_keys.specs.declared.rows.NameRow.{NameRow}
use Rattle.fs_keys.specs.Inodes.{inode_of, value_of}
use Rattle.fs_keys.specs.Keys.{key_of}
use Rattle.fs_keys.specs.Values.{name_in}
use Rattle.fs_shows.specs.Extents.{row}
use Rattle.fs_shows.specs.Nodes.{Holds, IsInodeOf, name_row}
use Rattle.fs_shows.specs.Shows.{Shows}
use Rattle.fs_shows.specs.Steps.{Edits, GivesUpOn}
use Rattle.fs_shows.specs.Views.{IsThere}
use Rattle.fs_shows.proofs.Doing.{Does, KeepsLives, does-tell, does-move, does-then, edits-of, up-odd}
use Rattle.fs_shows.proofs.InodeEdits.{node-held}
use Rattle.fs_shows.proofs.NameLists.{without, IsAlone, alone-names}
use Rattle.fs_shows.proofs.NameEdits.{keeps-no-entry, name-dropped}
use Rattle.fs_shows.proofs.Viewing.{holds-same}
use Rattle.inode_ops.specs.Saving.{Saves}
use Rattle.dir_ops.specs.Directories.{lost_by, lose_entry, CanDrop}
use Rattle.dir_ops.specs.Entries.{without_entry}
use Rattle.dir_ops.proofs.Gaining.{kept_as, NamedAs, as-edited, one-node}

loses : (u : Bool) (now : Moment) (name : List ℕ) (i : Inode) (n : Node) → IsInodeOf i n
    → NamedAs (kept_as i (lost_by u now i.head.kept)) n (lose_entry u name now n) (without name n.names)
unfolding size_of
loses true now name i n is = record {
  is = record { kept = ap (lost_by true now) is.kept; size = is.size; target = is.target };
  bytes = refl;
  names_are = refl;
}
loses false now name i n is = record {
  is = record { kept = ap (lost_by false now) is.kept; size = is.size; target = is.target };
  bytes = refl;
  names_are = refl;
}

lost-cuts : (u : Bool) (now : Moment) (k : Kept) → (lost_by u now k).cuts ≡ k.cuts
lost-cuts true now k = refl
lost-cuts false now k = refl

-- the entry that a row tells of
found-entry : (r : NameRow) (o : Option NameEntry) → Some r ≡ option_map name_row o → (e : NameEntry) × (o ≡ Some e) ×
    (e.cookie ≡ r.cookie)
found-entry r None is = absurd (cc)
found-entry r (Some e) is = (e, refl, ap (λ (x : NameRow). x.cookie) (one (name_row e) r is))
  where
    one : (a b : NameRow) → Some b ≡ Some a → a ≡ b
    one a b e = cc

no-entry : (o : Option NameEntry) → None ≡ option_map name_row o → IsSome o → ⊥
no-entry None is some = cc
no-entry (Some e) is some = cc

pub drop-there : (id : ℕ) (name : List ℕ) (t : Tree) → CanDrop id name t → IsThere id t
drop-there id name t can = subst (λ o. IsSomeAnd o (λ n. ⊤)) (sym can.there) tt

module _ {S W : Type 0} (told : PairsTold S W) (old looked mid new last : S) (id : ℕ) (fits : id < 2 ^ 64) (name : List ℕ)
    (short : length name ≤ longest_name) where
  abbrev pub HoldsName : Option NameRow → Versions → Type 0
  HoldsName r v = Holds name_in (row v Live (NameKey id name)) r

  abbrev pub HoldsInode : Inode → Versions → Type 0
  HoldsInode i v = Holds inode_of (row v Live (InodeKey id)) (Some i)

  named-row : (v : Versions) (t : Tree) (r : Option NameRow) (can : CanDrop id name t) → Shows v t → HoldsName r v
      → r ≡ option_map name_row (named name can.node.names)
  named-row v t r can shows holds =
      holds-same name_in (row v Live (NameKey id name)) r (option_map name_row (named name can.node.names)) holds
      (subst (λ (o : Option Node). Holds name_in (row v Live (NameKey id name))
      (option_map name_row (named name (names_of o)))) can.there
      (shows.live.names id name fits short))

  -- there is no such name
  pub drop-odd : Tells told old looked (HoldsName None) → GivesUpOn told old looked (CanDrop id name) Odd
  drop-odd found =
      up-odd told old looked (λ v. v) (HoldsName None) (CanDrop id name) (does-tell told old looked (HoldsName None) found)
      (λ v t shows holds can. no-entry (named name can.node.names) (named-row v t None can shows holds) can.has)

  pub both-read : (r : NameRow) (i : Inode) → Tells told old looked (HoldsName (Some r)) → Goes told looked mid 0
      → Tells told looked mid (HoldsInode i)
      → Does told old mid (λ v. v) (λ v. HoldsName (Some r) v × HoldsInode i v)
  both-read r i found goes loaded =
      does-then told old looked mid 0 (λ v. v) (λ v. v) (HoldsName (Some r)) (HoldsInode i) (λ v lives. lives) goes
      (does-tell told old looked (HoldsName (Some r)) found) (does-tell told looked mid (HoldsInode i) loaded)

  pub entry-left : (cookie : ℕ) → cookie < 2 ^ 64 → KeepsLives (without_entry id name cookie)
  entry-left cookie fits' = keeps-no-entry id name cookie fits short fits'

  pub left-does : (r : NameRow) (i : Inode) → Does told old mid (λ v. v) (λ v. HoldsName (Some r) v × HoldsInode i v)
      → Goes told mid new 0
      → Moves told mid new HasLives (without_entry id name r.cookie)
      → Does told old new (without_entry id name r.cookie) (λ v. (HoldsName (Some r) v × HoldsInode i v) × ⊤)
  left-does r i read goes moves =
      does-then told old mid new 0 (λ v. v) (without_entry id name r.cookie) (λ v. HoldsName (Some r) v × HoldsInode i v) (λ v. ⊤)
      (λ v lives. lives) goes read (does-move told mid new (without_entry id name r.cookie) moves)

  pub drop-edits : (u : Bool) (now : Moment) (r : NameRow) (i : Inode) (kept : Kept) → r.cookie < 2 ^ 64
      → Does told old new (without_entry id name r.cookie) (λ v. (HoldsName (Some r) v × HoldsInode i v) × ⊤)
      → Goes told new last 1
      → kept ≡ lost_by u now i.head.kept → Saves told new last id (kept_as i kept)
      → Edits told old last (CanDrop id name) (edit_node id (lose_entry u name now))
  drop-edits u now r i kept fits' does goes is saved =
      edits-of told old last (λ v. with_put (key_of (InodeKey id)) (value_of j) (without_entry id name r.cookie v))
      (λ v. ((HoldsName (Some r) v × HoldsInode i v) × ⊤) × ⊤) (CanDrop id name) (edit_node id (lose_entry u name now))
      (does-then told old new last 1 (without_entry id name r.cookie) (with_put (key_of (InodeKey id)) (value_of j))
      (λ v. (HoldsName (Some r) v × HoldsInode i v) × ⊤) (λ v. ⊤) (entry-left r.cookie fits') goes does
      (does-move told new last (with_put (key_of (InodeKey id)) (value_of j)) saves.moves)) shown
    where
      j : Inode
      j = kept_as i (lost_by u now i.head.kept)

      saves : Saves told new last id j
      saves = subst (λ (k : Kept). Saves told new last id (kept_as i k)) is saved

      shown : (v : Versions) (t : Tree) → Shows v t → ((HoldsName (Some r) v × HoldsInode i v) × ⊤) × ⊤ → CanDrop id name t
          → Shows (with_put (key_of (InodeKey id)) (value_of j) (without_entry id name r.cookie v))
          (edit_node id (lose_entry u name now) t)
      shown v t shows holds can =
          let h = node-held v Live id (row v Live (InodeKey id)) i (t.nodes id) holds.0.0.1 (shows.live.inodes id fits) in
          let of : IsInodeOf i can.node = subst (IsInodeOf i) (one-node h.0 can.node (sym h.1 ∙ can.there)) h.2 in
          let g = loses u now name i can.node of in
          let e = found-entry r (named name can.node.names) (named-row v t (Some r) can shows holds.0.0.0) in
          let alone : All (IsAlone name r.cookie) can.node.names =
          subst (λ (k : ℕ). All (IsAlone name k) can.node.names) e.2
          (alone-names 3 can.node.inode.next_cookie can.node.names name e.0 can.distinct can.cookies e.1) in
          as-edited id (lose_entry u name now) can.node t _ can.there
          (name-dropped v t id i j can.node
          (lose_entry u name now can.node) name r.cookie fits short fits' shows can.there alone holds.0.0.1
          (ap (λ (k : ℕ). record { stamp = k; floor = i.head.floor })
          (lost-cuts u now i.head.kept)) g.is g.bytes g.names_are saves.again)
