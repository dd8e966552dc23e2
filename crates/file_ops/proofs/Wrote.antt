-- A file that was written: its blocks, and then its inode.
use Rattle.std.proofs.Common.{◌≡◌, inl, ◌∙◌, ℕ, ◌+◌, ◌==◌, ◌<◌, ◌^◌, max, Bool, true, false, if◌then◌else◌}
use Rattle.std.proofs.Common.{List, [], ◌++◌, length, drop, Option, Some, None, refl, sym, ap, subst, arith}
use Rattle.std.proofs.lemmas.Bool.{eqb-true, eq-eqb}
use Rattle.std.proofs.Math.Path.{fun_ext}
use Rattle.std.proofs.lemmas.List.{length-append, length-drop}
use Rattle.std.specs.Prelude.{option_map}
use Rattle.nfs3_types.specs.declared.moment.Moment.{Moment}
use Rattle.pair_types.specs.declared.fault.PairFault.{PairFault}
use Rattle.pair_types.specs.declared.fault.PairFault.TheVariants.{Odd, HeightFull, Page}
use Rattle.pairs.specs.declared.at.At.TheVariants.{Live}
use Rattle.pairs.specs.Versions.{Versions, HasLives, with_put}
use Rattle.pairs.specs.Told.{PairsTold, Goes, Tells, PutGivesUp}
use Rattle.fs_rules.specs.declared.inode.Inode.{Inode as Kept}
use Rattle.fs_rules.specs.Edits.{edit_node, with_node, write_at, written, resized, touch}
use Rattle.fs_rules.specs.Places.{names_of}
use Rattle.fs_rules.specs.Tree.{Tree, Node, Nodes}
use Rattle.fs_keys.specs.declared.key_parts.KeyParts.TheVariants.{Inode as InodeKey}
use Rattle.fs_keys.specs.declared.inode.Head.{Head}
use Rattle.fs_keys.specs.declared.inode.Inode.{Inode}
use Rattle.fs_keys.specs.Inodes.{inode_of, value_of}
use Rattle.fs_keys.specs.Keys.{key_of}
use Rattle.fs_shows.specs.Extents.{row, ShowsContent}
use Rattle.fs_shows.specs.Nodes.{Holds, IsInodeOf, marks_of, target_of}
use Rattle.fs_shows.specs.Shows.{Shows}
use Rattle.fs_shows.specs.Steps.{Edits, EditGivesUp}
use Rattle.fs_shows.proofs.InodeEdits.{node-held}
use Rattle.inode_ops.specs.Saving.{Saves}
use Rattle.inode_ops.proofs.Revising.{some-at}
use Rattle.extent_ops.specs.Steps.{HasBlocks, Makes}
use Rattle.extent_ops.specs.Ranges.{Writes}
use Rattle.extent_ops.proofs.Chaining.{put-gives-up-behind, tells-makes, Stays}
use Rattle.extent_ops.proofs.Changing.{marks_kept}
use Rattle.extent_ops.proofs.Contents.{length-resized, writes_content}
use Rattle.extent_ops.proofs.Keys.{inode-beside}
use Rattle.file_ops.specs.Given.{IsFile, MayFill}
use Rattle.file_ops.specs.Heads.{filled}
use Rattle.file_ops.proofs.Ranged.{file-no-link, file-bytes, file-size}
use Rattle.file_ops.proofs.Remade.{remakes-leaves, marks-said, inode-put}

pub length-written : (offset : ℕ) (bytes content : List ℕ)
    → length (written offset bytes content) ≡ max (length content) (offset + length bytes)
unfolding written
length-written offset bytes content =
    omega (
      arith,
      length-append (resized offset content) (bytes ++ drop (offset + length bytes) content),
      length-resized offset content,
      length-append bytes (drop (offset + length bytes) content),
      length-drop (offset + length bytes) content,
    )

-- a regular file's inode has no path
pub target-same : (n m : Node) → IsFile n → IsFile m → target_of n ≡ target_of m
target-same n m file file' =
    ap (λ (b : Bool). if b then n.content else []) (file-no-link n file)
    ∙ sym (ap (λ (b : Bool). if b then m.content else []) (file-no-link m file'))

-- ---- what is shown

module _ (offset : ℕ) (bytes : List ℕ) (now : Moment) where
  abbrev pub wrote : Node → Node
  wrote n = touch now (record n { content = written offset bytes n.content })

  abbrev pub rewritten : Inode → Inode
  rewritten i = record i { head = filled (offset + length bytes) now i.head }

  some-bytes : 0 < length bytes → (length bytes == 0) ≡ false
  some-bytes some = by_test (length bytes == 0) refl
    where
      by_test : (u : Bool) → (length bytes == 0) ≡ u → u ≡ false
      by_test true is = let none : length bytes ≡ 0 = eqb-true (length bytes) 0 is in absurd (omega arith)
      by_test false is = refl

  pub edit-wrote : (id : ℕ) (t : Tree) → 0 < length bytes → edit_node id wrote t ≡ edit_node id (write_at offset bytes now) t
  edit-wrote id t some =
      sym (ap (λ (b : Bool). edit_node id (λ n. if b then n else wrote n) t) (some-bytes some))

  -- no bytes change nothing
  pub edit-none : (id : ℕ) (t : Tree) → length bytes ≡ 0 → edit_node id (write_at offset bytes now) t ≡ t
  unfolding edit_node with_node
  edit-none id t none =
      ap (λ (b : Bool). edit_node id (λ n. if b then n else wrote n) t) (eq-eqb (length bytes) 0 none)
      ∙ ap (λ (nodes : Nodes). record t { nodes = nodes }) (fun_ext (λ i. same i (i == id) refl))
    where
      same : (i : ℕ) (b : Bool) → (i == id) ≡ b → (if b then option_map (λ n. n) (t.nodes id) else t.nodes i) ≡ t.nodes i
      same i true is = mapped (t.nodes id) ∙ ap t.nodes (sym (eqb-true i id is))
        where
          mapped : (o : Option Node) → option_map (λ n. n) o ≡ o
          mapped None = refl
          mapped (Some n) = refl
      same i false is = refl

  wrote-inode : (i : Inode) (n : Node) → IsFile n → IsInodeOf i n → IsInodeOf (rewritten i) (wrote n)
  wrote-inode i n file is = record {
    kept = ap (λ (k : Kept). let r : Kept = record k { mtime = now; ctime = now } in r) is.kept;
    size = ap (λ (s : ℕ). max s (offset + length bytes)) (is.size ∙ file-size n file (length n.content))
        ∙ sym (length-written offset bytes n.content)
        ∙ sym (file-size (wrote n) file (length (written offset bytes n.content)));
    target = is.target ∙ target-same n (wrote n) file file;
  }

  pub wrote-shown : (v y : Versions) (t : Tree) (id : ℕ) (i : Inode) → id < 2 ^ 64 → Shows v t → MayFill id t
      → Holds inode_of (row v Live (InodeKey id)) (Some i) → Writes id (marks_of i.head) offset (length bytes) bytes v y
      → inode_of (value_of (rewritten i)) ≡ Some (rewritten i)
      → Shows (with_put (key_of (InodeKey id)) (value_of (rewritten i)) y) (edit_node id wrote t)
  unfolding edit_node
  wrote-shown v y t id i fits shows may held writes again =
      let h = node-held v Live id (row v Live (InodeKey id)) i (t.nodes id) held (shows.live.inodes id fits) in
      let file = some-at (t.nodes id) IsFile h.0 h.1 may.file in
      let marks = marks-said v id i held in
      let was = subst (λ (bs : List ℕ). ShowsContent v Live id (marks_of i.head) bs) (file-bytes h.0 file) h.3 in
      let content = writes_content v y id (marks_of i.head) offset bytes h.0.content was writes in
      subst (λ (o : Option Node). Shows (with_put (key_of (InodeKey id)) (value_of (rewritten i)) y)
      (record t { nodes = with_node id (option_map wrote o) t.nodes })) (sym h.1)
      (inode-put v y t id fits shows may.given
      (remakes-leaves id (marks_of i.head) v y fits writes.leaves (λ key beside other. writes.keys key beside))
      (writes.leaves.stale marks shows.stale) (marks_of i.head)
      (marks_kept id v y (writes.keys (key_of (InodeKey id)) (inode-beside id id))
      ∙ marks) (rewritten i) (inl refl) again (wrote h.0)
      (wrote-inode i h.0 file h.2) (sym (ap names_of h.1))
      (subst (λ (bs : List ℕ). ShowsContent y Live id (marks_of i.head) bs) (sym (file-bytes (wrote h.0) file)) content))

-- ---- calls one after another

module _ {S W : Type 0} (told : PairsTold S W) where
  -- a fault where blocks are written
  pub up-blocks : (old new : S) (Given : Tree → Type 0) (fault : PairFault) → PutGivesUp told old new HasBlocks fault
      → EditGivesUp told old new Given fault
  up-blocks old new Given Odd up = λ w t agrees lies is.
      up w lies.versions agrees lies.shown (record { lives = lies.shows.lives; blocks = lies.shows.blocks })
  up-blocks old new Given HeightFull up = up
  up-blocks old new Given (Page fault) up = up

  -- a read, as what it makes of blocks
  pub tells-blocks : (old mid : S) (IsSo : Versions → Type 0) → Tells told old mid IsSo
      → Makes told old mid HasBlocks (λ v z. HasBlocks v × Stays told IsSo v z)
  tells-blocks old mid IsSo tells = λ w v agrees shown has. record {
    versions = v;
    shown = tells.shows w v agrees shown;
    is = (has, record { same = refl; is = tells.finds w v agrees shown has.lives });
  }

  module _ (old mid : S) (IsSo : Versions → Type 0) (before : Goes told old mid 0) (loaded : Tells told old mid IsSo) where
    -- what is made behind a read
    pub makes-read : (new : S) (n : ℕ) (Becomes : Versions → Versions → Type 0) → Goes told mid new n
        → Makes told mid new HasBlocks Becomes → Makes told old new HasBlocks (λ v z. IsSo v × Becomes v z)
    makes-read new n Becomes goes makes = λ w v agrees shown has.
        let a = goes.agreed w agrees in
        let z = makes w v agrees (loaded.shows w v a shown) has in
        record { versions = z.versions; shown = z.shown; is = (loaded.finds w v a shown has.lives, z.is) }

    -- a fault behind a read
    pub up-read-blocks : (new : S) (n : ℕ) (Given : Tree → Type 0) (fault : PairFault) → Goes told mid new n
        → PutGivesUp told mid new HasBlocks fault → EditGivesUp told old new Given fault
    up-read-blocks new n Given fault goes up =
        up-blocks old new Given fault
        (put-gives-up-behind told old mid new 0 n HasBlocks HasBlocks (Stays told IsSo) fault before goes
        (tells-makes told old mid HasBlocks IsSo (λ v has. has.lives) loaded)
        (λ v y has stays. subst HasBlocks (sym stays.same) has) up)

  -- the inode that was saved has this head
  pub saves-so : (old new : S) (id : ℕ) (i : Inode) (h head : Head) → h ≡ head → Saves told old new id (record i { head = h })
      → Saves told old new id (record i { head = head })
  saves-so old new id i h head same saves = subst (λ (h : Head). Saves told old new id (record i { head = h })) same saves

  -- an inode is saved behind what was made
  module _ (old mid new : S) (m : ℕ) (id : ℕ) (j : Inode) (Becomes : Versions → Versions → Type 0) (before : Goes told old mid m)
      (goes : Goes told mid new 1) (makes : Makes told old mid HasBlocks Becomes)
      (has : (v y : Versions) → Becomes v y → HasLives y) where
    pub saved-behind : (Given : Tree → Type 0) (edit : Tree → Tree) → Saves told mid new id j
        → ((v y : Versions) (t : Tree) → Shows v t → Becomes v y → Given t
        → Shows (with_put (key_of (InodeKey id)) (value_of j) y) (edit t))
        → Edits told old new Given edit
    saved-behind Given edit saves shows = λ w t agrees lies is.
        let y = makes w lies.versions (goes.agreed w agrees) lies.shown
        (record { lives = lies.shows.lives; blocks = lies.shows.blocks }) in
        record {
          versions = with_put (key_of (InodeKey id)) (value_of j) y.versions;
          shown = saves.moves w y.versions agrees y.shown (has lies.versions y.versions y.is);
          shows = shows lies.versions y.versions t lies.shows y.is is;
        }

    pub up-saved : (Given : Tree → Type 0) (fault : PairFault) → PutGivesUp told mid new HasLives fault
        → EditGivesUp told old new Given fault
    up-saved Given fault up =
        up-blocks old new Given fault
        (put-gives-up-behind told old mid new m 1 HasBlocks HasLives Becomes fault before goes makes
        (λ v y given is. has v y is) up)
