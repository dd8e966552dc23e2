-- A file that got a size: it was cut, or filled up with zeros.
use Rattle.std.proofs.Common.{◌≡◌, inl, inr, ◌∙◌, ℕ, ◌+◌, ◌<◌, ◌≤◌, ◌^◌, nat_lt, Bool, true, false, if◌then◌else◌}
use Rattle.std.proofs.Common.{List, [], ◌++◌, length, drop, Option, Some, refl, sym, ap, subst, arith}
use Rattle.std.proofs.lemmas.Grind.{common_steps}
use Rattle.std.proofs.lemmas.List.{ext_get_or, length-drop}
use Rattle.std.specs.Prelude.{option_map}
use Rattle.pair_types.specs.declared.fault.PairFault.TheVariants.{Odd}
use Rattle.pairs.specs.declared.at.At.TheVariants.{Live}
use Rattle.pairs.specs.Versions.{Versions, with_put}
use Rattle.pairs.specs.Told.{PairsTold, Goes, Tells}
use Rattle.fs_rules.specs.declared.inode.Inode.{Inode as Kept}
use Rattle.fs_rules.specs.Edits.{edit_node, with_node, set_size, written, resized}
use Rattle.fs_rules.specs.Limits.{most_numbers}
use Rattle.fs_rules.specs.Places.{names_of}
use Rattle.fs_rules.specs.Tree.{Tree, Node}
use Rattle.fs_keys.specs.declared.key_parts.KeyParts.TheVariants.{Inode as InodeKey}
use Rattle.fs_keys.specs.declared.inode.Inode.{Inode}
use Rattle.fs_keys.specs.Inodes.{inode_of, value_of}
use Rattle.fs_keys.specs.Keys.{key_of}
use Rattle.fs_shows.specs.Extents.{Marks, row, ShowsContent}
use Rattle.fs_shows.specs.Nodes.{Holds, IsInodeOf, marks_of}
use Rattle.fs_shows.specs.Shows.{Shows}
use Rattle.fs_shows.specs.Steps.{GivesUpOn}
use Rattle.fs_shows.proofs.Doing.{does-tell, up-odd}
use Rattle.fs_shows.proofs.InodeEdits.{node-held}
use Rattle.inode_ops.proofs.Revising.{some-at}
use Rattle.extent_ops.specs.Steps.{HasBlocks}
use Rattle.extent_ops.specs.Cuts.{Cuts, Sweeps}
use Rattle.extent_ops.proofs.Changing.{marks_kept}
use Rattle.extent_ops.proofs.Chaining.{tells-both}
use Rattle.extent_ops.proofs.Contents.{length-resized, writes_content, cuts_content}
use Rattle.extent_ops.proofs.Keys.{inode-beside, inode-not_stale}
use Rattle.extent_ops.proofs.Overlaying.{writes_none}
use Rattle.file_ops.specs.Given.{IsFile, MayFill, MaySize}
use Rattle.file_ops.specs.Heads.{grown, cut}
use Rattle.file_ops.specs.Sizes.{Waits}
use Rattle.file_ops.proofs.Ranged.{file-bytes, file-size}
use Rattle.file_ops.proofs.Remade.{remakes-none, remakes-leaves, marks-said, inode-put}
use Rattle.file_ops.proofs.Wrote.{target-same}

nothing-behind : (size : ℕ) (content : List ℕ) → length content ≤ size → drop (size + length {A = ℕ} []) content ≡ []
nothing-behind size content long =
    ext_get_or 0 (drop (size + length {A = ℕ} []) content) [] (omega (arith, length-drop (size + length {A = ℕ} []) content))
    (λ k less. absurd (omega (arith, less, length-drop (size + length {A = ℕ} []) content)))

-- what is filled up is written at its end, with no bytes
filled-up : (size : ℕ) (content : List ℕ) → length content ≤ size → written size [] content ≡ resized size content
unfolding written
filled-up size content long =
    ap (λ (rest : List ℕ). resized size content ++ ([] ++ rest)) (nothing-behind size content long)
    ∙ append-nil (resized size content)
  where
    append-nil : (xs : List ℕ) → xs ++ ([] ++ []) ≡ xs
    append-nil xs = grind (arith, common_steps)

module _ (size : ℕ) where
  -- the node of a file that was not cut, and of one that was
  abbrev pub longer : Node → Node
  longer n = record n { content = resized size n.content }

  abbrev pub shorter : Node → Node
  shorter n = record n { inode = record n.inode { cuts = n.inode.cuts + 1 }; content = resized size n.content }

  abbrev by_cut : Node → Bool → Node
  by_cut n is_cut = record n {
    inode = record n.inode { cuts = if is_cut then n.inode.cuts + 1 else n.inode.cuts };
    content = resized size n.content;
  }

  set-longer : (n : Node) → length n.content ≤ size → longer n ≡ set_size size n
  unfolding set_size
  set-longer n long =
      let t : nat_lt size (length n.content) ≡ false = grind (arith, common_steps) in
      ap (λ (b : Bool). by_cut n b) (sym t)

  set-shorter : (n : Node) → size < length n.content → shorter n ≡ set_size size n
  unfolding set_size
  set-shorter n short =
      let t : nat_lt size (length n.content) ≡ true = grind (arith, common_steps) in
      ap (λ (b : Bool). by_cut n b) (sym t)

  sized-inode : (i j : Inode) (n m : Node) → IsFile n → IsFile m → IsInodeOf i n → j.head.kept ≡ m.inode → j.head.size ≡ size
      → j.target ≡ i.target → m.content ≡ resized size n.content → IsInodeOf j m
  sized-inode i j n m file file' is kept long target content = record {
    kept = kept;
    size = long ∙ sym (length-resized size n.content) ∙ ap (λ (bs : List ℕ). length bs) (sym content)
        ∙ sym (file-size m file' (length m.content));
    target = target ∙ is.target ∙ target-same n m file file';
  }

  module _ (v : Versions) (t : Tree) (id : ℕ) (i : Inode) (fits : id < 2 ^ 64) (shows : Shows v t) (may : MayFill id t)
      (held : Holds inode_of (row v Live (InodeKey id)) (Some i)) where
    abbrev longer-inode : Inode
    longer-inode = record i { head = grown size i.head }

    abbrev shorter-inode : Inode
    shorter-inode = record i { head = cut size i.head }

    pub grown-shown : i.head.size ≤ size → inode_of (value_of longer-inode) ≡ Some longer-inode
        → Shows (with_put (key_of (InodeKey id)) (value_of longer-inode) v) (edit_node id (set_size size) t)
    unfolding edit_node
    grown-shown long again =
        let h = node-held v Live id (row v Live (InodeKey id)) i (t.nodes id) held (shows.live.inodes id fits) in
        let n = h.0 in
        let file = some-at (t.nodes id) IsFile n h.1 may.file in
        let has : HasBlocks v = record { lives = shows.lives; blocks = shows.blocks } in
        let size-is : i.head.size ≡ length n.content = h.2.size ∙ file-size n file (length n.content) in
        let longer-is : length n.content ≤ size = omega (arith, size-is, long) in
        let was = subst (λ (bs : List ℕ). ShowsContent v Live id (marks_of i.head) bs) (file-bytes n file) h.3 in
        let content = subst (λ (bs : List ℕ). ShowsContent v Live id (marks_of i.head) bs) (filled-up size n.content longer-is)
        (writes_content v v id (marks_of i.head) size [] n.content was (writes_none id (marks_of i.head) size [] v has)) in
        subst (λ (o : Option Node). Shows (with_put (key_of (InodeKey id)) (value_of longer-inode) v)
        (record t { nodes = with_node id (option_map (set_size size) o) t.nodes })) (sym h.1)
        (subst (λ (m : Node). Shows (with_put (key_of (InodeKey id)) (value_of longer-inode) v)
        (record t { nodes = with_node id (Some m) t.nodes })) (set-longer n longer-is)
        (inode-put v v t id fits shows may.given (remakes-none id v has) shows.stale (marks_of i.head) (marks-said v id i held)
        longer-inode (inl refl) again (longer n)
        (sized-inode i longer-inode n (longer n) file file h.2 h.2.kept refl refl refl)
        (sym (ap names_of h.1))
        (subst (λ (bs : List ℕ). ShowsContent v Live id (marks_of i.head) bs) (sym (file-bytes (longer n) file)) content)))

    pub cut-shown : (y : Versions) → size < i.head.size → Cuts id (marks_of i.head) size v y
        → inode_of (value_of shorter-inode) ≡ Some shorter-inode
        → Shows (with_put (key_of (InodeKey id)) (value_of shorter-inode) y) (edit_node id (set_size size) t)
    unfolding edit_node
    cut-shown y short cuts again =
        let h = node-held v Live id (row v Live (InodeKey id)) i (t.nodes id) held (shows.live.inodes id fits) in
        let n = h.0 in
        let file = some-at (t.nodes id) IsFile n h.1 may.file in
        let size-is : i.head.size ≡ length n.content = h.2.size ∙ file-size n file (length n.content) in
        let shorter-is : size < length n.content = omega (arith, size-is, short) in
        let marks = marks-said v id i held in
        let was = subst (λ (bs : List ℕ). ShowsContent v Live id (marks_of i.head) bs) (file-bytes n file) h.3 in
        let content = cuts_content v y id (marks_of i.head) size n.content marks shows.stale was cuts in
        subst (λ (o : Option Node). Shows (with_put (key_of (InodeKey id)) (value_of shorter-inode) y)
        (record t { nodes = with_node id (option_map (set_size size) o) t.nodes })) (sym h.1)
        (subst (λ (m : Node). Shows (with_put (key_of (InodeKey id)) (value_of shorter-inode) y)
        (record t { nodes = with_node id (Some m) t.nodes })) (set-shorter n shorter-is)
        (inode-put v y t id fits shows may.given
        (remakes-leaves id (marks_of i.head) v y fits cuts.leaves (λ key beside other. cuts.keys key beside other))
        (cuts.leaves.stale marks shows.stale) (marks_of i.head)
        (marks_kept id v y (cuts.keys (key_of (InodeKey id)) (inode-beside id id) (inode-not_stale id id)) ∙ marks)
        shorter-inode (inr (more i.head.kept.cuts, cuts.marked)) again (shorter n)
        (sized-inode i shorter-inode n (shorter n) file file h.2
        (ap (λ (k : Kept). let r : Kept = record k { cuts = k.cuts + 1 } in r) h.2.kept) refl refl refl)
        (sym (ap names_of h.1))
        (subst (λ (bs : List ℕ). ShowsContent y Live id (marks_of shorter-inode.head) bs) (sym (file-bytes (shorter n) file))
        content)))
      where
        more : (n : ℕ) → n ≤ n + 1
        more n = omega arith

-- ---- why it gives up, and what it waits for

over : (cuts : ℕ) → cuts < most_numbers → 2 ^ 64 ≤ cuts + 1 → ⊥
unfolding most_numbers
over cuts few many = omega (arith, few, many)

module _ {S W : Type 0} (told : PairsTold S W) (old mid : S) (id size : ℕ) (i : Inode) (fits : id < 2 ^ 64)
    (loaded : Tells told old mid (λ v. Holds inode_of (row v Live (InodeKey id)) (Some i))) where
  pub cuts-odd : 2 ^ 64 ≤ i.head.kept.cuts + 1 → GivesUpOn told old mid (MaySize id) Odd
  cuts-odd many =
      up-odd told old mid (λ v. v) (λ v. Holds inode_of (row v Live (InodeKey id)) (Some i)) (MaySize id)
      (does-tell told old mid (λ v. Holds inode_of (row v Live (InodeKey id)) (Some i)) loaded)
      (λ v t shows held may.
      let h = node-held v Live id (row v Live (InodeKey id)) i (t.nodes id) held (shows.live.inodes id fits) in
      over i.head.kept.cuts
      (subst (λ (k : Kept). k.cuts < most_numbers) (sym h.2.kept)
      (some-at (t.nodes id) (λ n. n.inode.cuts < most_numbers) h.0 h.1 may.cuts)) many)

  pub waits-told : (new : S) (m : Marks) → m ≡ marks_of i.head → size < i.head.size → Goes told mid new 2
      → Tells told mid new (Sweeps id m size true) → Tells told old new (Waits id size)
  waits-told new m marks falls goes waits =
      tells-both told old mid new 2 (λ v. Holds inode_of (row v Live (InodeKey id)) (Some i)) (Sweeps id m size true)
      (Waits id size) goes loaded waits
      (λ v held sweeps. record {
        inode = i;
        said = held;
        falls = falls;
        sweeps = subst (λ (m : Marks). Sweeps id m size true v) marks sweeps;
      })
