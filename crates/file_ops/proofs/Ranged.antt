-- A range of a file that was read, as the tree has it; and what is known of a regular file's node.
use Rattle.std.proofs.Common.{◌≡◌, ◌∙◌, ℕ, ◌+◌, ◌-◌, ◌==◌, ◌<◌, ◌^◌, min, Bool, false, if◌then◌else◌, List, [], length, take}
use Rattle.std.proofs.Common.{drop}
use Rattle.std.proofs.Common.{Option, Some, None, sym, ap, subst, arith}
use Rattle.std.proofs.lemmas.Bool.{eqb-true}
use Rattle.std.proofs.lemmas.List.{length-take, length-drop, get_or-take, get_or-drop, ext_get_or}
use Rattle.std.specs.Prelude.{IsSomeAnd}
use Rattle.nfs3_types.specs.FileTypes.{type_number}
use Rattle.pair_types.specs.declared.fault.PairFault.TheVariants.{Odd}
use Rattle.pairs.specs.declared.at.At.{At}
use Rattle.pairs.specs.Versions.{Versions}
use Rattle.pairs.specs.Told.{PairsTold, Goes, Tells}
use Rattle.fs_rules.specs.Attributes.{is_directory, is_link, size_of}
use Rattle.fs_rules.specs.Places.{content_at, content_of, node_at}
use Rattle.fs_rules.specs.Tree.{Node}
use Rattle.fs_keys.specs.declared.key_parts.KeyParts.TheVariants.{Inode as InodeKey}
use Rattle.fs_keys.specs.declared.inode.Inode.{Inode}
use Rattle.fs_keys.specs.Inodes.{inode_of}
use Rattle.fs_shows.specs.Extents.{Marks, row, ShowsContent}
use Rattle.fs_shows.specs.Nodes.{Holds, marks_of, bytes_of}
use Rattle.fs_shows.specs.Shows.{KeepsBlocks}
use Rattle.fs_shows.specs.Steps.{Reads, GivesUpOn}
use Rattle.fs_shows.specs.Views.{place_in, IsKept, IsFoundAs}
use Rattle.fs_shows.proofs.Doing.{reads-of}
use Rattle.fs_shows.proofs.InodeEdits.{node-held}
use Rattle.fs_shows.proofs.Viewing.{view-shown}
use Rattle.inode_ops.proofs.Revising.{some-at}
use Rattle.extent_ops.specs.Ranges.{ReadsBytes}
use Rattle.extent_ops.proofs.Chaining.{tells-both}
use Rattle.file_ops.specs.Given.{IsFile, HasFile}

-- ---- the node of a regular file

module _ (n : Node) (file : IsFile n) where
  number-is : type_number n.inode.kind ≡ 1
  number-is = eqb-true (type_number n.inode.kind) 1 file

  pub file-no-directory : is_directory n.inode.kind ≡ false
  file-no-directory = ap (λ (k : ℕ). k == 2) number-is

  pub file-no-link : is_link n.inode.kind ≡ false
  file-no-link = ap (λ (k : ℕ). k == 5) number-is

  pub file-bytes : bytes_of n ≡ n.content
  file-bytes = ap (λ (b : Bool). if b then [] else n.content) file-no-link

  pub file-size : (length : ℕ) → size_of n.inode length ≡ length
  unfolding size_of
  file-size length = ap (λ (b : Bool). if b then 4096 else length) file-no-directory

-- ---- ranges

-- the range is that part of the content, cut at its end
ranged : (v : Versions) (at : At) (id : ℕ) (m : Marks) (offset count size : ℕ) (room content : List ℕ) → KeepsBlocks v
    → size ≡ length content → size < 2 ^ 64 → length room ≡ min count (size - offset) → ShowsContent v at id m content
    → ReadsBytes at id m offset (length room) room v → room ≡ take count (drop offset content)
ranged v at id m offset count size room content keeps long fits is was reads =
    ext_get_or 0 room (take count (drop offset content))
    (omega (arith, length-take count (drop offset content), length-drop offset content))
    (λ k less. reads.bytes keeps k less ∙ sym (was.bytes (offset + k) (omega arith))
    ∙ sym (get_or-take count (drop offset content) k 0 (omega arith) ∙ get_or-drop offset content k 0))

module _ {S W : Type 0} (told : PairsTold S W) (old mid new : S) (at : At) (id : ℕ) (fits : id < 2 ^ 64) (i : Inode)
    (loaded : Tells told old mid (λ v. Holds inode_of (row v at (InodeKey id)) (Some i))) where
  pub range-reads : (offset count : ℕ) (m : Marks) (room : List ℕ) → m ≡ marks_of i.head → i.head.size < 2 ^ 64
      → length room ≡ min count (i.head.size - offset) → Goes told mid new 0
      → Tells told mid new (ReadsBytes at id m offset (length room) room)
      → Reads told old new (HasFile at id) (λ t. room ≡ take count (drop offset (content_at t (place_in at id))))
  range-reads offset count m room marks small is goes reads =
      reads-of told old new (λ v. Holds inode_of (row v at (InodeKey id)) (Some i) × ReadsBytes at id m offset (length room) room
      v)
      (HasFile at id) (λ t. room ≡ take count (drop offset (content_at t (place_in at id))))
      (tells-both told old mid new 0 (λ v. Holds inode_of (row v at (InodeKey id)) (Some i))
      (ReadsBytes at id m offset (length room) room)
      (λ v. Holds inode_of (row v at (InodeKey id)) (Some i) × ReadsBytes at id m offset (length room) room v) goes loaded reads
      (λ v first next. (first, next)))
      (λ v t shows found given.
      let h = node-held v at id (row v at (InodeKey id)) i (node_at t (place_in at id)) found.0
      ((view-shown v t at shows given.kept).inodes id fits) in
      let file = some-at (node_at t (place_in at id)) IsFile h.0 h.1 given.file in
      let content = subst (λ (k : Marks). ShowsContent v at id k h.0.content) (sym marks)
      (subst (λ (bs : List ℕ). ShowsContent v at id (marks_of i.head) bs) (file-bytes h.0 file) h.3) in
      ranged v at id m offset count i.head.size room h.0.content shows.blocks
      (h.2.size ∙ file-size h.0 file (length h.0.content)) small is content found.1
      ∙ ap (λ (o : Option Node). take count (drop offset (content_of o))) (sym h.1))

-- there is no inode
pub absent-odd : {S W : Type 0} (told : PairsTold S W) (old mid : S) (at : At) (id : ℕ) (found : Option Inode) → found ≡ None
    → Reads told old mid (IsKept at) (λ t. IsFoundAs found (node_at t (place_in at id)))
    → GivesUpOn told old mid (HasFile at id) Odd
absent-odd told old mid at id found none reads = λ w t agrees lies has.
    absent (node_at t (place_in at id)) has.file
    (subst (λ (o : Option Inode). IsFoundAs o (node_at t (place_in at id))) none (reads.learns w t agrees lies has.kept))
  where
    absent : (o : Option Node) → IsSomeAnd o IsFile → IsFoundAs None o → ⊥
    absent None file found = file
    absent (Some n) file found = found
