-- A node is changed: its inode is loaded, changed and saved.
use Rattle.std.proofs.Common.{◌≡◌, ℕ, ◌<◌, ◌^◌, List, Option, Some, None, refl, sym, ap, subst}
use Rattle.std.specs.Prelude.{⊤, IsSomeAnd}
use Rattle.pair_types.specs.declared.fault.PairFault.TheVariants.{Odd}
use Rattle.pairs.specs.declared.at.At.TheVariants.{Live}
use Rattle.pairs.specs.Versions.{Versions, HasLives, with_put, with_del}
use Rattle.pairs.specs.Told.{PairsTold, Goes, Tells, Moves}
use Rattle.fs_rules.specs.declared.inode.Inode.{Inode as Kept}
use Rattle.fs_rules.specs.Edits.{edit_node, add_node, drop_node}
use Rattle.fs_rules.specs.Tree.{Tree, Node}
use Rattle.fs_keys.specs.declared.key_parts.KeyParts.TheVariants.{Inode as InodeKey, Stale}
use Rattle.fs_keys.specs.declared.inode.Inode.{Inode}
use Rattle.fs_keys.specs.Inodes.{inode_of, value_of}
use Rattle.fs_keys.specs.Keys.{key_of}
use Rattle.fs_shows.specs.Extents.{row}
use Rattle.fs_shows.specs.Nodes.{Holds, marks_of, IsInodeOf}
use Rattle.fs_shows.specs.Shows.{Shows}
use Rattle.fs_shows.specs.Files.{IsNew, IsUngiven, MayGo}
use Rattle.fs_shows.specs.Steps.{Edits, GivesUpOn}
use Rattle.fs_shows.proofs.FileEdits.{node-made, node-gone, stale-first}
use Rattle.fs_shows.proofs.Rewriting.{keeps-put}
use Rattle.fs_shows.specs.Views.{IsThere}
use Rattle.fs_shows.proofs.Doing.{Does, does-tell, does-move, does-then, edits-of, up-odd}
use Rattle.fs_shows.proofs.InodeEdits.{KeepsFile, Revises, revises-kept, revised, revise, node-held, inode-edited}
use Rattle.inode_ops.specs.declared.change.Change.{Change}
use Rattle.inode_ops.specs.declared.change.Change.TheVariants.{Touch, SetCtime, AddLink, Link, DropLink, Unlink, MoveTo, Describe}
use Rattle.inode_ops.specs.Changes.{changed_by, edited_by, MayChange, Allows}
use Rattle.inode_ops.specs.Saving.{Saves}

-- no change is of the kind of a file, or of how often it was cut
pub changed-keeps : (change : Change) → KeepsFile (changed_by change)
changed-keeps (Touch now) = record { kind = λ k. refl; cuts = λ k. refl }
changed-keeps (SetCtime now) = record { kind = λ k. refl; cuts = λ k. refl }
changed-keeps AddLink = record { kind = λ k. refl; cuts = λ k. refl }
changed-keeps (Link now) = record { kind = λ k. refl; cuts = λ k. refl }
changed-keeps DropLink = record { kind = λ k. refl; cuts = λ k. refl }
changed-keeps (Unlink now) = record { kind = λ k. refl; cuts = λ k. refl }
changed-keeps (MoveTo parent now) = record { kind = λ k. refl; cuts = λ k. refl }
changed-keeps (Describe a) = record { kind = λ k. refl; cuts = λ k. refl }

pub some-weaker : {A : Type 0} (o : Option A) (P Q : A → Type 0) → ((a : A) → P a → Q a) → IsSomeAnd o P → IsSomeAnd o Q
some-weaker None P Q then is = is
some-weaker (Some a) P Q then is = then a is

pub some-at : {A : Type 0} (o : Option A) (P : A → Type 0) (a : A) → o ≡ Some a → IsSomeAnd o P → P a
some-at o P a at is = subst (λ x. IsSomeAnd x P) at is

module _ {S W : Type 0} (told : PairsTold S W) (old mid new : S) (id : ℕ) (i : Inode) where
  -- what was loaded is the inode of the live file
  abbrev pub Loaded : Type 0
  Loaded = Tells told old mid (λ v. Holds inode_of (row v Live (InodeKey id)) (Some i))

  -- the same node with another inode, whose marks are those that were loaded
  pub saved-edits : (j : Inode) (Given : Tree → Type 0) (edit : Node → Node) → id < 2 ^ 64 → Goes told mid new 1 → Loaded
      → Saves told mid new id j → marks_of j.head ≡ marks_of i.head
      → ((t : Tree) (n : Node) → Given t → t.nodes id ≡ Some n → IsInodeOf i n → Revises j n (edit n)) → Edits told old new Given
      (edit_node id edit)
  saved-edits j Given edit fits goes loaded saves marks revises =
      edits-of told old new (with_put (key_of (InodeKey id)) (value_of j))
      (λ v. Holds inode_of (row v Live (InodeKey id)) (Some i) × ⊤) Given (edit_node id edit)
      (does-then told old mid new 1 (λ v. v) (with_put (key_of (InodeKey id)) (value_of j))
      (λ v. Holds inode_of (row v Live (InodeKey id)) (Some i)) (λ v. ⊤) (λ v lives. lives) goes
      (does-tell told old mid (λ v. Holds inode_of (row v Live (InodeKey id)) (Some i)) loaded)
      (does-move told mid new (with_put (key_of (InodeKey id)) (value_of j)) saves.moves))
      (λ v t shows is given. inode-edited v t id i j edit fits shows is.0 marks
      (λ n there of. revises t n given there of) saves.again)

  pub change-edits : (change : Change) (kept : Kept) → id < 2 ^ 64 → Goes told mid new 1 → Loaded
      → kept ≡ changed_by change i.head.kept
      → Saves told mid new id (record i { head = record i.head { kept = kept } })
      → Edits told old new (Allows id change) (edit_node id (edited_by change))
  change-edits change kept fits goes loaded is saves =
      saved-edits (revised (changed_by change) i) (Allows id change) (edited_by change) fits goes loaded
      (subst (λ (k : Kept). Saves told mid new id (record i { head = record i.head { kept = k } })) is saves)
      (ap (λ (c : ℕ). record { stamp = c; floor = i.head.floor }) ((changed-keeps change).cuts i.head.kept))
      (λ t n given there of. revises-kept (changed_by change) (changed-keeps change) i n of)

  -- a change that the table does not allow for
  pub change-odd : (change : Change) → id < 2 ^ 64 → Loaded → (MayChange change i.head.kept → ⊥) → GivesUpOn told old mid
      (Allows id change) Odd
  change-odd change fits loaded none =
      up-odd told old mid (λ v. v) (λ v. Holds inode_of (row v Live (InodeKey id)) (Some i)) (Allows id change)
      (does-tell told old mid (λ v. Holds inode_of (row v Live (InodeKey id)) (Some i)) loaded)
      (λ v t shows holds allows.
      let h = node-held v Live id (row v Live (InodeKey id)) i (t.nodes id) holds (shows.live.inodes id fits) in
      none
      (subst (MayChange change) (sym h.2.kept)
      (some-at (t.nodes id) (λ n. MayChange change n.inode) h.0 h.1 allows)))

-- ---- nodes that are made, and nodes that go

module _ {S W : Type 0} (told : PairsTold S W) (old mid new : S) (id : ℕ) (fits : id < 2 ^ 64) where
  pub made-edits : (i : Inode) (n : Node) → Saves told old new id i → IsNew i n → Edits told old new (IsUngiven id)
      (add_node id n)
  made-edits i n saves fresh =
      edits-of told old new (with_put (key_of (InodeKey id)) (value_of i)) (λ v. ⊤) (IsUngiven id) (add_node id n)
      (does-move told old new (with_put (key_of (InodeKey id)) (value_of i)) saves.moves)
      (λ v t shows p free. node-made v t id i n fits shows free fresh saves.again)

  -- the file is noted as one that has stale blocks
  pub stale-keeps : (mark : List ℕ) (v : Versions) → HasLives v → HasLives (with_put (key_of (Stale id)) mark v)
  stale-keeps mark v lives = keeps-put (Stale id) mark v fits (stale-first id) lives

  pub gone-edits : (mark : List ℕ) → Goes told mid new 0 → Moves told old mid HasLives (with_put (key_of (Stale id)) mark)
      → Moves told mid new HasLives (with_del (key_of (InodeKey id))) → Edits told old new (MayGo id) (drop_node id)
  gone-edits mark goes first second =
      edits-of told old new (λ v. with_del (key_of (InodeKey id)) (with_put (key_of (Stale id)) mark v)) (λ v. ⊤ × ⊤) (MayGo id)
      (drop_node id)
      (does-then told old mid new 0 (with_put (key_of (Stale id)) mark) (with_del (key_of (InodeKey id))) (λ v. ⊤) (λ v. ⊤)
      (stale-keeps mark) goes
      (does-move told old mid (with_put (key_of (Stale id)) mark) first)
      (does-move told mid new (with_del (key_of (InodeKey id))) second))
      (λ v t shows p may. node-gone v t id mark fits shows may)
