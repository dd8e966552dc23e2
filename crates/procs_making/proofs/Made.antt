-- A node is made in three steps, and its inode is saved first.
use Rattle.std.proofs.Common.{◌≡◌, ◌∙◌, ℕ, List, Option, Some, None, refl, ap, subst}
use Rattle.fs_rules.specs.Edits.{add_node, edit_node, give_number}
use Rattle.fs_rules.specs.Making.{gain_name}
use Rattle.fs_rules.specs.Tree.{Tree, Node}
use Rattle.pairs.specs.Told.{PairsTold, Goes}
use Rattle.fs_shows.specs.Files.{IsUngiven}
use Rattle.fs_shows.specs.Steps.{Lies, Edits}
use Rattle.fs_shows.proofs.Passing.{edits_both}
use Rattle.inode_ops.specs.Giving.{CanGive}
use Rattle.dir_ops.specs.Directories.{CanAdd}
use Rattle.procs_making.specs.declared.child.NewNode.{NewNode}
use Rattle.procs_making.specs.Children.{node_by, made_in, CanMake}
use Rattle.procs_making.proofs.Sounds.{added-elsewhere}

some-none : (o : Option Node) (n : Node) → o ≡ Some n → o ≡ None → ⊥
some-none o n is none = cc

module _ (name : List ℕ) (x : NewNode) where
  -- the tree behind the first step, and behind the second one
  abbrev pub saved : Tree → Tree
  saved t = add_node x.plan.fileid (node_by x.inode) t

  abbrev pub numbered : Tree → Tree
  numbered t = give_number x.lane (saved t)

  module _ (t : Tree) (can : CanMake name x t) where
    -- the directory is another node
    pub child-apart : x.plan.directory ≡ x.plan.fileid → ⊥
    child-apart same =
        some-none (t.nodes x.plan.directory) can.add.node can.add.there
        (ap (λ (id : ℕ). t.nodes id) same ∙ can.ungiven.absent)

    pub gives-still : CanGive x.lane (saved t)
    unfolding add_node
    gives-still = record { has = can.give.has; most = can.give.most }

    pub adds-still : CanAdd x.plan.directory name (numbered t)
    unfolding give_number
    adds-still = record {
      node = can.add.node;
      there = added-elsewhere x.plan.fileid x.plan.directory (node_by x.inode) t child-apart ∙ can.add.there;
      free = can.add.free;
      fresh = can.add.fresh;
      room = can.add.room;
    }

  -- in this order the tree is the table's
  pub made-same : (t : Tree)
      → edit_node x.plan.directory (gain_name x.inode.head.kept.kind name x.plan.fileid x.moment) (numbered t) ≡ made_in name x t
  unfolding edit_node add_node give_number
  made-same t = refl

-- ---- the calls that do it

module _ {S W : Type 0} (told : PairsTold S W) (name : List ℕ) (x : NewNode) where
  pub saves : (old mid : S) → Edits told old mid (IsUngiven x.plan.fileid) (add_node x.plan.fileid (node_by x.inode))
      → Edits told old mid (CanMake name x) (saved name x)
  saves old mid edits = λ w t agrees lies can. edits w t agrees lies can.ungiven

  pub numbers : (old mid new : S) → Goes told mid new 1 → Edits told old mid (CanMake name x) (saved name x)
      → Edits told mid new (CanGive x.lane) (give_number x.lane) → Edits told old new (CanMake name x) (numbered name x)
  numbers old mid new goes first then =
      edits_both told old mid new 1 (CanMake name x) (CanGive x.lane) (saved name x) (give_number x.lane) goes first
      (gives-still name x) then

  pub adds : (old mid new : S) → Goes told mid new 3 → Edits told old mid (CanMake name x) (numbered name x)
      → Edits told mid new (CanAdd x.plan.directory name)
      (edit_node x.plan.directory (gain_name x.inode.head.kept.kind name x.plan.fileid x.moment))
      → Edits told old new (CanMake name x) (made_in name x)
  adds old mid new goes first then = λ w t agrees lies can.
      subst (Lies told new w) (made-same name x t)
      (then w (numbered name x t) agrees (first w t (goes.agreed w agrees) lies can) (adds-still name x t can))
