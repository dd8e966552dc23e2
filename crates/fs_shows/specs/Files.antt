-- Nodes that are made, and nodes that go.
use Rattle.std.specs.Prelude.{ℕ, ◌≡◌, true, false, [], None, slice_index_or}
use Rattle.fs_rules.specs.Places.{names_of}
use Rattle.fs_rules.specs.Sound.{is_given}
use Rattle.fs_rules.specs.Tree.{Tree, Node}
use Rattle.fs_keys.specs.declared.inode.Inode.{Inode}
use Rattle.fs_shows.specs.Nodes.{IsInodeOf, bytes_of}

-- this is the inode of a node that has no names and no byte that is not zero
pub record IsNew (i : Inode) (n : Node) : Type 0 where
  pub is : IsInodeOf i n
  pub blank : (offset : ℕ) → slice_index_or (bytes_of n) offset 0 ≡ 0
  pub names : n.names ≡ []

-- the number was not given yet, and is no node's
pub record IsUngiven (id : ℕ) (t : Tree) : Type 0 where
  pub ungiven : is_given t id ≡ false
  pub absent : t.nodes id ≡ None

-- the number was given, and its node, if there is one, has no names
pub record MayGo (id : ℕ) (t : Tree) : Type 0 where
  pub given : is_given t id ≡ true
  pub bare : names_of (t.nodes id) ≡ []
