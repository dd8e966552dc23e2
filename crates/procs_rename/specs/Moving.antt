-- A node moves: what each of the edits needs of the tree, and what the whole of them needs.
use Rattle.std.specs.Prelude.{ℕ, ◌≡◌, ◌≢◌, ◌≤◌, ◌+◌, ⊤, Bool, true, List, Option, Some, None, option_map, IfSome, IsSomeAnd}
use Rattle.nfs3_types.specs.declared.args.RenameArgs.{RenameArgs}
use Rattle.nfs3_types.specs.declared.moment.Moment.{Moment}
use Rattle.fs_rules.specs.declared.inode.Inode.{Inode}
use Rattle.fs_rules.specs.declared.plans.RenamePlan.{RenamePlan}
use Rattle.fs_rules.specs.declared.plans.Replaced.{Replaced}
use Rattle.fs_rules.specs.Edits.{edit_node, touch, add_name, drop_name}
use Rattle.fs_rules.specs.Limits.{most_links, most_numbers}
use Rattle.fs_rules.specs.Names.{named}
use Rattle.fs_rules.specs.Renaming.{replace, relink}
use Rattle.fs_rules.specs.Sound.{AreDistinct, Rise}
use Rattle.fs_rules.specs.Tree.{Tree, Node}
use Rattle.fs_shows.specs.Views.{IsThere}
use Rattle.inode_ops.specs.Changes.{HasLinkLeft}
use Rattle.inode_ops.specs.Losing.{MayLose}
use Rattle.dir_ops.specs.Directories.{CanAdd, CanDrop}

-- ---- the edits, one after another

-- a node may lose a name, and the directory has it
pub record CanTakeOut (directory : ℕ) (name : List ℕ) (fileid : ℕ) (t : Tree) : Type 0 where
  pub lose : MayLose fileid t
  pub drop : CanDrop directory name t

abbrev pub CanReplace : ℕ → List ℕ → Option Replaced → Tree → Type 0
CanReplace to name (Some r) t = CanTakeOut to name r.fileid t
CanReplace to name None t = ⊤

-- the directories are there, and the one may have a link more
pub record CanRelink (p : RenamePlan) (t : Tree) : Type 0 where
  pub from : p.reparents ≡ true → IsThere p.from t
  pub to : p.reparents ≡ true → HasLinkLeft p.to t

abbrev pub cleared : Moment → List ℕ → RenamePlan → Tree → Tree
cleared now name p t = relink p (replace now p.to name p.replaced t)

pub record CanClear (now : Moment) (name : List ℕ) (p : RenamePlan) (t : Tree) : Type 0 where
  pub first : CanReplace p.to name p.replaced t
  pub then : CanRelink p (replace now p.to name p.replaced t)

abbrev pub unnamed : Moment → RenameArgs (List ℕ) → RenamePlan → Tree → Tree
unnamed now a p t = edit_node p.from (λ n. touch now (drop_name a.from.name n)) t

abbrev pub renamed : Moment → RenameArgs (List ℕ) → RenamePlan → Tree → Tree
renamed now a p t = edit_node p.to (λ n. touch now (add_name a.to.name p.fileid n)) (unnamed now a p t)

pub record CanRename (now : Moment) (a : RenameArgs (List ℕ)) (p : RenamePlan) (t : Tree) : Type 0 where
  pub drop : CanDrop p.from a.from.name t
  pub add : CanAdd p.to a.to.name (unnamed now a p t)

-- ---- the whole

-- the names of a directory are in order, and there is a cookie for one more
pub record IsOrderly (n : Node) : Type 0 where
  pub distinct : AreDistinct n.names
  pub cookies : Rise 3 n.inode.next_cookie n.names
  pub most : n.inode.next_cookie ≤ most_numbers

-- the number of what has a name in a directory
abbrev pub number_at : List ℕ → Node → Option ℕ
number_at name n = option_map (λ e. e.fileid) (named name n.names)

-- a directory has the name, of this node
pub record Has (name : List ℕ) (fileid : ℕ) (n : Node) : Type 0 where
  pub orderly : IsOrderly n
  pub leads : number_at name n ≡ Some fileid

-- a link more, once what has the new name is gone
abbrev pub HasRoom : Option Replaced → Inode → Type 0
HasRoom (Some r) i = r.is_directory ≡ true
HasRoom None i = i.nlink + 1 ≤ most_links

-- a directory can take the name, once what has it is gone
pub record CanTake (name : List ℕ) (reparents : Bool) (replaced : Option Replaced) (n : Node) : Type 0 where
  pub orderly : IsOrderly n
  pub leads : number_at name n ≡ option_map (λ r. r.fileid) replaced
  pub links : n.inode.nlink ≤ most_links
  pub room : reparents ≡ true → HasRoom replaced n.inode

-- what has the new name is another node than the one that moves, and has no names itself
pub record CanGo (fileid : ℕ) (t : Tree) (r : Replaced) : Type 0 where
  pub other : r.fileid ≢ fileid
  pub lose : MayLose r.fileid t

-- the plan can be done
pub record CanMove (a : RenameArgs (List ℕ)) (p : RenamePlan) (t : Tree) : Type 0 where
  pub from : IsSomeAnd (t.nodes p.from) (Has a.from.name p.fileid)
  pub to : IsSomeAnd (t.nodes p.to) (CanTake a.to.name p.reparents p.replaced)
  pub source : IsThere p.fileid t
  pub replaced : IfSome p.replaced (CanGo p.fileid t)
