-- What an edit needs of the tree, so that each count is still a number of its width. The checks of its plan show it.
use Rattle.std.specs.Prelude.{◌≡◌, ℕ, ◌<◌, ◌^◌, ◌&&◌, nat_le, is_none, true, false, Option, Some, None, IfSome}
use Rattle.nfs3_types.specs.declared.file_type.FileType.{FileType}
use Rattle.fs_rules.specs.declared.place.Place.{Place}
use Rattle.fs_rules.specs.declared.place.Place.TheVariants.{Kept}
use Rattle.fs_rules.specs.declared.plans.LinkPlan.{LinkPlan}
use Rattle.fs_rules.specs.declared.plans.RenamePlan.{RenamePlan}
use Rattle.fs_rules.specs.declared.plans.Replaced.{Replaced}
use Rattle.fs_rules.specs.Attributes.{given}
use Rattle.fs_rules.specs.Limits.{most_links}
use Rattle.fs_rules.specs.Renaming.{Renaming, is_in_the_way, reparents}
use Rattle.fs_rules.specs.Making.{lacks_cookies, lacks_links}
use Rattle.fs_rules.specs.Places.{Object, object_at}
use Rattle.fs_rules.specs.Tree.{Node, Nodes, Tree, next_fileid}
use Rattle.plain_nodes.specs.Needs.{HasLink}

-- the number of the snapshot of a place
abbrev pub kept_number : Place → ℕ
kept_number (Kept number fileid) = number
kept_number place = 0

-- what was found is what stands there
abbrev pub Stands : Tree → Object → Type 0
Stands t o = object_at t o.place ≡ Some o

-- a cookie for a further name
abbrev pub HasCookie : Node → Type 0
HasCookie n = lacks_cookies n.inode ≡ false

-- a new node of this kind in a directory
pub record CanMake (t : Tree) (lane : ℕ) (kind : FileType) (directory : ℕ) : Type 0 where
  pub number : next_fileid t lane < 2 ^ 62
  pub links : IfSome (t.nodes directory) (λ n. lacks_links kind n.inode ≡ false)
  pub cookies : IfSome (t.nodes directory) HasCookie

-- a further link of a file
pub record CanLink (nodes : Nodes) (p : LinkPlan) : Type 0 where
  pub links : IfSome (nodes p.file) (λ n. HasLink n.inode)
  pub cookies : IfSome (nodes p.directory) HasCookie

-- a further link of a directory, once what has the new name is gone
abbrev pub HasLinks : Option Replaced → Option Node → Type 0
HasLinks (Some r) n = (r.is_directory ≡ true) × IfSome n (λ n. n.inode.nlink < 2 ^ 32)
HasLinks None n = IfSome n (λ n. HasLink n.inode)

-- a further name in the directory that a node is moved to
pub record CanMove (nodes : Nodes) (p : RenamePlan) : Type 0 where
  pub cookies : IfSome (nodes p.to) HasCookie
  pub links : p.reparents ≡ true → HasLinks p.replaced (nodes p.to)

-- what the checks of a RENAME show of what is found
pub record HasOpenWay (t : Tree) (r : Renaming) : Type 0 where
  pub few : r.to.inode.nlink < 2 ^ 32
  pub free : given r.target (is_in_the_way t r.source) ≡ false
  pub enough : (reparents r && is_none r.target && nat_le most_links r.to.inode.nlink) ≡ false
  pub cookies : lacks_cookies r.to.inode ≡ false
