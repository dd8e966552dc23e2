-- How many nodes a tree has, and how many bytes its files hold, by the list of the numbers that have a node.
use Rattle.std.specs.Prelude.{◌≡◌, ℕ, ◌==◌, if◌then◌else◌, Bool, List, length, Option, Some, None, is_some}
use Rattle.std.specs.List.{list_any, sum_by}
use Rattle.std.specs.List.Sorted.{IsStrictlyIncreasing}
use Rattle.fs_rules.specs.Attributes.{is_file}
use Rattle.fs_rules.specs.Tree.{Node, Nodes}

-- whether the number is one of these
abbrev pub is_among : ℕ → List ℕ → Bool
is_among fileid ids = list_any (λ id. fileid == id) ids

-- these are the numbers of all nodes: they rise, and each number is among them where it has a node, and else not
pub record Lists (nodes : Nodes) (ids : List ℕ) : Type 0 where
  pub rising : IsStrictlyIncreasing ids
  pub all : (fileid : ℕ) → is_among fileid ids ≡ is_some (nodes fileid)

-- there is a list of the numbers of all nodes
abbrev pub IsListed : Nodes → Type 0
IsListed nodes = (ids : List ℕ) × Lists nodes ids

-- how many bytes a file holds; what is no file counts none
abbrev pub bytes_of : Node → ℕ
bytes_of n = if is_file n.inode.kind then length n.content else 0

abbrev pub bytes_in : Option Node → ℕ
bytes_in (Some n) = bytes_of n
bytes_in None = 0

-- how many bytes the files of these numbers hold
abbrev pub bytes_at : Nodes → List ℕ → ℕ
bytes_at nodes ids = sum_by (λ fileid. bytes_in (nodes fileid)) ids
