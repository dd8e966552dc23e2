-- What a sound tree is: the trees that calls make from the first one are sound. First its bounds: what holds of each
-- node alone, of the numbers that were given, and of the snapshots. Then how the nodes hang together: names lead to
-- nodes, each node has the names that its links count, and the parents of directories lead to the root.
use Rattle.std.specs.Prelude.{◌≡◌, ◌≢◌, ◌+◌, ◌^◌, ◌%◌, ◌≤◌, ◌<◌, ◌==◌, ◌||◌, ◌&&◌, ◌∷◌}
use Rattle.fs_rules.specs.Words.{⊤, ℕ, zero, suc, nat_le, nat_lt, Bool, true, false, All, IfSome, List, [], length, map, filter}
use Rattle.fs_rules.specs.Words.{Option, Some, None, is_some, bytes_eq, FileType, Reg, Dir, Lnk, NameEntry, Live}
use Rattle.fs_rules.specs.Shared.{is_directory, last_epoch, longest_target, most_links, most_numbers, most_size, most_snapshots}
use Rattle.fs_rules.specs.Shared.{is_dots, name_fault, is_snapshots_name, snapshot_entry, Node, Nodes, Tree, next_fileid}
use Rattle.fs_rules.specs.{Renaming.parent_of}

-- an own name, and none that is there without an entry
pub record IsEntryName (directory : ℕ) (name : List ℕ) : Type 0 where
  pub good : name_fault name ≡ None
  pub free : (is_dots name || is_snapshots_name (Live directory) name) ≡ false

-- the cookies rise from the least one on, and stay below the next
unfoldable pub Rise : ℕ → ℕ → List NameEntry → Type 0
Rise least next [] = least ≤ next
Rise least next (e ∷ names) = (least ≤ e.cookie) × Rise (e.cookie + 1) next names

-- the entries of a directory; the cookies 1 and 2 are those of `.` and `..`
pub record AreEntries (directory next : ℕ) (names : List NameEntry) : Type 0 where
  pub own : All (λ e. IsEntryName directory e.name) names
  pub cookies : Rise 3 next names

abbrev pub Lacks : List ℕ → List NameEntry → Type 0
Lacks name names = All (λ e. bytes_eq e.name name ≡ false) names

unfoldable pub AreDistinct : List NameEntry → Type 0
AreDistinct [] = ⊤
AreDistinct (e ∷ names) = Lacks e.name names × AreDistinct names

pub record IsDirectoryWithin (fileid : ℕ) (n : Node) : Type 0 where
  pub empty : n.content ≡ []
  pub entries : AreEntries fileid n.inode.next_cookie n.names
  pub most : n.inode.next_cookie ≤ most_numbers
  pub verifier : n.inode.verifier ≡ None

-- what is no directory has nothing of one
pub record IsLeaf (n : Node) : Type 0 where
  pub nothing : n.names ≡ []
  pub parent : n.inode.parent ≡ 0
  pub cookie : n.inode.next_cookie ≡ 0

pub record IsFileWithin (n : Node) : Type 0 where
  pub leaf : IsLeaf n
  pub size : length n.content ≤ most_size

pub record IsLinkWithin (n : Node) : Type 0 where
  pub leaf : IsLeaf n
  pub some : 1 ≤ length n.content
  pub short : length n.content ≤ longest_target
  pub verifier : n.inode.verifier ≡ None

-- of nodes there are files, directories and symbolic links
abbrev pub IsOfKind : FileType → ℕ → Node → Type 0
IsOfKind Reg fileid n = IsFileWithin n
IsOfKind Dir fileid n = IsDirectoryWithin fileid n
IsOfKind Lnk fileid n = IsLinkWithin n
IsOfKind kind fileid n = ⊥

pub record IsNodeWithin (fileid : ℕ) (n : Node) : Type 0 where
  pub kind : IsOfKind n.inode.kind fileid n
  pub mode : n.inode.mode < 4096
  pub links : n.inode.nlink ≤ most_links
  pub cuts : n.inode.cuts < most_numbers

-- ---- bounds of the tree

-- the number is the root's, or it was given: it is below the next of its lane
unfoldable pub is_given : Tree → ℕ → Bool
is_given t fileid = (fileid == 1) || (nat_le 16 fileid && nat_lt fileid (next_fileid t (fileid % 16)))

pub record IsNextOf (lane next : ℕ) : Type 0 where
  pub own : next % 16 ≡ lane
  pub least : 16 ≤ next
  pub most : next ≤ most_numbers + 15

-- nodes of this tree or of one of its snapshots
pub record AreNodesWithin (t : Tree) (nodes : Nodes) : Type 0 where
  pub each : (fileid : ℕ) → IfSome (nodes fileid) (IsNodeWithin fileid)
  pub given : (fileid : ℕ) → IfSome (nodes fileid) (λ n. is_given t fileid ≡ true)

-- snapshots as the entries of `.snapshot`, each by its name and its number; the directory's number is 2
pub record AreSnapshots (t : Tree) (names : List NameEntry) : Type 0 where
  pub entries : AreEntries 2 (t.epoch + 2) names
  pub distinct : AreDistinct names
  pub few : length names ≤ most_snapshots

pub record HasBounds (t : Tree) : Type 0 where
  pub lanes : length t.next_fileids ≡ 16
  pub next : (lane : ℕ) → lane < 16 → IsNextOf lane (next_fileid t lane)
  pub live : AreNodesWithin t t.nodes
  pub kept : All (λ s. AreNodesWithin t s.nodes) t.snapshots
  pub snapshots : AreSnapshots t (map snapshot_entry t.snapshots)
  pub epoch : t.epoch ≤ last_epoch
  pub fsid : t.fsid ≤ 2 ^ 63

unfoldable pub count_of : ℕ → List NameEntry → ℕ
count_of fileid names = length (filter (λ e. e.fileid == fileid) names)

abbrev pub count_in : Option Node → ℕ → ℕ
count_in (Some n) fileid = count_of fileid n.names
count_in None fileid = 0

unfoldable pub sum_below : (ℕ → ℕ) → ℕ → ℕ
sum_below f zero = 0
sum_below f (suc n) = f n + sum_below f n

-- what every number of a node stays below
unfoldable pub all_numbers : ℕ
all_numbers = most_numbers + 15

unfoldable pub count_names : Nodes → ℕ → ℕ
count_names nodes fileid = sum_below (λ directory. count_in (nodes directory) fileid) all_numbers

abbrev pub is_some_directory : Option Node → Bool
is_some_directory (Some n) = is_directory n.inode.kind
is_some_directory None = false

unfoldable pub subdirectories : Nodes → List NameEntry → ℕ
subdirectories nodes names = length (filter (λ e. is_some_directory (nodes e.fileid)) names)

unfoldable pub ancestor : Nodes → ℕ → ℕ → ℕ
ancestor nodes zero fileid = fileid
ancestor nodes (suc steps) fileid = ancestor nodes steps (parent_of (nodes fileid) fileid)

pub record LeadsUp (nodes : Nodes) (fileid : ℕ) : Type 0 where
  pub steps : ℕ
  pub ends : ancestor nodes steps fileid ≡ 1

-- ---- how nodes hang together

-- the root is a directory in itself
abbrev pub IsRoot : Option Node → Type 0
IsRoot (Some n) = (is_directory n.inode.kind ≡ true) × (n.inode.parent ≡ 1)
IsRoot None = ⊥

-- a file or link has as many names as links, and one at least
pub record HasLinks (nodes : Nodes) (fileid : ℕ) (n : Node) : Type 0 where
  pub count : count_names nodes fileid ≡ n.inode.nlink
  pub some : 1 ≤ n.inode.nlink

-- a directory has one name in all, which stands in its parent
pub record HasParent (nodes : Nodes) (fileid : ℕ) (n : Node) : Type 0 where
  pub once : count_names nodes fileid ≡ 1
  pub there : count_in (nodes n.inode.parent) fileid ≡ 1

-- its links are those of its subdirectories and two, and its parents lead to the root; all but the root have a
-- parent
pub record IsPlaced (nodes : Nodes) (fileid : ℕ) (n : Node) : Type 0 where
  pub links : n.inode.nlink ≡ 2 + subdirectories nodes n.names
  pub up : LeadsUp nodes fileid
  pub parent : fileid ≢ 1 → HasParent nodes fileid n

abbrev pub IsLinked : Bool → Nodes → ℕ → Node → Type 0
IsLinked true nodes fileid n = IsPlaced nodes fileid n
IsLinked false nodes fileid n = HasLinks nodes fileid n

-- the names of a node: none stands twice, and each leads to a node
pub record AreNames (nodes : Nodes) (names : List NameEntry) : Type 0 where
  pub distinct : AreDistinct names
  pub lead : All (λ e. is_some (nodes e.fileid) ≡ true) names

pub record HangTogether (nodes : Nodes) : Type 0 where
  pub root : IsRoot (nodes 1)
  pub unnamed : count_names nodes 1 ≡ 0
  pub names : (fileid : ℕ) → IfSome (nodes fileid) (λ n. AreNames nodes n.names)
  pub links : (fileid : ℕ) → IfSome (nodes fileid) (λ n. IsLinked (is_directory n.inode.kind) nodes fileid n)

pub record IsSound (t : Tree) : Type 0 where
  pub bounds : HasBounds t
  pub live : HangTogether t.nodes
  pub kept : All (λ s. HangTogether s.nodes) t.snapshots
