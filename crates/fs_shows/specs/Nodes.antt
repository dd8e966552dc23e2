-- What the records of a view show as nodes.
use Rattle.std.specs.Prelude.{ℕ, ◌≡◌, ◌<◌, ◌≤◌, ◌^◌, ◌==◌, if◌then◌else◌, List, [], length, find, ⊤}
use Rattle.std.specs.Prelude.{Option, Some, None, option_map}
use Rattle.pairs.specs.declared.at.At.{At}
use Rattle.pairs.specs.Versions.{Versions}
use Rattle.fs_rules.specs.declared.name_entry.NameEntry.{NameEntry}
use Rattle.fs_rules.specs.Attributes.{is_link, size_of}
use Rattle.fs_rules.specs.Names.{named}
use Rattle.fs_rules.specs.Places.{names_of}
use Rattle.fs_rules.specs.Tree.{Node, Nodes}
use Rattle.fs_rules.specs.Limits.{longest_name}
use Rattle.fs_keys.specs.declared.key_parts.KeyParts.TheVariants.{Inode as InodeKey, Name, Cookie}
use Rattle.fs_keys.specs.declared.inode.Inode.{Inode}
use Rattle.fs_keys.specs.declared.inode.Head.{Head}
use Rattle.fs_keys.specs.declared.rows.NameRow.{NameRow}
use Rattle.fs_keys.specs.declared.rows.CookieRow.{CookieRow}
use Rattle.fs_keys.specs.Inodes.{inode_of}
use Rattle.fs_keys.specs.Values.{name_in, cookie_in}
use Rattle.fs_shows.specs.Extents.{Marks, row, ShowsContent}

-- A record holds this: it is there where something is to be said, and its value says that.
abbrev pub Holds : {A : Type 0} → (List ℕ → Option A) → Option (List ℕ) → Option A → Type 0
Holds says None None = ⊤
Holds says None (Some a) = ⊥
Holds says (Some value) None = ⊥
Holds says (Some value) (Some a) = says value ≡ Some a

-- ---- inodes and contents

abbrev pub marks_of : Head → Marks
marks_of h = record { stamp = h.kept.cuts; floor = h.floor }

-- the path that a link leads to, and the bytes of what is no link
abbrev pub target_of : Node → List ℕ
target_of n = if is_link n.inode.kind then n.content else []

abbrev pub bytes_of : Node → List ℕ
bytes_of n = if is_link n.inode.kind then [] else n.content

-- the inode of a node: its floor is any
pub record IsInodeOf (i : Inode) (n : Node) : Type 0 where
  pub kept : i.head.kept ≡ n.inode
  pub size : i.head.size ≡ size_of n.inode (length n.content)
  pub target : i.target ≡ target_of n

module _ (v : Versions) (at : At) where
  -- a value is that of a node's inode, and the blocks beside it are the node's content
  pub record ShowsNode (id : ℕ) (value : List ℕ) (n : Node) : Type 0 where
    pub inode : Inode
    pub said : inode_of value ≡ Some inode
    pub is : IsInodeOf inode n
    pub content : ShowsContent v at id (marks_of inode.head) (bytes_of n)

  abbrev pub ShowsInode : ℕ → Option (List ℕ) → Option Node → Type 0
  ShowsInode id None None = ⊤
  ShowsInode id None (Some n) = ⊥
  ShowsInode id (Some value) None = ⊥
  ShowsInode id (Some value) (Some n) = ShowsNode id value n

-- ---- names

abbrev pub name_row : NameEntry → NameRow
name_row e = record { cookie = e.cookie; fileid = e.fileid }

abbrev pub cookie_row : NameEntry → CookieRow
cookie_row e = record { fileid = e.fileid; name = e.name }

-- the first entry that has a cookie
unfoldable pub numbered : ℕ → List NameEntry → Option NameEntry
numbered cookie names = find (λ e. e.cookie == cookie) names

-- ---- all nodes

-- The view has these nodes: their inodes and contents, and the names of directories, each found by its name and by its
-- cookie.
pub record ShowsNodes (v : Versions) (at : At) (nodes : Nodes) : Type 0 where
  pub inodes : (id : ℕ) → id < 2 ^ 64 → ShowsInode v at id (row v at (InodeKey id)) (nodes id)
  pub names : (directory : ℕ) (name : List ℕ) → directory < 2 ^ 64 → length name ≤ longest_name
      → Holds name_in (row v at (Name directory name)) (option_map name_row (named name (names_of (nodes directory))))
  pub cookies : (directory cookie : ℕ) → directory < 2 ^ 64 → cookie < 2 ^ 64
      → Holds cookie_in (row v at (Cookie directory cookie))
      (option_map cookie_row (numbered cookie (names_of (nodes directory))))
