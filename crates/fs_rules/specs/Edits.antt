-- Edits of trees, sound or not.
use Rattle.std.specs.Prelude.{◌+◌, ◌-◌, ◌==◌, if◌then◌else◌, ◌∷◌, ◌++◌}
use Rattle.fs_rules.specs.Words.{ℕ, nat_lt, not, List, [], length, take, drop, replicate, slice_set, filter, Option, Some, None}
use Rattle.fs_rules.specs.Words.{option_map, Fattr, Moment}
use Rattle.fs_rules.specs.{Names.has_name, Tree.Node, Tree.Nodes, Tree.Tree, Tree.next_fileid}

abbrev pub zeros : ℕ → List ℕ
zeros n = replicate n 0

-- cut to a size, or filled up to it with zeros
unfoldable pub resized : ℕ → List ℕ → List ℕ
resized size content = take size content ++ zeros (size - length content)

-- with these bytes at an offset, to which zeros fill up what stood before it
unfoldable pub written : ℕ → List ℕ → List ℕ → List ℕ
written offset bytes content = resized offset content ++ (bytes ++ drop (offset + length bytes) content)

abbrev pub set_ctime : Moment → Node → Node
set_ctime now n = record n { inode = record n.inode { ctime = now } }

-- the content or the names are others now
abbrev pub touch : Moment → Node → Node
touch now n = record n { inode = record n.inode { mtime = now; ctime = now } }

abbrev pub add_link : Node → Node
add_link n = record n { inode = record n.inode { nlink = n.inode.nlink + 1 } }

abbrev pub drop_link : Node → Node
drop_link n = record n { inode = record n.inode { nlink = n.inode.nlink - 1 } }

abbrev pub set_parent : ℕ → Node → Node
set_parent parent n = record n { inode = record n.inode { parent = parent } }

abbrev pub cuts_at : ℕ → Node → ℕ
cuts_at size n = if nat_lt size (length n.content) then n.inode.cuts + 1 else n.inode.cuts

unfoldable pub set_size : ℕ → Node → Node
set_size size n = record n { inode = record n.inode { cuts = cuts_at size n }; content = resized size n.content }

abbrev pub set_size_if : Option ℕ → Node → Node
set_size_if (Some size) n = set_size size n
set_size_if None n = n

abbrev pub set_attributes : Fattr → Node → Node
set_attributes a n = record n {
  inode = record n.inode { mode = a.mode; uid = a.uid; gid = a.gid; atime = a.atime; mtime = a.mtime; ctime = a.ctime };
}

abbrev pub write_at : ℕ → List ℕ → Moment → Node → Node
write_at offset bytes now n =
    if length bytes == 0 then n else touch now (record n { content = written offset bytes n.content })

abbrev pub add_name : List ℕ → ℕ → Node → Node
add_name name fileid n = record n {
  inode = record n.inode { next_cookie = n.inode.next_cookie + 1 };
  names = n.names ++ record { cookie = n.inode.next_cookie; name = name; fileid = fileid } ∷ [];
}

abbrev pub drop_name : List ℕ → Node → Node
drop_name name n = record n { names = filter (λ e. not (has_name name e)) n.names }

unfoldable pub with_node : ℕ → Option Node → Nodes → Nodes
with_node fileid node nodes = λ id. if id == fileid then node else nodes id

unfoldable pub edit_node : ℕ → (Node → Node) → Tree → Tree
edit_node fileid edit t = record t { nodes = with_node fileid (option_map edit (t.nodes fileid)) t.nodes }

unfoldable pub add_node : ℕ → Node → Tree → Tree
add_node fileid n t = record t { nodes = with_node fileid (Some n) t.nodes }

unfoldable pub drop_node : ℕ → Tree → Tree
drop_node fileid t = record t { nodes = with_node fileid None t.nodes }

unfoldable pub give_number : ℕ → Tree → Tree
give_number lane t = record t { next_fileids = slice_set t.next_fileids lane (next_fileid t lane + 16) }
