-- Changes of what is kept of a file beside its content and its names.
use Rattle.std.specs.Prelude.{ℕ, ◌≤◌, ◌+◌, ◌-◌, ⊤, IsSomeAnd}
use Rattle.fs_rules.specs.declared.inode.Inode.{Inode}
use Rattle.fs_rules.specs.Limits.{most_links}
use Rattle.fs_rules.specs.Tree.{Tree, Node}
use Rattle.inode_ops.specs.declared.change.Change.{Change}
use Rattle.inode_ops.specs.declared.change.Change.TheVariants.{Touch, SetCtime, AddLink, Link, DropLink, Unlink, MoveTo, Describe}

-- what is kept behind a change
abbrev pub changed_by : Change → Inode → Inode
changed_by (Touch now) i = record i { mtime = now; ctime = now }
changed_by (SetCtime now) i = record i { ctime = now }
changed_by AddLink i = record i { nlink = i.nlink + 1 }
changed_by (Link now) i = record i { nlink = i.nlink + 1; ctime = now }
changed_by DropLink i = record i { nlink = i.nlink - 1 }
changed_by (Unlink now) i = record i { nlink = i.nlink - 1; ctime = now }
changed_by (MoveTo parent now) i = record i { parent = parent; ctime = now }
changed_by (Describe a) i =
    record i { mode = a.mode; uid = a.uid; gid = a.gid; atime = a.atime; mtime = a.mtime; ctime = a.ctime }

abbrev pub edited_by : Change → Node → Node
edited_by change n = record n { inode = changed_by change n.inode }

-- a link more is one that the table allows for
abbrev pub MayChange : Change → Inode → Type 0
MayChange (Touch now) i = ⊤
MayChange (SetCtime now) i = ⊤
MayChange AddLink i = i.nlink ≤ most_links
MayChange (Link now) i = i.nlink ≤ most_links
MayChange DropLink i = ⊤
MayChange (Unlink now) i = ⊤
MayChange (MoveTo parent now) i = ⊤
MayChange (Describe a) i = ⊤

abbrev pub Allows : ℕ → Change → Tree → Type 0
Allows id change t = IsSomeAnd (t.nodes id) (λ n. MayChange change n.inode)

-- the live node of this number is there, and may have a link more
abbrev pub HasLinkLeft : ℕ → Tree → Type 0
HasLinkLeft id t = IsSomeAnd (t.nodes id) (λ n. n.inode.nlink ≤ most_links)
