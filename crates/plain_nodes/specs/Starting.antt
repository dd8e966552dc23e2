-- A node that begins at another moment.
use Rattle.nfs3_types.specs.declared.moment.Moment.{Moment}
use Rattle.fs_rules.specs.Tree.{Node}

-- the node, all of whose times are this one
abbrev pub begun : Moment → Node → Node
begun first n = record n { inode = record n.inode { atime = first; mtime = first; ctime = first } }
