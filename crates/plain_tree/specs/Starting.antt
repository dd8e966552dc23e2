-- A tree that begins at another moment.
use Rattle.std.specs.Prelude.{[]}
use Rattle.nfs3_types.specs.declared.moment.Moment.{Moment}
use Rattle.fs_rules.specs.Tree.{Node, Tree, always, root_inode}
use Rattle.plain_nodes.specs.Nodes.{edited}
use Rattle.plain_nodes.specs.Starting.{begun}

-- the root as it begins
abbrev pub root_at : Moment → Node
root_at first = record { inode = root_inode 2 3 (always first); content = []; names = [] }

-- all times of the root and of the directory `.snapshot` are this moment
abbrev pub begin : Moment → Tree → Tree
begin first t = record t { nodes = edited 1 (begun first) t.nodes; snapshot_times = always first }
