-- What the code's nodes are, as plain data.
use Rattle.std.specs.Prelude.{ℕ, option_map}
use Rattle.std.specs.BTreeMap.{get}
use Rattle.std.specs.Ordering.{nat_cmp}
use Rattle.fs_rules.specs.Edits.{with_node}
use Rattle.fs_rules.specs.Tree as plain
use Rattle.plain_nodes.specs.declared.nodes.Nodes.{Nodes}

-- the nodes by their numbers
abbrev pub nodes_of : Nodes → plain.Nodes
nodes_of nodes = λ fileid. get nat_cmp nodes.map fileid

-- with an edit of the node of a number, where it has one
abbrev pub edited : ℕ → (plain.Node → plain.Node) → plain.Nodes → plain.Nodes
edited fileid edit nodes = with_node fileid (option_map edit (nodes fileid)) nodes
