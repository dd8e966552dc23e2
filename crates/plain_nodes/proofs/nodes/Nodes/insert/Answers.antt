use Rattle.std.proofs.Common.{rules}
use Rattle.std.proofs.Math.Path.{fun_ext}
use Rattle.plain_nodes.proofs.nodes.Nodes.insert.Goals as goal

pub returns-clause-ok : goal.returns-clause-ok
unfolding Rattle.fs_rules.specs.Edits.with_node
returns-clause-ok c = fun_ext (λ q. search (rules, c.insert.ensures.updates))
