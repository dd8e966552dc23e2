use Rattle.std.proofs.Common.{rules}
use Rattle.plain_tree.specs.Trees.{tree_of}
use Rattle.plain_tree.proofs.Starting.{begins}
use Rattle.plain_tree.proofs.plain.Plain.begin.Goals as goal

pub returns-clause-first : goal.returns-clause-first
returns-clause-first c = begins (tree_of c.args.self.now) _ c.args.first (search rules)
