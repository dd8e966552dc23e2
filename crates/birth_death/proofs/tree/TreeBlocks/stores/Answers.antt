use Rattle.std.proofs.Common.{sym, ◌∙◌, arith}
use Rattle.birth_death.proofs.tree.TreeBlocks.stores.Goals as goal

pub returns-clause-some : goal.returns-clause-some
returns-clause-some g c = omega (arith, c.args.self.now.within, c.stores.ensures)

pub returns-clause-shown : goal.returns-clause-shown
returns-clause-shown g c = λ under v agrees shows. shows.stores ∙ sym c.stores.ensures
