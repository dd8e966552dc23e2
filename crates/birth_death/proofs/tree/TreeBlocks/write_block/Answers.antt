use Rattle.std.proofs.Common.{refl, arith}
use Rattle.std.proofs.lemmas.Result.{IfErr-weaker}
use Rattle.pairs.specs.Versions.{IsBlock}
use Rattle.birth_death.proofs.Telling.{seat_of, within-later, goes-keeps, gives-up-by}
use Rattle.birth_death.proofs.tree.TreeBlocks.write_block.Goals as goal

pub invariant_of-self : goal.invariant_of-self
invariant_of-self g c =
    record { within = within-later _ _ _ c.write_block.ensures.goes_on.lasts.stores c.args.self.now.within }

pub returns-clause-goes : goal.returns-clause-goes
returns-clause-goes g c =
    goes-keeps c.args.self.now _ (λ tree. seat_of (g.P.Pages.state tree.pages) tree.puts tree.failed) refl refl
    c.write_block.ensures.goes_on c.write_block.ensures.root

pub returns-clause-ok : goal.returns-clause-ok
returns-clause-ok g c = c.write_block.ensures.ok

pub returns-clause-fault : goal.returns-clause-fault
returns-clause-fault g c =
    IfErr-weaker c.write_block.result _ _ (gives-up-by c.args.self.now
    (record c.args.self.now {
      pages = c.write_block.new.pages;
      within = within-later _ _ _ c.write_block.ensures.goes_on.lasts.stores c.args.self.now.within;
    })
    (λ tree. seat_of (g.P.Pages.state tree.pages) tree.puts tree.failed) (IsBlock c.args.s))
    c.write_block.ensures.fault
