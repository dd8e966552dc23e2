use Rattle.std.proofs.Common.{refl, arith}
use Rattle.std.proofs.lemmas.Result.{IfErr-weaker}
use Rattle.std.specs.Prelude.{⊤}
use Rattle.birth_death.proofs.Telling.{seat_of, within-later, goes-keeps, gives-up-by}
use Rattle.birth_death.proofs.tree.TreeBlocks.fresh_block.Goals as goal

pub fresh_block-requires : goal.fresh_block-requires
fresh_block-requires g c = omega (arith, c.args.self.now.within)

pub returns-clause-fresh : goal.returns-clause-fresh
returns-clause-fresh g c = c.fresh_block.ensures.fresh

pub invariant_of-self : goal.invariant_of-self
invariant_of-self g c =
    record { within = within-later _ _ _ c.fresh_block.ensures.goes_on.lasts.stores c.args.self.now.within }

pub returns-clause-goes : goal.returns-clause-goes
returns-clause-goes g c =
    goes-keeps c.args.self.now _ (λ tree. seat_of (g.P.Pages.state tree.pages) tree.puts tree.failed) refl refl
    c.fresh_block.ensures.goes_on c.fresh_block.ensures.root

pub returns-clause-ok : goal.returns-clause-ok
returns-clause-ok g c = c.fresh_block.ensures.ok

pub returns-clause-fault : goal.returns-clause-fault
returns-clause-fault g c =
    IfErr-weaker c.fresh_block.result _ _ (gives-up-by c.args.self.now
    (record c.args.self.now {
      pages = c.fresh_block.new.pages;
      within = within-later _ _ _ c.fresh_block.ensures.goes_on.lasts.stores c.args.self.now.within;
    })
    (λ tree. seat_of (g.P.Pages.state tree.pages) tree.puts tree.failed) (λ _. ⊤))
    c.fresh_block.ensures.fault
