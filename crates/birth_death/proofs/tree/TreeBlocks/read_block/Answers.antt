use Rattle.std.proofs.Common.{refl}
use Rattle.std.proofs.lemmas.Result.{IfOk-weaker, IfErr-weaker}
use Rattle.std.proofs.Common.{◌≡◌, List, ℕ, Some}
use Rattle.std.specs.Prelude.{⊤}
use Rattle.pairs.specs.Found.{Fills}
use Rattle.birth_death.proofs.Telling.{seat_of, within-later, goes-reads, tells-by, gives-up-by}
use Rattle.birth_death.proofs.tree.TreeBlocks.read_block.Goals as goal

pub invariant_of-self : goal.invariant_of-self
invariant_of-self g c =
    record { within = within-later _ _ _ c.read_block.ensures.only_reads.lasts.stores c.args.self.now.within }

pub returns-clause-goes : goal.returns-clause-goes
returns-clause-goes g c =
    goes-reads c.args.self.now _ (λ tree. seat_of (g.P.Pages.state tree.pages) tree.puts tree.failed) refl refl
    c.read_block.ensures.only_reads

pub returns-clause-ok : goal.returns-clause-ok
returns-clause-ok g c =
    IfOk-weaker c.read_block.result _ _
    (λ n finds. tells-by c.args.self.now _ (λ tree. seat_of (g.P.Pages.state tree.pages) tree.puts tree.failed)
    (λ v. (block : List ℕ) → v.blocks c.args.s ≡ Some block → Fills block c.args.room.now c.read_block.new.room n)
    c.read_block.ensures.only_reads finds)
    c.read_block.ensures.ok

pub returns-clause-fault : goal.returns-clause-fault
returns-clause-fault g c =
    IfErr-weaker c.read_block.result _ _ (gives-up-by c.args.self.now
    (record c.args.self.now {
      pages = c.read_block.new.pages;
      within = within-later _ _ _ c.read_block.ensures.only_reads.lasts.stores c.args.self.now.within;
    })
    (λ tree. seat_of (g.P.Pages.state tree.pages) tree.puts tree.failed) (λ _. ⊤))
    c.read_block.ensures.fault
