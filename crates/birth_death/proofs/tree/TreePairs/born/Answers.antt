use Rattle.std.proofs.Common.{refl}
use Rattle.std.proofs.lemmas.Result.{IfOk-weaker, IfErr-weaker}
use Rattle.std.proofs.Common.{◌≡◌}
use Rattle.pairs.specs.Lives.{born}
use Rattle.pairs.specs.Versions.{HasLives}
use Rattle.birth_death.proofs.Telling.{seat_of, within-later, goes-reads, tells-by, gives-up-by}
use Rattle.birth_death.proofs.tree.TreePairs.born.Goals as goal

pub invariant_of-self : goal.invariant_of-self
invariant_of-self g c =
    record { within = within-later _ _ _ c.born.ensures.only_reads.lasts.stores c.args.self.now.within }

pub returns-clause-goes : goal.returns-clause-goes
returns-clause-goes g c =
    goes-reads c.args.self.now _ (λ tree. seat_of (g.P.Pages.state tree.pages) tree.puts tree.failed) refl refl
    c.born.ensures.only_reads

pub returns-clause-ok : goal.returns-clause-ok
returns-clause-ok g c =
    IfOk-weaker c.born.result _ _
    (λ birth finds. tells-by c.args.self.now _ (λ tree. seat_of (g.P.Pages.state tree.pages) tree.puts tree.failed)
    (λ v. born (v.lives c.args.key.now) ≡ birth)
    c.born.ensures.only_reads finds)
    c.born.ensures.found

pub returns-clause-fault : goal.returns-clause-fault
returns-clause-fault g c =
    IfErr-weaker c.born.result _ _ (gives-up-by c.args.self.now
    (record c.args.self.now {
      pages = c.born.new.pages;
      within = within-later _ _ _ c.born.ensures.only_reads.lasts.stores c.args.self.now.within;
    })
    (λ tree. seat_of (g.P.Pages.state tree.pages) tree.puts tree.failed) HasLives)
    c.born.ensures.fault
