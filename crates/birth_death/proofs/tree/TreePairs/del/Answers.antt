use Rattle.std.proofs.Common.{Bool, ◌||◌, refl, ◌∙◌, ap}
use Rattle.std.proofs.lemmas.Result.{IfErr-weaker}
use Rattle.pairs.specs.Versions.{HasLives}
use Rattle.birth_death.proofs.Telling.{seat_of, within-later, goes-changes, gives-up-by}
use Rattle.birth_death.proofs.tree.TreePairs.del.Goals as goal

pub invariant_of-self : goal.invariant_of-self
invariant_of-self g c =
    record { within = within-later _ _ _ c.del-was.ensures.goes_on.lasts.stores c.args.self.now.within }

pub returns-clause-goes : goal.returns-clause-goes
returns-clause-goes g c =
    goes-changes c.args.self.now _ (λ tree. seat_of (g.P.Pages.state tree.pages) tree.puts tree.failed) c.del-was.result
    refl
    (c.either-self.ensures ∙ ap (λ (now : Bool). c.args.self.now.failed || now) c.is_err.ensures.value)
    c.del-was.ensures.goes_on c.del-was.ensures.root

pub returns-clause-ok : goal.returns-clause-ok
returns-clause-ok g c = c.del-was.ensures.ok

pub returns-clause-was : goal.returns-clause-was
returns-clause-was g c = c.del-was.ensures.was

pub returns-clause-fault : goal.returns-clause-fault
returns-clause-fault g c =
    IfErr-weaker c.del-was.result _ _ (gives-up-by c.args.self.now
    (record c.args.self.now {
      pages = c.del-was.new.pages;
      failed = c.either-self.result;
      within = within-later _ _ _ c.del-was.ensures.goes_on.lasts.stores c.args.self.now.within;
    })
    (λ tree. seat_of (g.P.Pages.state tree.pages) tree.puts tree.failed) HasLives)
    c.del-was.ensures.fault
