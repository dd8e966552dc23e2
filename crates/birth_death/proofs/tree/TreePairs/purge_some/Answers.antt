use Rattle.std.proofs.Common.{refl}
use Rattle.std.proofs.lemmas.Result.{on_ok_weaker}
use Rattle.btree_edit.proofs.States.{goes_only, goes_then}
use Rattle.pairs.specs.Found.{AllKept, StopsAt}
use Rattle.pairs.specs.Versions.{HasLives}
use Rattle.birth_death.proofs.Rooting.{keeps-reads-then}
use Rattle.birth_death.proofs.Telling.{seat_of, within-later, goes-reads, goes-changes, tells-by, gives-up-by, takes-by}
use Rattle.birth_death.proofs.Telling.{take-gives-up}
use Rattle.birth_death.proofs.tree.TreePairs.purge_some.Goals as goal

pub invariant_of-self : goal.invariant_of-self
invariant_of-self g c =
    record { within = within-later _ _ _ c.find_some.ensures.only_reads.lasts.stores c.args.self.now.within }

pub returns-in-Err-clause-goes : goal.returns-in-Err-clause-goes
returns-in-Err-clause-goes g c =
    goes-reads c.args.self.now _ (λ tree. seat_of (g.P.Pages.state tree.pages) tree.puts tree.failed) refl refl
    c.in-Err.ensures.only_reads

pub returns-in-Err-clause-fault : goal.returns-in-Err-clause-fault
returns-in-Err-clause-fault g c =
    gives-up-by c.args.self.now
    (record c.args.self.now {
      pages = c.find_some.new.pages;
      within = within-later _ _ _ c.find_some.ensures.only_reads.lasts.stores c.args.self.now.within;
    })
    (λ tree. seat_of (g.P.Pages.state tree.pages) tree.puts tree.failed) HasLives c.in-Err.fault
    c.in-Err.ensures.fault

pub returns-in-Ok-take-clause-goes : goal.returns-in-Ok-take-clause-goes
returns-in-Ok-take-clause-goes g c =
    goes-changes c.args.self.now _ (λ tree. seat_of (g.P.Pages.state tree.pages) tree.puts tree.failed) c.take.result
    c.take.ensures.puts
    c.take.ensures.failed (goes_then _ _ _ (goes_only _ _ c.in-Ok.ensures.only_reads) c.take.ensures.goes_on)
    (on_ok_weaker c.take.result (keeps-reads-then (g.P.Pages.state c.args.self.now.pages)
    (g.P.Pages.state c.find_some.new.pages)
    (g.P.Pages.state c.take.new.self.pages) 0 c.in-Ok.ensures.only_reads) c.take.ensures.root)

pub returns-in-Ok-take-clause-ok : goal.returns-in-Ok-take-clause-ok
returns-in-Ok-take-clause-ok g c =
    rw c.in-Ok-take.ensures.same
    (takes-by c.args.self.now _ (λ tree. seat_of (g.P.Pages.state tree.pages) tree.puts tree.failed)
    (g.P.Pages.state c.find_some.new.pages)
    c.args.kept.now c.args.from.now c.in-Took.q c.in-Ok.ensures.only_reads (rw c.in-Took.is at c.in-Ok.ensures.found)
    c.in-Ok-take.ensures.goes_on (c.in-Ok-take.ensures.ok c.args.kept.now))

pub returns-in-Err-take-clause-goes : goal.returns-in-Err-take-clause-goes
returns-in-Err-take-clause-goes g c =
    goes-changes c.args.self.now _ (λ tree. seat_of (g.P.Pages.state tree.pages) tree.puts tree.failed) c.take.result
    c.take.ensures.puts
    c.take.ensures.failed (goes_then _ _ _ (goes_only _ _ c.in-Ok.ensures.only_reads) c.take.ensures.goes_on)
    (on_ok_weaker c.take.result (keeps-reads-then (g.P.Pages.state c.args.self.now.pages)
    (g.P.Pages.state c.find_some.new.pages)
    (g.P.Pages.state c.take.new.self.pages) 0 c.in-Ok.ensures.only_reads) c.take.ensures.root)

pub returns-in-Err-take-clause-fault : goal.returns-in-Err-take-clause-fault
returns-in-Err-take-clause-fault g c =
    gives-up-by c.args.self.now c.take.new.self
    (λ tree. seat_of (g.P.Pages.state tree.pages) tree.puts tree.failed) HasLives c.in-Err-take.fault
    (take-gives-up (g.P.Pages.state c.args.self.now.pages) (g.P.Pages.state c.find_some.new.pages)
    (g.P.Pages.state c.take.new.self.pages)
    c.args.kept.now c.args.from.now c.in-Took.q c.in-Err-take.fault c.in-Ok.ensures.only_reads
    (rw c.in-Took.is at c.in-Ok.ensures.found) c.in-Err-take.ensures.goes_on
    (c.in-Err-take.ensures.fault c.args.kept.now))

pub returns-in-Stopped-clause-goes : goal.returns-in-Stopped-clause-goes
returns-in-Stopped-clause-goes g c =
    goes-reads c.args.self.now _ (λ tree. seat_of (g.P.Pages.state tree.pages) tree.puts tree.failed) refl refl
    c.in-Ok.ensures.only_reads

pub returns-in-Stopped-clause-ok : goal.returns-in-Stopped-clause-ok
returns-in-Stopped-clause-ok g c = (
  rw c.in-Stopped.is at c.in-Ok.ensures.on,
  tells-by c.args.self.now _ (λ tree. seat_of (g.P.Pages.state tree.pages) tree.puts tree.failed)
      (StopsAt c.args.kept.now c.args.from.now c.in-Stopped.key) c.in-Ok.ensures.only_reads
      (rw c.in-Stopped.is at c.in-Ok.ensures.found),
)

pub returns-in-Ended-clause-goes : goal.returns-in-Ended-clause-goes
returns-in-Ended-clause-goes g c =
    goes-reads c.args.self.now _ (λ tree. seat_of (g.P.Pages.state tree.pages) tree.puts tree.failed) refl refl
    c.in-Ok.ensures.only_reads

pub returns-in-Ended-clause-ok : goal.returns-in-Ended-clause-ok
returns-in-Ended-clause-ok g c =
    tells-by c.args.self.now _ (λ tree. seat_of (g.P.Pages.state tree.pages) tree.puts tree.failed)
    (AllKept c.args.kept.now c.args.from.now)
    c.in-Ok.ensures.only_reads (rw c.in-Ended.is at c.in-Ok.ensures.found)
