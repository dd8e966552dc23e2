use Rattle.std.proofs.Common.{refl, arith}
use Rattle.std.proofs.lemmas.Result.{IfErr-weaker}
use Rattle.btree_edit.proofs.States.{goes_same}
use Rattle.pairs.specs.Versions.{CanPut}
use Rattle.birth_death.proofs.Telling.{seat_of, within-later, goes-failed, goes-puts, memory-gives-up-by}
use Rattle.birth_death.proofs.Telling.{put-gives-up-by}
use Rattle.birth_death.proofs.tree.TreePairs.put.Goals as goal

pub returns-then-self-clause-goes : goal.returns-then-self-clause-goes
returns-then-self-clause-goes g c =
    goes-failed c.args.self.now _ (λ tree. seat_of (g.P.Pages.state tree.pages) tree.puts tree.failed)
    c.saturating_add-self.ensures (omega arith) c.if-self.true (goes_same _)

pub returns-then-self-clause-fault : goal.returns-then-self-clause-fault
returns-then-self-clause-fault g c =
    memory-gives-up-by c.args.self.now (record c.args.self.now {
      puts = c.saturating_add-self.result;
      within = c.args.self.now.within;
    })
    (λ tree. seat_of (g.P.Pages.state tree.pages) tree.puts tree.failed)
    (CanPut c.args.key.now c.args.value.now) c.from.result c.from.ensures

pub put-put-requires-clause-store : goal.put-put-requires-clause-store
put-put-requires-clause-store g c = c.args.self.now.within

pub invariant_of-self-2 : goal.invariant_of-self-2
invariant_of-self-2 g c =
    record { within = within-later _ _ _ c.put-put.ensures.goes_on.lasts.stores c.args.self.now.within }

pub returns-clause-goes : goal.returns-clause-goes
returns-clause-goes g c =
    goes-puts c.args.self.now _ (λ tree. seat_of (g.P.Pages.state tree.pages) tree.puts tree.failed)
    c.put-put.result c.saturating_add-self.ensures (omega arith) c.if-self.false c.is_err-self.ensures.value
    c.put-put.ensures.goes_on
    c.put-put.ensures.root

pub returns-clause-ok : goal.returns-clause-ok
returns-clause-ok g c = c.put-put.ensures.ok

pub returns-clause-fault : goal.returns-clause-fault
returns-clause-fault g c =
    IfErr-weaker c.put-put.result _ _
    (λ fault. put-gives-up-by c.args.self.now
    (record c.args.self.now {
      pages = c.put-put.new.pages;
      puts = c.saturating_add-self.result;
      failed = c.is_err-self.result;
      within = within-later _ _ _ c.put-put.ensures.goes_on.lasts.stores c.args.self.now.within;
    })
    (λ tree. seat_of (g.P.Pages.state tree.pages) tree.puts tree.failed)
    (CanPut c.args.key.now c.args.value.now) fault c.saturating_add-self.ensures c.if-self.false)
    c.put-put.ensures.fault
