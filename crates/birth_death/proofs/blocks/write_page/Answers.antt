use Rattle.std.proofs.Common.{arith}
use Rattle.btree_edit.proofs.States.{goes_same, goes_write, goes_gives_up}
use Rattle.pairs.specs.Versions.{IsBlock}
use Rattle.birth_death.proofs.Blocking.{block-not_root, block-within, is-root, isnt-root, page-gives-up}
use Rattle.birth_death.proofs.Rooting.{keeps-still, keeps-written, keeps-gives_up}
use Rattle.birth_death.proofs.blocks.write_page.Goals as goal
use Rattle.birth_death.proofs.blocks.write_page.Goals.{then-eq-via-then-eq, then-eq-via-else-eq+then-s-stores}

pub returns-then-eq-clause-goes_on : goal.returns-then-eq-clause-goes_on
returns-then-eq-clause-goes_on g c = goes_same _

pub returns-then-eq-clause-root : goal.returns-then-eq-clause-root
returns-then-eq-clause-root g c = keeps-still _

pub returns-then-eq-clause-fault : goal.returns-then-eq-clause-fault
returns-then-eq-clause-fault g c = λ under v agrees shows is.
    elim c.then-eq.branch [
      | then-eq-via-then-eq w ↦ block-not_root (g.G.Pages.state c.args.pages.now) under v c.args.s shows is
          (is-root c.args.s c.eq.result c.eq.ensures w.if-eq.true)
      | then-eq-via-else-eq+then-s-stores w ↦
          absurd (omega (
            arith,
            block-within (g.G.Pages.state c.args.pages.now) under v c.args.s shows is,
            w.if-s-stores.true,
            w.stores.ensures,
          ))
    ]

pub write-requires : goal.write-requires
write-requires g c = omega (arith, c.if-s-stores.false, c.stores.ensures)

pub returns-in-Ok-clause-goes_on : goal.returns-in-Ok-clause-goes_on
returns-in-Ok-clause-goes_on g c = goes_write _ _ _ _ c.in-Ok.ensures

pub returns-in-Ok-clause-root : goal.returns-in-Ok-clause-root
returns-in-Ok-clause-root g c =
    keeps-written _ _ c.args.s _ (isnt-root c.args.s c.eq.result c.eq.ensures c.if-eq.false) c.in-Ok.ensures

pub returns-in-Err-clause-goes_on : goal.returns-in-Err-clause-goes_on
returns-in-Err-clause-goes_on g c = goes_gives_up _ _ _ c.in-Err.ensures

pub returns-in-Err-clause-root : goal.returns-in-Err-clause-root
returns-in-Err-clause-root g c = keeps-gives_up _ _ _ c.in-Err.ensures

pub returns-in-Err-clause-fault : goal.returns-in-Err-clause-fault
returns-in-Err-clause-fault g c =
    page-gives-up (g.G.Pages.state c.args.pages.now) (g.G.Pages.state c.write.new.self)
    (IsBlock c.args.s) c.in-Err.fault c.in-Err.ensures
