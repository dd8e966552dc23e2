use Rattle.std.proofs.Common.{ℕ, ◌+◌, ◌%◌, ◌∙◌, ap, arith}
use Rattle.std.specs.Prelude.{⊤}
use Rattle.pair_types.specs.PageMaps.{PageMap}
use Rattle.btree_edit.proofs.States.{goes_then, goes_write, goes_gives_up}
use Rattle.birth_death.proofs.Blocking.{fresh-not_root, fresh-goes, fresh-keeps, fresh-moves, fresh-before}
use Rattle.birth_death.proofs.Blocking.{fresh-within, is-root, isnt-root, page-gives-up, page-gives-up-later}
use Rattle.birth_death.proofs.Rooting.{keeps-both, keeps-written, keeps-gives_up}
use Rattle.birth_death.proofs.blocks.fresh_block.Goals as goal

pub store_for-store-requires : goal.store_for-store-requires
store_for-store-requires g c = omega (arith, c.requires, c.stores.ensures)

pub fresh-requires : goal.fresh-requires
fresh-requires g c = fresh-within c.args.file c.args.index _ _ _ c.stores.ensures c.store_for-store.ensures c.requires

pub returns-in-Err-clause-goes_on : goal.returns-in-Err-clause-goes_on
returns-in-Err-clause-goes_on g c = goes_gives_up _ _ _ c.in-Err.ensures

pub returns-in-Err-clause-root : goal.returns-in-Err-clause-root
returns-in-Err-clause-root g c = keeps-gives_up _ _ _ c.in-Err.ensures

pub returns-in-Err-clause-fault : goal.returns-in-Err-clause-fault
returns-in-Err-clause-fault g c =
    page-gives-up (g.G.Pages.state c.args.pages.now) (g.G.Pages.state c.fresh.new.self)
    (λ _. ⊤) c.in-Err.fault c.in-Err.ensures

pub returns-then-eq-clause-goes_on : goal.returns-then-eq-clause-goes_on
returns-then-eq-clause-goes_on g c = fresh-goes _ _ _ _ c.in-Ok.ensures

pub returns-then-eq-clause-root : goal.returns-then-eq-clause-root
returns-then-eq-clause-root g c = fresh-keeps _ _ _ _ c.in-Ok.ensures

pub returns-then-eq-clause-fault : goal.returns-then-eq-clause-fault
returns-then-eq-clause-fault g c = λ under v agrees shows given.
    fresh-not_root (g.G.Pages.state c.args.pages.now) (g.G.Pages.state c.fresh.new.self) c.store_for-store.result
    c.in-Ok.s under v shows
    c.in-Ok.ensures agrees (is-root c.in-Ok.s c.eq.result c.eq.ensures c.if-eq.true)

pub write-requires : goal.write-requires
write-requires g c =
    let asked = fresh-within c.args.file c.args.index _ _ _ c.stores.ensures c.store_for-store.ensures c.requires in
    omega (arith, asked, c.in-Ok.ensures.store, c.in-Ok.ensures.lasts.stores)

pub returns-in-Ok-write-clause-goes_on : goal.returns-in-Ok-write-clause-goes_on
returns-in-Ok-write-clause-goes_on g c =
    goes_then _ _ _ (fresh-goes _ _ _ _ c.in-Ok.ensures) (goes_write _ _ _ _ c.in-Ok-write.ensures)

pub returns-in-Ok-write-clause-ok : goal.returns-in-Ok-write-clause-ok
returns-in-Ok-write-clause-ok g c =
    fresh-moves _ _ _ c.store_for-store.result c.in-Ok.s
    (fresh-within c.args.file c.args.index _ _ _ c.stores.ensures c.store_for-store.ensures c.requires)
    c.in-Ok.ensures (rw c.empty.ensures at c.in-Ok-write.ensures)

pub returns-in-Ok-write-clause-fresh : goal.returns-in-Ok-write-clause-fresh
returns-in-Ok-write-clause-fresh g c = λ under v agrees shows.
    fresh-before (g.G.Pages.state c.args.pages.now) (g.G.Pages.state c.fresh.new.self)
    (g.G.Pages.state c.write.new.self)
    c.store_for-store.result c.args.file c.args.index c.in-Ok.s under v c.in-Ok.ensures
    (rw c.empty.ensures at c.in-Ok-write.ensures)
    (c.store_for-store.ensures ∙ ap (λ (n : ℕ). (c.args.file + c.args.index) % n) c.stores.ensures) agrees shows

pub returns-in-Ok-write-clause-root : goal.returns-in-Ok-write-clause-root
returns-in-Ok-write-clause-root g c =
    keeps-both (g.G.Pages.state c.args.pages.now) (g.G.Pages.state c.fresh.new.self) (g.G.Pages.state c.write.new.self)
    (fresh-keeps _ _ _ _ c.in-Ok.ensures)
    (keeps-written _ _ c.in-Ok.s _ (isnt-root c.in-Ok.s c.eq.result c.eq.ensures c.if-eq.false) c.in-Ok-write.ensures)

pub returns-in-Err-write-clause-goes_on : goal.returns-in-Err-write-clause-goes_on
returns-in-Err-write-clause-goes_on g c =
    goes_then _ _ _ (fresh-goes _ _ _ _ c.in-Ok.ensures) (goes_gives_up _ _ _ c.in-Err-write.ensures)

pub returns-in-Err-write-clause-root : goal.returns-in-Err-write-clause-root
returns-in-Err-write-clause-root g c =
    keeps-both (g.G.Pages.state c.args.pages.now) (g.G.Pages.state c.fresh.new.self) (g.G.Pages.state c.write.new.self)
    (fresh-keeps _ _ _ _ c.in-Ok.ensures) (keeps-gives_up _ _ _ c.in-Err-write.ensures)

pub returns-in-Err-write-clause-fault : goal.returns-in-Err-write-clause-fault
returns-in-Err-write-clause-fault g c =
    page-gives-up-later (g.G.Pages.state c.args.pages.now) (g.G.Pages.state c.fresh.new.self)
    (g.G.Pages.state c.write.new.self) (λ _. ⊤)
    c.in-Err-write.fault (fresh-goes _ _ _ _ c.in-Ok.ensures) c.in-Err-write.ensures
