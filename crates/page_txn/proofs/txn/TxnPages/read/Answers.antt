use Rattle.std.proofs.Common.{refl, arith}
use Rattle.page_txn.proofs.Learned.{read_so}
use Rattle.page_txn.proofs.txn.TxnPages.read.Goals as goal

pub returns-in-Ok : goal.returns-in-Ok
returns-in-Ok g c = (
  (
    refl,
    λ _. tt,
    read_so _ _ c.args.s c.page.result.now (omega (arith, c.stores.ensures.stores, c.if-s-stores.false))
        c.in-Ok.ensures.ok c.page.ensures,
  ),
  record { after_borrow = tt },
)
