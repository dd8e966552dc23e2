use Rattle.page_txn.proofs.Rechecked.{may_recheck}
use Rattle.page_txn.proofs.txn.Txn.recheck.Goals as goal

pub recheck_rows-found-requires : goal.recheck_rows-found-requires
recheck_rows-found-requires g c = may_recheck _ _ _ _ c.args.self.standing
