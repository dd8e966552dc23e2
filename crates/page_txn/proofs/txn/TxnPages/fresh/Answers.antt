use Rattle.page_txn.proofs.Moving.{standing_moved, freshens_result}
use Rattle.page_txn.proofs.txn.TxnPages.fresh.Goals as goal

pub invariant_of-self : goal.invariant_of-self
invariant_of-self g c = record {
  is_empty = c.args.self.now.is_empty;
  standing = standing_moved _ _ _ _ _ _ c.args.self.now.standing c.freshen_row.ensures.moves;
}

pub returns : goal.returns
returns g c = freshens_result _ _ _ _ _ c.freshen_row.ensures
