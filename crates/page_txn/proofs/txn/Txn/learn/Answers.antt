use Rattle.page_txn.proofs.Moving.{standing_moved, learns_ok, learns_err}
use Rattle.page_txn.proofs.txn.Txn.learn.Goals as goal

pub invariant_of-self : goal.invariant_of-self
invariant_of-self g c = record {
  is_empty = c.args.self.now.is_empty;
  standing = standing_moved _ _ _ _ _ _ c.args.self.now.standing c.learn_row.ensures.moves;
}

pub returns-clause-ok : goal.returns-clause-ok
returns-clause-ok g c = learns_ok _ _ _ _ _ c.learn_row.ensures

pub returns-clause-err : goal.returns-clause-err
returns-clause-err g c = learns_err _ _ _ _ _ c.learn_row.ensures
