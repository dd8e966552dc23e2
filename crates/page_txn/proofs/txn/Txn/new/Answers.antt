use Rattle.page_txn.proofs.Moving.{standing_new, nothing_in}
use Rattle.page_txn.proofs.txn.Txn.new.Goals as goal

pub invariant_of-result : goal.invariant_of-result
invariant_of-result g c = record {
  is_empty = c.empty-empty.ensures;
  standing = standing_new _ _ _ _ c.requires.start c.requires.of_pass c.requires.fresh c.new-rows.ensures.empty;
}

pub returns-clause-reads : goal.returns-clause-reads
returns-clause-reads g c = (nothing_in c.new-rows.result c.new-rows.ensures.empty).0

pub returns-clause-writes : goal.returns-clause-writes
returns-clause-writes g c = (nothing_in c.new-rows.result c.new-rows.ensures.empty).1
