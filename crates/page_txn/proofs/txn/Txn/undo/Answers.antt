use Rattle.page_txn.proofs.Learned.{reads_kept, writes_none, standing_kept}
use Rattle.page_txn.proofs.txn.Txn.undo.Goals as goal

pub invariant_of-self : goal.invariant_of-self
invariant_of-self g c = record {
  is_empty = c.args.self.now.is_empty;
  standing = standing_kept _ _ c.forget.ensures _ _ _ c.args.self.now.standing;
}

pub returns-clause-reads : goal.returns-clause-reads
returns-clause-reads g c = reads_kept c.args.self.now.rows c.forget.new.rows c.forget.ensures

pub returns-clause-writes : goal.returns-clause-writes
returns-clause-writes g c = writes_none c.args.self.now.rows c.forget.new.rows c.forget.ensures
