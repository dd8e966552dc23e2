use Rattle.std.proofs.lemmas.Result.{err_from_is_err_and}
use Rattle.page_txn.proofs.Learned.{row_known, writes_so, standing_put}
use Rattle.page_txn.proofs.txn.TxnPages.write.Goals as goal

pub returns-in_err-learn : goal.returns-in_err-learn
returns-in_err-learn g c =
    let p = err_from_is_err_and c.from_residual.result c.from_residual.ensures.1 in
    rw (p.1, p.2) c.in_err-learn.ensures.err

pub put-requires : goal.put-requires
put-requires g c = row_known _ c.in_ok-learn.ensures.ok.learns.known

pub invariant_of-self : goal.invariant_of-self
invariant_of-self g c = record {
  is_empty = c.learn.new.self.is_empty;
  standing = standing_put _ _ _ _ c.put.ensures _ _ _ c.learn.new.self.standing;
}

pub returns : goal.returns
returns g c =
    writes_so c.learn.new.self.rows c.put.new.rows c.args.s c.args.p c.put.ensures c.args.self.now.tid
    c.learn.new.self.tid (g.P.Port.state c.args.self.now.port) (g.P.Port.state c.learn.new.self.port)
    c.args.self.now.rows (row_known _ c.in_ok-learn.ensures.ok.learns.known)
    c.in_ok-learn.ensures.ok
