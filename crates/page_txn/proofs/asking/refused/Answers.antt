use Rattle.page_txn.proofs.Answering.{refuses_ok, refuses_err}
use Rattle.page_txn.proofs.asking.refused.Goals as goal

pub returns-in-Ok : goal.returns-in-Ok
returns-in-Ok g c = refuses_ok _ _ _ _ _ _ c.in-Ok.ensures

pub returns : goal.returns
returns g c = refuses_err _ _ _ _ _ _ c.in-Err.ensures
