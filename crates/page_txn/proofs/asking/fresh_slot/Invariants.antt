use Rattle.page_txn.proofs.Sequel.{Far}
use Rattle.page_txn.proofs.asking.fresh_slot.Given as goal

abbrev pub invariant-loop-turn : goal.invariant-loop-turn
invariant-loop-turn g l = Far l.tid (g.P.Port.state l.fn.port) (g.P.Port.state l.port)
