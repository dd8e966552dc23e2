use Rattle.std.proofs.Common.{take}
use Rattle.page_txn.proofs.Rechecked.{LookingAt}
use Rattle.page_txn.proofs.rechecking.recheck_parts.Given as goal

abbrev pub invariant-loop-part : goal.invariant-loop-part
invariant-loop-part g l =
    LookingAt (g.P.Port.state l.fn.port) (g.P.Port.state l.port) l.tid l.parts (take l.part-index l.parts)
