use Rattle.paxos_core.proofs.Runs.{agree, stays, known, kept}
use Rattle.paxos_core.proofs.Witness.{can_choose}
use Rattle.paxos_core.proofs.laws.agreement.Goals as goal

pub returns-clause-agree : goal.returns-clause-agree
returns-clause-agree g c n i x y events more own h k = agree n i x y events more own h k

pub returns-clause-stays : goal.returns-clause-stays
returns-clause-stays g c n i x events more h = stays n i x events more h

pub returns-clause-known : goal.returns-clause-known
returns-clause-known g c n i b p events own there stage = known n i b p events own there stage

pub returns-clause-possible : goal.returns-clause-possible
returns-clause-possible g c v = can_choose v

pub returns-clause-kept : goal.returns-clause-kept
returns-clause-kept g c n r i events own = kept n r i events own
