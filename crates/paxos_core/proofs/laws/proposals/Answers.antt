use Rattle.paxos_core.proofs.Stages.{stage_is, value_is, settled}
use Rattle.paxos_core.proofs.laws.proposals.Goals as goal

pub returns-clause-stage : goal.returns-clause-stage
returns-clause-stage g c n i b own messages = stage_is n i b own messages

pub returns-clause-value : goal.returns-clause-value
returns-clause-value g c n i b own last messages few = value_is n i b own last messages few

pub returns-clause-settled : goal.returns-clause-settled
returns-clause-settled g c n i b own later messages most = settled n i b own later messages most
