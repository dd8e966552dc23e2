use Rattle.service.proofs.FedSteps.{fed-is, fed-front}
use Rattle.service.proofs.laws.fed_as_if_memory_sufficed.Goals as goal

pub returns-clause-replies : goal.returns-clause-replies
returns-clause-replies g c = fed-is g.T.Tree.answering

pub returns-clause-first : goal.returns-clause-first
returns-clause-first g c = fed-front
