use Rattle.paxos_core.proofs.acceptor.Acceptor.on_message.Goals as goal

pub returns-in-Ask-clause-answer : goal.returns-in-Ask-clause-answer
returns-in-Ask-clause-answer g c = rw c.in-Ask.is c.on_ask.ensures.answer

pub returns-in-Put-clause-answer : goal.returns-in-Put-clause-answer
returns-in-Put-clause-answer g c = rw c.in-Put.is c.on_put.ensures.answer
