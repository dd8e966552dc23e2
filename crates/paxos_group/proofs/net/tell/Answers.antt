use Rattle.paxos_group.proofs.Going.{came_told, told_counted}
use Rattle.paxos_group.proofs.net.tell.Goals as goal

pub returns-clause-came : goal.returns-clause-came
returns-clause-came g c = came_told c.args.message.now c.args.proposer.now c.on_message.new.self c.in_ok-on_message.ensures.told

pub returns-clause-counted : goal.returns-clause-counted
returns-clause-counted g c =
    told_counted c.args.message.now c.args.proposer.now c.on_message.new.self c.in_ok-on_message.ensures.told
