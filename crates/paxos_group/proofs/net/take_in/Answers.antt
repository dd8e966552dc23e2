use Rattle.paxos_group.proofs.Replicas.{get_of_index, replaced_moved, replaced_kept, answered, on_ok, on_err, if_ok}
use Rattle.paxos_group.proofs.net.take_in.Goals as goal

pub returns-clause-moved : goal.returns-clause-moved
returns-clause-moved g c =
    on_ok c.on_message.result
    (replaced_moved c.args.acceptors.now.items c.args.replica c.index_mut-acceptor.result.now c.on_message.new.self
    c.args.message.now (get_of_index c.args.acceptors.now.items c.args.replica c.index_mut-acceptor.result.now c.requires
    c.index_mut-acceptor.ensures.value) c.on_message.ensures.replica)
    c.on_message.ensures.keeps

pub returns-clause-answer : goal.returns-clause-answer
returns-clause-answer g c =
    if_ok c.on_message.result
    (answered c.args.acceptors.now.items c.args.replica c.index_mut-acceptor.result.now c.on_message.new.self
    c.args.message.now (get_of_index c.args.acceptors.now.items c.args.replica c.index_mut-acceptor.result.now c.requires
    c.index_mut-acceptor.ensures.value) c.on_message.ensures.replica)
    c.on_message.ensures.answer

pub returns-clause-stays : goal.returns-clause-stays
returns-clause-stays g c =
    on_err c.on_message.result
    (replaced_kept c.args.acceptors.now.items c.args.replica c.index_mut-acceptor.result.now c.on_message.new.self
    c.args.message.now (get_of_index c.args.acceptors.now.items c.args.replica c.index_mut-acceptor.result.now c.requires
    c.index_mut-acceptor.ensures.value) c.on_message.ensures.replica)
    c.on_message.ensures.stays
