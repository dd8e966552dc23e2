-- The reply is built from what the procedure gave, and checked.
use Rattle.nfs3_procs.proofs.Ended.{answers-so}
use Rattle.nfs3_procs.proofs.answering.body.Goals as goal

pub act-given-requires : goal.act-given-requires
act-given-requires g c = c.requires

pub returns : goal.returns
returns g c =
    answers-so g.P.Pairs.told c.args.pairs.now c.act-given.new.pairs
    (record { cred = c.args.cred.now; call = c.args.call.now; now = c.args.now; lane = c.args.lane })
    c.procedure-procedure.result c.act-given.result c.reply.result c.checked.result c.procedure-procedure.ensures c.reply.ensures
    c.checked.ensures.ok c.checked.ensures.fault c.act-given.ensures
