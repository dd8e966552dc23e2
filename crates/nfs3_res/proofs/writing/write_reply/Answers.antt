use Rattle.std.proofs.Common.{arith}
use Rattle.xdr_grammar.proofs.Writing.{not_failed, reserved}
use Rattle.nfs3_types.specs.Replies.{result_of, outcome_of}
use Rattle.nfs3_res.proofs.writing.write_reply.Goals as goal

pub returns-clause-puts : goal.returns-clause-puts
returns-clause-puts c =
    let r = c.args.r.now in
    reserved (result_of r.procedure) (outcome_of r) c.args.out.now c.reserve.new.self c.put_result.new.out c.put_result.result
    c.reserve.ensures.items c.reserve.ensures.len c.reserve.ensures.capacity c.put_result.ensures

pub returns-clause-err : goal.returns-clause-err
returns-clause-err c = not_failed c.put_result.result _
    (c.put_result.ensures.room (omega (arith, c.reply_size.ensures, c.reserve.ensures.len, c.in_ok-reserve.ensures.ok)))
