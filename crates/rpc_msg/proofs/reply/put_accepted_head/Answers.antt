use Rattle.std.proofs.Common.{rules, append_assoc, arith}
use Rattle.rpc_msg.proofs.ReplyHeads.{accepted_head-spelled, accepted_head_size}
use Rattle.rpc_msg.proofs.reply.put_accepted_head.Goals as goal

pub returns : goal.returns
returns c = record {
  ok = rw (accepted_head-spelled _ _ _) (search (rules, append_assoc));
  len = rw (accepted_head_size _ _ _) (search rules);
  front = λ front h. search rules;
  room = λ enough. let enough' = rw (accepted_head_size _ _ _) at enough in search rules;
  capacity = omega arith;
}
