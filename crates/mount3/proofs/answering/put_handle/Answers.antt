use Rattle.std.proofs.Common.{rules, append_assoc, arith}
use Rattle.mount3.proofs.Bodies.{root_handle-spelled, root_handle_size}
use Rattle.mount3.proofs.answering.put_handle.Goals as goal

pub returns : goal.returns
returns c = record {
  ok = rw (root_handle-spelled _) (search (rules, append_assoc));
  len = rw (root_handle_size _) (search rules);
  front = λ front h. search rules;
  room = λ enough. let enough' = rw (root_handle_size _) at enough in search rules;
  capacity = omega arith;
}
