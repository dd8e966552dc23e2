use Rattle.std.proofs.Common.{rules, append_assoc, arith}
use Rattle.mount3.proofs.Bodies.{flavors-spelled, flavors_size}
use Rattle.mount3.proofs.answering.put_flavors.Goals as goal

pub returns : goal.returns
returns c = record {
  ok = rw (flavors-spelled) (search (rules, append_assoc));
  len = rw (flavors_size) (search rules);
  front = λ front h. search rules;
  room = λ enough. let enough' = rw (flavors_size) at enough in search rules;
  capacity = omega arith;
}
