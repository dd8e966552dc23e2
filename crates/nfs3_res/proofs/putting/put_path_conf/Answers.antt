use Rattle.std.proofs.Common.{rules, append_assoc, arith}
use Rattle.nfs3_types.specs.Replies.{path_conf_ok}
use Rattle.nfs3_res.proofs.putting.put_path_conf.Goals as goal

pub returns : goal.returns
unfolding path_conf_ok
returns c = record {
  ok = search (rules, append_assoc);
  len = search rules;
  front = λ front h. search rules;
  room = λ enough. search rules;
  capacity = omega arith;
}
