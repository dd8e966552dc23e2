use Rattle.std.proofs.Common.{rules, append_assoc, arith}
use Rattle.nfs3_types.specs.Calls.{write_args}
use Rattle.nfs3_args.proofs.putting.put_write_args.Goals as goal

pub returns : goal.returns
unfolding write_args
returns c = record {
  ok = search (rules, append_assoc);
  len = search rules;
  front = λ front h. search rules;
  room = λ enough. search rules;
  capacity = omega arith;
}
