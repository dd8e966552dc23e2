use Rattle.std.proofs.Common.{rules, append_assoc, arith}
use Rattle.nfs3_types.specs.Calls.{read_dir_args}
use Rattle.nfs3_args.proofs.putting.put_read_dir_args.Goals as goal

pub returns : goal.returns
unfolding read_dir_args
returns c = record {
  ok = search (rules, append_assoc);
  len = search rules;
  front = λ front h. search rules;
  room = λ enough. search rules;
  capacity = omega arith;
}
