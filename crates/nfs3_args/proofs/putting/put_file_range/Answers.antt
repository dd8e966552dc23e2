use Rattle.std.proofs.Common.{rules, append_assoc, arith}
use Rattle.nfs3_types.specs.Calls.{file_range}
use Rattle.nfs3_args.proofs.putting.put_file_range.Goals as goal

pub returns : goal.returns
unfolding file_range
returns c = record {
  ok = search (rules, append_assoc);
  len = search rules;
  front = λ front h. search rules;
  room = λ enough. search rules;
  capacity = omega arith;
}
