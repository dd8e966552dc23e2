use Rattle.std.proofs.Common.{rules, refl, append_assoc, arith}
use Rattle.fs_keys.specs.Inodes.{head}
use Rattle.fs_keys.proofs.Fitting.{kind-fits}
use Rattle.fs_keys.proofs.value.put_head.Goals as goal

pub returns-clause-puts : goal.returns-clause-puts
unfolding head
returns-clause-puts c = record {
  ok = search (rules, append_assoc);
  len = search rules;
  front = λ front h. search rules;
  room = λ enough. search rules;
  capacity = omega arith;
}

pub returns-clause-fits : goal.returns-clause-fits
unfolding head
returns-clause-fits c = search (rules, kind-fits)
