use Rattle.std.proofs.Common.{rules, append_assoc, arith}
use Rattle.nfs3_types.specs.Attributes.{fattr}
use Rattle.nfs3_items.proofs.put_attributes.put_fattr.Goals as goal

pub returns : goal.returns
unfolding fattr
returns c = record {
  ok = search (rules, append_assoc);
  len = search rules;
  front = λ front h. search rules;
  room = λ enough. search rules;
  capacity = omega arith;
}
