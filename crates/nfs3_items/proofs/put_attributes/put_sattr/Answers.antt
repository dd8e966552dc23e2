use Rattle.std.proofs.Common.{rules, append_assoc, arith}
use Rattle.nfs3_types.specs.Attributes.{sattr}
use Rattle.nfs3_items.proofs.put_attributes.put_sattr.Goals as goal

pub returns : goal.returns
unfolding sattr
returns c = record {
  ok = search (rules, append_assoc);
  len = search rules;
  front = λ front h. search rules;
  room = λ enough. search rules;
  capacity = omega arith;
}
