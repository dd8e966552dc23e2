use Rattle.std.proofs.Common.{rules, arith}
use Rattle.std.proofs.lemmas.Grind.{common_steps}
use Rattle.xdr_grammar.specs.Arrays.{items}
use Rattle.nfs3_res.proofs.items.put_items.Goals as goal

pub returns-in_err-put_marked : goal.returns-in_err-put_marked
unfolding items
returns-in_err-put_marked g c = record {
  ok = search rules;
  len = search rules;
  front = λ front h. search rules;
  room = λ enough. grind (arith, common_steps);
  capacity = omega arith;
}
