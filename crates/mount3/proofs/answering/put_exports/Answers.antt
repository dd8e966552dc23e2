use Rattle.std.proofs.Common.{rules, append_assoc, arith}
use Rattle.mount3.proofs.Bodies.{exported-spelled, exported_size}
use Rattle.mount3.proofs.answering.put_exports.Goals as goal

pub returns-in_err-put_opaque : goal.returns-in_err-put_opaque
returns-in_err-put_opaque c =
    let put = c.put_opaque.ensures.puts 1024 in
    record {
      ok = search rules;
      len = search rules;
      front = λ front h. search rules;
      room = λ enough. let more = rw (exported_size) at enough in search rules;
      capacity = omega arith;
    }

pub returns-in_err-put_truth-2 : goal.returns-in_err-put_truth-2
returns-in_err-put_truth-2 c =
    let put = c.in_ok-put_opaque.ensures.puts 1024 in
    record {
      ok = search rules;
      len = search rules;
      front = λ front h. search rules;
      room = λ enough. let more = rw (exported_size) at enough in search rules;
      capacity = omega arith;
    }

pub returns : goal.returns
returns c =
    let put = c.in_ok-put_opaque.ensures.puts 1024 in
    record {
      ok = rw (exported-spelled) (search (rules, append_assoc));
      len = rw (exported_size) (search rules);
      front = λ front h. search rules;
      room = λ enough. let more = rw (exported_size) at enough in search rules;
      capacity = omega arith;
    }
