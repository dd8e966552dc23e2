use Rattle.std.proofs.Common.{arith, rules}
use Rattle.xdr_grammar.specs.Items.{opaque, fixed, word}
use Rattle.xdr_grammar.proofs.Writing.{not_failed}
use Rattle.xdr.proofs.put.put_opaque.Goals as goal

pub returns-in_err-reserve-clause-puts : goal.returns-in_err-reserve-clause-puts
unfolding opaque fixed word
returns-in_err-reserve-clause-puts c = λ max. search rules

pub returns-clause-err : goal.returns-clause-err
unfolding fixed word
returns-clause-err c = not_failed c.put_fixed.result _
    (c.put_fixed.ensures.puts.room (omega (
      arith,
      c.padding.ensures.is,
      c.in_ok-put_word.ensures.puts.len,
      c.put_word.ensures.puts.capacity,
      c.in_ok-reserve.ensures.ok,
    )))
