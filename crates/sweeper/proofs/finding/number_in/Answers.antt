-- A key that has the front and eight bytes more says their number.
use Rattle.std.proofs.Common.{◌∙◌, ap, arith, ◌-◌, length, drop}
use Rattle.std.proofs.lemmas.List.{length-append, length-drop, take_all}
use Rattle.byteorder.specs.Endian.{big_number}
use Rattle.sweeper.proofs.Ordered.{number-there}
use Rattle.sweeper.proofs.finding.number_in.Goals as goal

pub returns-then-key-front-clause-none : goal.returns-then-key-front-clause-none
returns-then-key-front-clause-none c = λ is rest same long.
    c.if-key-front.true (omega (arith, ap length same, length-append c.args.front.now rest, long))

pub returns-then-not-begins-clause-none : goal.returns-then-not-begins-clause-none
returns-then-not-begins-clause-none c = λ is rest same long. c.begins.ensures.none c.if-not-begins.true rest same

pub returns-clause-some : goal.returns-clause-some
returns-clause-some c =
    let begun = c.begins.ensures.some c.if-not-begins.false in
    number-there c.args.front.now c.args.key.now begun.0 c.read_u64.result (λ i. omega (arith, c.type_inv.key i))
    c.if-key-front.false begun.1
    (c.read_u64.ensures ∙ ap (big_number 8)
    (take_all (length c.args.key.now - length c.args.front.now) (drop (length c.args.front.now) c.args.key.now)
    (omega (arith, length-drop (length c.args.front.now) c.args.key.now))))
