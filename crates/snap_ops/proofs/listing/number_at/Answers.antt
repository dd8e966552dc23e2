-- A key of this table says its number.
use Rattle.std.proofs.Common.{◌∙◌, ap, sym, arith}
use Rattle.std.specs.Prelude.{option_and_then}
use Rattle.snap_ops.specs.Listing.{number_of}
use Rattle.snap_ops.proofs.Following.{own-key, own-fits}
use Rattle.snap_ops.proofs.listing.number_at.Goals as goal

pub returns-in-Some-clause-is : goal.returns-in-Some-clause-is
returns-in-Some-clause-is c = c.own_number.ensures ∙ ap (option_and_then number_of) c.in-Some.ensures

pub returns-in-Some-clause-key : goal.returns-in-Some-clause-key
returns-in-Some-clause-key c =
    own-key c.args.key.now c.in-Some.parts c.own_number.result (λ i. omega (arith, c.type_inv.key i)) (sym c.in-Some.ensures)
    c.own_number.ensures

pub returns-in-Some-clause-fits : goal.returns-in-Some-clause-fits
returns-in-Some-clause-fits c =
    own-fits c.args.key.now c.in-Some.parts c.own_number.result (λ i. omega (arith, c.type_inv.key i)) (sym c.in-Some.ensures)
    c.own_number.ensures

pub returns-in-None-clause-is : goal.returns-in-None-clause-is
returns-in-None-clause-is c = ap (option_and_then number_of) c.in-None.ensures
