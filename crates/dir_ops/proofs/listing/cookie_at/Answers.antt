-- A key of this table says its cookie.
use Rattle.std.proofs.Common.{◌∙◌, ap, sym, arith}
use Rattle.std.specs.Prelude.{option_and_then}
use Rattle.dir_ops.specs.Listing.{cookie_of}
use Rattle.dir_ops.proofs.Following.{own-key, own-fits}
use Rattle.dir_ops.proofs.listing.cookie_at.Goals as goal

pub returns-in-Some-clause-is : goal.returns-in-Some-clause-is
returns-in-Some-clause-is c = c.own_cookie.ensures ∙ ap (option_and_then (cookie_of c.args.directory)) c.in-Some.ensures

pub returns-in-Some-clause-key : goal.returns-in-Some-clause-key
returns-in-Some-clause-key c =
    own-key c.args.directory c.args.key.now c.in-Some.parts c.own_cookie.result (λ i. omega (arith, c.type_inv.key i))
    (sym c.in-Some.ensures) c.own_cookie.ensures

pub returns-in-Some-clause-fits : goal.returns-in-Some-clause-fits
returns-in-Some-clause-fits c =
    own-fits c.args.directory c.args.key.now c.in-Some.parts c.own_cookie.result (λ i. omega (arith, c.type_inv.key i))
    (sym c.in-Some.ensures) c.own_cookie.ensures

pub returns-in-None-clause-is : goal.returns-in-None-clause-is
returns-in-None-clause-is c = ap (option_and_then (cookie_of c.args.directory)) c.in-None.ensures
