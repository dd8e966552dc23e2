-- The key says the number, and the value the name.
use Rattle.std.proofs.Common.{sym, ◌∙◌, ap, inl, arith}
use Rattle.snap_ops.specs.Listing.{number_at}
use Rattle.snap_ops.proofs.listing.entry_said.Goals as goal

pub returns-in-None-clause-ok : goal.returns-in-None-clause-ok
returns-in-None-clause-ok c = ap number_at (sym c.as_slice.ensures) ∙ sym c.in-None.ensures.is

pub returns-in-None-checked_add-clause-fault : goal.returns-in-None-checked_add-clause-fault
returns-in-None-checked_add-clause-fault c = record {
  number = c.in-Some.number;
  fits = c.in-Some.ensures.fits;
  own = sym c.as_slice.ensures ∙ c.in-Some.ensures.key;
  beyond = inl (omega arith);
}
