-- The key says the cookie, and the value the rest.
use Rattle.std.proofs.Common.{sym, ◌∙◌, ap}
use Rattle.fs_keys.specs.Values.{cookie_in}
use Rattle.dir_ops.specs.Listing.{cookie_at}
use Rattle.dir_ops.proofs.listing.entry_said.Goals as goal

pub returns-in-None-clause-ok : goal.returns-in-None-clause-ok
returns-in-None-clause-ok c = ap (cookie_at c.args.directory) (sym c.as_slice.ensures) ∙ sym c.in-None.ensures.is

pub returns-in-Some-said-clause-ok : goal.returns-in-Some-said-clause-ok
returns-in-Some-said-clause-ok c = (
  sym c.as_slice.ensures ∙ c.in-Some.ensures.key,
  c.in-Some.ensures.fits,
  ap cookie_in (sym c.as_slice-2.ensures) ∙ sym c.in-Ok.ensures ∙ c.in-Some-said.is,
)

pub returns-in-None-said-clause-fault : goal.returns-in-None-said-clause-fault
returns-in-None-said-clause-fault c = record {
  cookie = c.in-Some.cookie;
  fits = c.in-Some.ensures.fits;
  own = sym c.as_slice.ensures ∙ c.in-Some.ensures.key;
  nothing = ap cookie_in (sym c.as_slice-2.ensures) ∙ sym c.in-Ok.ensures ∙ c.in-None-said.is;
}
