use Rattle.std.proofs.Common.{refl, rules}
use Rattle.xdr_grammar.specs.Items.{fixed}
use Rattle.fs_keys.specs.Values.{first}
use Rattle.fs_keys.proofs.values.put_first.Goals as goal

pub returns-clause-fits : goal.returns-clause-fits
unfolding first fixed
returns-clause-fits c = record {
  first = c.in_ok-put_u64.ensures.fits;
  second = record {
    first = c.in_ok-put_u64-2.ensures.fits;
    second = record { first = search rules; second = refl };
  };
}
