use Rattle.std.proofs.Common.{◌≡◌, ◌∙◌, ap, rules}
use Rattle.fs_keys.specs.Values.{extent, extent_in}
use Rattle.fs_keys.proofs.ValueLaws.{extent-laws, said-again}
use Rattle.fs_keys.proofs.values.extent_value.Goals as goal

pub returns-clause-again : goal.returns-clause-again
returns-clause-again c =
    let is : c.from_vec.result ≡ extent.spelling c.args.row = search rules in
    ap extent_in is ∙ said-again extent extent-laws c.args.row c.in_ok-put_extent.ensures.fits
