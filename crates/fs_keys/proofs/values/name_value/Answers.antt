use Rattle.std.proofs.Common.{◌≡◌, ◌∙◌, ap, rules}
use Rattle.fs_keys.specs.Values.{name, name_in}
use Rattle.fs_keys.proofs.ValueLaws.{name-laws, said-again}
use Rattle.fs_keys.proofs.values.name_value.Goals as goal

pub returns-clause-again : goal.returns-clause-again
returns-clause-again c =
    let is : c.from_vec.result ≡ name.spelling c.args.row = search rules in
    ap name_in is ∙ said-again name name-laws c.args.row c.in_ok-put_name.ensures.fits
