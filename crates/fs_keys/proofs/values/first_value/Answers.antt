use Rattle.std.proofs.Common.{◌≡◌, ◌∙◌, ap, rules}
use Rattle.fs_keys.specs.Values.{first, first_in}
use Rattle.fs_keys.proofs.ValueLaws.{first-laws, said-again}
use Rattle.fs_keys.proofs.values.first_value.Goals as goal

pub returns-clause-again : goal.returns-clause-again
returns-clause-again c =
    let is : c.from_vec.result ≡ first.spelling c.args.row.now = search rules in
    ap first_in is ∙ said-again first first-laws c.args.row.now c.in_ok-put_first.ensures.fits
