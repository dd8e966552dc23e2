use Rattle.std.proofs.Common.{◌≡◌, ◌∙◌, ap, rules}
use Rattle.fs_keys.specs.Values.{times, times_in}
use Rattle.fs_keys.proofs.ValueLaws.{times-laws, said-again}
use Rattle.fs_keys.proofs.values.times_value.Goals as goal

pub returns-clause-again : goal.returns-clause-again
returns-clause-again c =
    let is : c.from_vec.result ≡ times.spelling c.args.row = search rules in
    ap times_in is ∙ said-again times times-laws c.args.row c.in_ok-put_times.ensures.fits
