use Rattle.std.proofs.Common.{◌≡◌, ◌∙◌, ap, rules}
use Rattle.fs_keys.specs.Values.{cookie_value, cookie_in}
use Rattle.fs_keys.proofs.ValueLaws.{cookie-again}
use Rattle.fs_keys.proofs.values.cookie_value.Goals as goal

pub returns-clause-again : goal.returns-clause-again
returns-clause-again c =
    let is : c.from_vec.result ≡ cookie_value c.args.row.now = search rules in
    ap cookie_in is ∙ cookie-again c.args.row.now c.in_ok-put_u64.ensures.fits c.requires
