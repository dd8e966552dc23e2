use Rattle.std.proofs.Common.{◌≡◌, ◌∙◌, ap, rules}
use Rattle.xdr_grammar.specs.Items.{hyper}
use Rattle.xdr_grammar.proofs.Items.{hyper-laws}
use Rattle.fs_keys.specs.Values.{lane_in}
use Rattle.fs_keys.proofs.ValueLaws.{said-again}
use Rattle.fs_keys.proofs.values.lane_value.Goals as goal

pub returns-clause-again : goal.returns-clause-again
returns-clause-again c =
    let is : c.from_vec.result ≡ hyper.spelling c.args.next = search rules in
    ap lane_in is ∙ said-again hyper hyper-laws c.args.next c.in_ok-put_u64.ensures.fits
