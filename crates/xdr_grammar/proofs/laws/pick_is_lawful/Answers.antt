use Rattle.xdr_grammar.proofs.Items.{pick-laws}
use Rattle.xdr_grammar.proofs.laws.pick_is_lawful.Goals as goal

pub returns : goal.returns
returns c = pick-laws c.args.low c.args.high
