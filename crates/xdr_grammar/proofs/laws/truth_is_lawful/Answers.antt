use Rattle.xdr_grammar.proofs.Items.{truth-laws}
use Rattle.xdr_grammar.proofs.laws.truth_is_lawful.Goals as goal

pub returns : goal.returns
returns c = truth-laws
