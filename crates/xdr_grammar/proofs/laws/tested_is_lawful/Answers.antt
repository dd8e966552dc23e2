use Rattle.xdr_grammar.proofs.Items.{tested-laws}
use Rattle.xdr_grammar.proofs.laws.tested_is_lawful.Goals as goal

pub returns : goal.returns
returns g c = λ test refusal. tested-laws g.G.Lawful.grammar test refusal g.G.Lawful.laws
