use Rattle.xdr_grammar.proofs.Choices.{optional-laws}
use Rattle.xdr_grammar.proofs.laws.optional_is_lawful.Goals as goal

pub returns : goal.returns
returns g c = optional-laws g.G.Lawful.grammar g.G.Lawful.laws
