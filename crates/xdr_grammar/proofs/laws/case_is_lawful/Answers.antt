use Rattle.xdr_grammar.proofs.Choices.{in_case-laws}
use Rattle.xdr_grammar.proofs.laws.case_is_lawful.Goals as goal

pub returns : goal.returns
returns g c = λ make content back. in_case-laws make content g.G.Lawful.grammar g.G.Lawful.laws back
