use Rattle.xdr_grammar.proofs.Whole.{whole-laws}
use Rattle.xdr_grammar.proofs.laws.whole_texts_are_lawful.Goals as goal

pub returns : goal.returns
returns g c = whole-laws g.G.Lawful.grammar g.G.Lawful.laws
