use Rattle.xdr_grammar.proofs.Whole.{is_unambiguous}
use Rattle.xdr_grammar.proofs.laws.no_spelling_begins_another.Goals as goal

pub returns : goal.returns
returns g c = is_unambiguous g.G.Lawful.grammar g.G.Lawful.laws
