use Rattle.xdr_grammar.proofs.Entries.{entries-laws}
use Rattle.xdr_grammar.proofs.laws.entries_are_lawful.Goals as goal

pub returns : goal.returns
returns g c = entries-laws g.G.Lawful.grammar g.G.Lawful.laws
