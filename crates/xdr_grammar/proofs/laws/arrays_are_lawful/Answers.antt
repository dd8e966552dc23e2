use Rattle.xdr_grammar.proofs.Arrays.{items-laws, array-laws}
use Rattle.xdr_grammar.proofs.laws.arrays_are_lawful.Goals as goal

pub returns-clause-items : goal.returns-clause-items
returns-clause-items g c = items-laws c.args.n g.G.Lawful.grammar g.G.Lawful.laws

pub returns-clause-array : goal.returns-clause-array
returns-clause-array g c = array-laws c.args.n g.G.Lawful.grammar g.G.Lawful.laws
