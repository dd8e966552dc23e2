use Rattle.xdr_grammar.proofs.Whole.{takes_size}
use Rattle.xdr_grammar.proofs.laws.what_is_read_takes_its_size.Goals as goal

pub returns : goal.returns
returns g c = takes_size g.G.Lawful.grammar g.G.Lawful.laws
