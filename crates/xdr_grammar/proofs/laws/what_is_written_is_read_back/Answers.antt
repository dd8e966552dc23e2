use Rattle.xdr_grammar.proofs.Whole.{is_read_back}
use Rattle.xdr_grammar.proofs.laws.what_is_written_is_read_back.Goals as goal

pub returns : goal.returns
returns g c = is_read_back g.G.Lawful.grammar g.G.Lawful.laws
