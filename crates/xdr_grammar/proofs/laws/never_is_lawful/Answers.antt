use Rattle.xdr_grammar.proofs.Choices.{never-laws}
use Rattle.xdr_grammar.proofs.laws.never_is_lawful.Goals as goal

pub returns : goal.returns
returns g c = never-laws
