use Rattle.xdr_grammar.proofs.Enumerations.{enumeration-laws}
use Rattle.xdr_grammar.proofs.laws.enumeration_is_lawful.Goals as goal

pub returns : goal.returns
returns g c = enumeration-laws
