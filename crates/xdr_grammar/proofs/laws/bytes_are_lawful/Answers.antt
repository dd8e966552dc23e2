use Rattle.xdr_grammar.proofs.Items.{fixed-laws, opaque-laws}
use Rattle.xdr_grammar.proofs.laws.bytes_are_lawful.Goals as goal

pub returns-clause-fixed : goal.returns-clause-fixed
returns-clause-fixed c = fixed-laws c.args.n

pub returns-clause-opaque : goal.returns-clause-opaque
returns-clause-opaque c = opaque-laws c.args.n
