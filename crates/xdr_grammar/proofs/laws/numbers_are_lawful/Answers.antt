use Rattle.xdr_grammar.proofs.Items.{word-laws, hyper-laws}
use Rattle.xdr_grammar.proofs.laws.numbers_are_lawful.Goals as goal

pub returns-clause-word : goal.returns-clause-word
returns-clause-word c = word-laws

pub returns-clause-hyper : goal.returns-clause-hyper
returns-clause-hyper c = hyper-laws
