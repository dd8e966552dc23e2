use Rattle.xdr_grammar.proofs.Composed.{both-laws}
use Rattle.xdr_grammar.proofs.laws.then_is_lawful.Goals as goal

pub returns : goal.returns
returns g c =
    let f = g.F.Following in
    both-laws f.part f.next f.part_laws f.next_laws f.keeps
