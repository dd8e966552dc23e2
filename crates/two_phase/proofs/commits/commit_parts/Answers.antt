use Rattle.std.proofs.Common.{subst, List}
use Rattle.two_phase.specs.declared.parts.Part.{Part}
use Rattle.two_phase.specs.Parts.{IsTransaction}
use Rattle.two_phase.proofs.Several.{only_part}
use Rattle.two_phase.proofs.commits.commit_parts.Goals as goal

pub commit_alone-requires : goal.commit_alone-requires
commit_alone-requires g c =
    subst
    (λ (l : List Part). IsTransaction g.P.Rules.Meaning.stands g.P.Rules.Meaning.next (g.P.Port.state c.args.port.now)
    c.args.tid l c.args.entry)
    (only_part _ c.index-parts-0.result c.if-parts-eq1.true c.index-parts-0.is) c.requires
