use Rattle.std.proofs.Common.{◌∙◌, arith}
use Rattle.std.proofs.lemmas.Bool.{ne_eqb}
use Rattle.rpc_records.proofs.ReaderLaws.{at_edge-head}
use Rattle.rpc_records.proofs.records.Records.at_edge.Goals as goal

pub returns-else-taken-eq0 : goal.returns-else-taken-eq0
returns-else-taken-eq0 c =
    let i = c.self.inside in
    ne_eqb c.in-Head.taken 0 c.if-taken-eq0.false
    ∙ at_edge-head i.stage c.in-Head.taken i.fragments i.content.items i.head c.args.self.now c.self.view_is c.in-Head.is
    (omega arith) (omega arith)
