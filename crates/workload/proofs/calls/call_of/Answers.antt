use Rattle.std.proofs.Common.{rules}
use Rattle.std.proofs.lemmas.Result.{IfOk-weaker}
use Rattle.workload.proofs.Making.{writing_is}
use Rattle.workload.proofs.calls.call_of.Goals as goal

pub returns-in-Writing : goal.returns-in-Writing
returns-in-Writing c =
    IfOk-weaker c.writing.result _ _ (λ call e.
    writing_is c.args.number c.args.choice c.args.known c.root.result c.unwrap_or.result c.in_ok-to.to call (search rules)
    c.root.ensures c.unwrap_or.ensures c.in_ok-to.ensures e) c.writing.ensures
