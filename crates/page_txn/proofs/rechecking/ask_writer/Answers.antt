use Rattle.std.proofs.lemmas.Result.{err_from_is_err_and}
use Rattle.page_txn.proofs.Rechecked.{looks_lacking, fair_write, writer_missed, writer_met, met_of}
use Rattle.page_txn.proofs.rechecking.ask_writer.Goals as goal

pub returns-in_err-command : goal.returns-in_err-command
returns-in_err-command g c =
    let p = err_from_is_err_and c.from_residual.result c.from_residual.ensures.1 in
    rw (p.1, p.2) (looks_lacking _ _ _ _)

pub retry-requires-clause-store : goal.retry-requires-clause-store
retry-requires-clause-store g c = c.requires.below

pub retry-requires-clause-fair : goal.retry-requires-clause-fair
retry-requires-clause-fair g c =
    rw c.in_ok-command.ensures
    (fair_write g.P.Rules.Meaning.stands g.P.Rules.Meaning.next _ _ _ c.args.read c.requires)

pub returns-in_err-answer : goal.returns-in_err-answer
returns-in_err-answer g c =
    let p = err_from_is_err_and c.from_residual-in_err-answer.result c.from_residual-in_err-answer.ensures.1 in
    rw (p.1, p.2)
    (writer_missed _ _ (g.P.Port.state c.args.port.now) _ c.args.store c.args.read _ c.in_ok-command.ensures _
    c.in_err-answer.ensures)

pub meet-requires : goal.meet-requires
meet-requires g c = met_of _ _ _ _ _ c.in_ok-answer.ensures

pub returns : goal.returns
returns g c =
    writer_met _ _ _ _ c.args.store c.args.read _ c.in_ok-command.ensures c.in_ok-answer.answer c.in_ok-answer.ensures _
    c.meet.ensures
