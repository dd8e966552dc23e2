use Rattle.std.proofs.lemmas.Result.{err_from_is_err_and}
use Rattle.page_txn.proofs.Rechecked.{looks_lacking, part_missed, part_may, part_long, part_met, part_compared, part_refused}
use Rattle.page_txn.proofs.rechecking.recheck_part.Goals as goal

pub returns-in_err-command : goal.returns-in_err-command
returns-in_err-command g c =
    let p = err_from_is_err_and c.from_residual.result c.from_residual.ensures.1 in
    rw (p.1, p.2) (looks_lacking _ _ _ _)

pub retry-requires-clause-store : goal.retry-requires-clause-store
retry-requires-clause-store g c = c.requires.below

pub retry-requires-clause-fair : goal.retry-requires-clause-fair
retry-requires-clause-fair g c = rw c.in_ok-command.ensures tt

pub returns-in_err-answer : goal.returns-in_err-answer
returns-in_err-answer g c =
    let p = err_from_is_err_and c.from_residual-in_err-answer.result c.from_residual-in_err-answer.ensures.1 in
    rw (p.1, p.2) (part_missed _ _ _ c.args.part.now _ (rw c.as_slice.ensures at c.in_ok-command.ensures) _
    c.in_err-answer.ensures)

pub compare-requires-clause-may : goal.compare-requires-clause-may
compare-requires-clause-may g c =
    part_may _ _ c.args.tid c.args.part.now _ (rw c.as_slice.ensures at c.in_ok-command.ensures) c.in_ok-answer.answer
    c.in_ok-answer.ensures c.requires

pub compare-requires-clause-long : goal.compare-requires-clause-long
compare-requires-clause-long g c =
    rw c.as_slice-listed.ensures
    (part_long _ _ c.args.tid c.args.part.now _ (rw c.as_slice.ensures at c.in_ok-command.ensures) c.in_ok-answer.answer
    c.in_ok-answer.ensures _
    c.in-Ok.ensures)

pub returns-in-Ok : goal.returns-in-Ok
returns-in-Ok g c =
    part_compared _ _ c.args.tid c.args.part.now _ (rw c.as_slice.ensures at c.in_ok-command.ensures) c.in_ok-answer.answer
    c.in_ok-answer.ensures _ _ _
    c.in-Ok.ensures c.requires (rw c.as_slice-listed.ensures at c.compare.ensures)

pub meet-requires : goal.meet-requires
meet-requires g c =
    part_met _ _ c.args.tid c.args.part.now _ (rw c.as_slice.ensures at c.in_ok-command.ensures) c.in_ok-answer.answer
    c.in_ok-answer.ensures _
    c.in-Err.ensures.0

pub returns : goal.returns
returns g c =
    part_refused _ _ c.args.tid c.args.part.now _ (rw c.as_slice.ensures at c.in_ok-command.ensures) c.in_ok-answer.answer
    c.in_ok-answer.ensures _ _ _
    c.in-Err.ensures.0 c.in-Err.ensures.1 c.meet.ensures
