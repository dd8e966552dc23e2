use Rattle.std.proofs.Common.{refl}
use Rattle.std.proofs.lemmas.Result.{err_from_is_err_and}
use Rattle.page_types.specs.declared.command.Command.TheVariants.{Fresh}
use Rattle.page_txn.proofs.Answering.{asks_missed, asks_drawn}
use Rattle.page_txn.proofs.asking.draw.Goals as goal

pub returns-in_err-answer : goal.returns-in_err-answer
returns-in_err-answer g c =
    let p = err_from_is_err_and c.from_residual.result c.from_residual.ensures.1 in
    rw (p.1, p.2) (asks_missed _ c.args.tid _ _ c.args.store Fresh refl _ c.in_err-answer.ensures)

pub returns : goal.returns
returns g c =
    asks_drawn _ c.args.tid _ _ c.args.store Fresh c.in_ok-answer.answer _ refl (λ part. tt) c.in_ok-answer.ensures
