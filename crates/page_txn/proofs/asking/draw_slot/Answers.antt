use Rattle.std.proofs.Common.{refl, sym, ◌∙◌}
use Rattle.std.proofs.lemmas.Result.{err_from_is_err_and}
use Rattle.page_txn.proofs.Sequel.{far_none, far_of, asks_err, drawn_known, drawn_looked}
use Rattle.page_txn.proofs.Learned.{none_there}
use Rattle.page_txn.proofs.asking.draw_slot.Goals as goal

pub returns-in_err-number : goal.returns-in_err-number
returns-in_err-number g c =
    let p = err_from_is_err_and c.from_residual.result c.from_residual.ensures.1 in
    rw (p.1, p.2) (asks_err _ c.args.tid _ _ _ _ _ (far_none _ _) c.in_err-number.ensures)

pub returns-then-contains_key : goal.returns-then-contains_key
returns-then-contains_key g c = drawn_known c.args.rows.now c.args.store c.args.tid _ _ _ _ c.in_ok-number.ensures

pub look_at-requires : goal.look_at-requires
look_at-requires g c = rw c.draw.ensures.onward.origin c.requires

pub returns-in_err-version : goal.returns-in_err-version
returns-in_err-version g c =
    let p = err_from_is_err_and c.from_residual-in_err-version.result c.from_residual-in_err-version.ensures.1 in
    rw (p.1, p.2) (asks_err _ c.args.tid _ _ _ _ _ (far_of _ _ _ _ _ c.in_ok-number.ensures) c.in_err-version.ensures)

pub returns : goal.returns
returns g c =
    drawn_looked c.args.rows.now c.args.store c.args.tid _ _ _ _ _ _ refl
    (none_there _ (sym c.contains_key.ensures ∙ c.if-contains_key.false)) c.in_ok-number.ensures c.in_ok-version.ensures
