use Rattle.std.proofs.Common.{◌∙◌}
use Rattle.page_txn.proofs.Rechecked.{parts_may, rows_rechecked, rechecks_lacking}
use Rattle.page_txn.proofs.rechecking.recheck_rows.Goals as goal

pub recheck_parts-requires : goal.recheck_parts-requires
recheck_parts-requires g c =
    parts_may _ _ _ c.requires c.len-in_order.ensures.ordered _ c.stores-stores.ensures.stores
    c.stores-stores.ensures.some _ (c.deref.ensures.value ∙ c.in-Ok.ensures)

pub returns-in-Ok : goal.returns-in-Ok
returns-in-Ok g c =
    rows_rechecked _ _ _ c.requires c.len-in_order.ensures.ordered _ c.stores-stores.ensures.stores
    c.stores-stores.ensures.some _ (c.deref.ensures.value ∙ c.in-Ok.ensures) _ _ c.recheck_parts.ensures

pub returns-in-Err : goal.returns-in-Err
returns-in-Err g c = rechecks_lacking _ _ _
