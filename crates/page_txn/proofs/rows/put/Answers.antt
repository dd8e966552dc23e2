use Rattle.std.proofs.Common.{Some}
use Rattle.page_txn.specs.declared.row.Row.{Row}
use Rattle.page_txn.proofs.Learned.{puts_row}
use Rattle.page_txn.proofs.rows.put.Goals as goal

pub returns-in-Some : goal.returns-in-Some
returns-in-Some c =
    let row : Row = record c.in-Some.row.now { written = Some c.args.page } in
    let updates = (c.get_mut.follows.holds row).3 c.requires in
    puts_row c.args.rows.now (c.get_mut.follows.lender row) c.args.s c.args.page c.in-Some.row.now c.in-Some.ensures.value
    updates.1 updates.2
