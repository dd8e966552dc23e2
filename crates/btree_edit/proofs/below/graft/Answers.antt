use Rattle.std.proofs.Common.{◌≡◌, arith}
use Rattle.btree_page.specs.Content.{inner_entry}
use Rattle.std.specs.List.{insert}
use Rattle.btree_edit.specs.Edits.{bound_at}
use Rattle.btree_edit.proofs.Placed.{grafted, made_any}
use Rattle.btree_edit.proofs.below.graft.Goals as goal
use Rattle.btree_edit.proofs.below.graft.Goals.{then-here-at-via-then-here-at, then-here-at-via-else-here-at+then-past-at}

pub returns-then-here-at : goal.returns-then-here-at
returns-then-here-at c = λ f g. elim c.then-here-at.branch [
  | then-here-at-via-then-here-at w ↦ w.if-here-at.true (f c.find_in-here.result c.find_in-here.ensures)
  | then-here-at-via-else-here-at+then-past-at w ↦ w.if-past-at.true (g c.find_past-past.result c.find_past-past.ensures)
]

pub put_in-requires-clause-within : goal.put_in-requires-clause-within
put_in-requires-clause-within c = omega (arith, c.find_in-here.ensures.within, c.if-here-at.false)

pub put_in-requires-clause-nearly : goal.put_in-requires-clause-nearly
put_in-requires-clause-nearly c =
    (grafted c.args.view.now _ c.args.at c.find_in-here.result c.find_past-past.result (bound_at c.args.key.now c.args.birth)
    c.args.child
    c.requires.inner c.requires.behind c.requires.rules c.find_in-here.ensures c.find_past-past.ensures c.if-here-at.false
    c.if-past-at.false c.inner_cell-cell.ensures.cell c.inner_cell-cell.ensures.fits).1

pub returns-in-Ok : goal.returns-in-Ok
returns-in-Ok c =
    let done = grafted c.args.view.now _ c.args.at c.find_in-here.result c.find_past-past.result
    (bound_at c.args.key.now c.args.birth) c.args.child
    c.requires.inner c.requires.behind c.requires.rules c.find_in-here.ensures c.find_past-past.ensures c.if-here-at.false
    c.if-past-at.false c.inner_cell-cell.ensures.cell c.inner_cell-cell.ensures.fits in
    made_any c.args.view.now.level (λ cells. cells ≡ insert c.args.view.now.cells c.args.at
    (inner_entry c.args.key.now c.args.birth c.args.child)) _ c.in-Ok.edited done.0 done.1 c.in-Ok.ensures
