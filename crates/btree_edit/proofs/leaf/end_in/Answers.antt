use Rattle.std.proofs.Common.{◌+◌, ap, ◌∙◌, arith}
use Rattle.btree_page.specs.Content.{Entry}
use Rattle.btree_page.specs.Cells.{entry_of}
use Rattle.btree_edit.specs.Edits.{bound_at}
use Rattle.btree_edit.specs.Changes.{ended, EndsCell, IsMissing}
use Rattle.btree_edit.proofs.Lists.{few_cells}
use Rattle.btree_edit.proofs.Leaves.{none_at, found_at}
use Rattle.btree_edit.proofs.Placed.{ended_leaf, answered, one_there, some_there}
use Rattle.btree_edit.proofs.leaf.end_in.Goals as goal

pub returns-then-at-find_past : goal.returns-then-at-find_past
returns-then-at-find_past c = none_at _ c.args.view.now.cells c.find_in-at.result c.find_past.result c.find_in-at.ensures
    c.find_past.ensures c.if-at-find_past.true

pub unwrap-requires : goal.unwrap-requires
unwrap-requires c =
    let found = found_at _ c.args.view.now.cells c.find_in-at.result c.find_past.result c.find_in-at.ensures c.find_past.ensures
    c.if-at-find_past.false in
    some_there c.cell.result _ c.cell.ensures.none (λ le. omega (arith, found.0))

pub overflow_add-at : goal.overflow_add-at
overflow_add-at c =
    let found = found_at _ c.args.view.now.cells c.find_in-at.result c.find_past.result c.find_in-at.ensures c.find_past.ensures
    c.if-at-find_past.false in
    omega (arith, found.0, few_cells c.args.view.now c.requires.rules)

pub put_in-requires-clause-nearly : goal.put_in-requires-clause-nearly
put_in-requires-clause-nearly c =
    let at_cell = rw c.unwrap.ensures at c.cell.ensures.cell in
    (ended_leaf (bound_at c.args.key.now c.args.birth) c.args.death c.args.view.now (entry_of c.with_death-cell.result)
    c.find_in-at.result c.find_past.result c.requires.leaf c.requires.rules
    c.find_in-at.ensures c.find_past.ensures c.if-at-find_past.false c.ranges.death.fits
    (λ e there. c.with_death-cell.ensures ∙ ap (λ (y : Entry). ended c.args.death y)
    (one_there c.args.view.now.cells c.find_in-at.result _ e at_cell there))).1

pub returns : goal.returns
returns c =
    let at_cell = rw c.unwrap.ensures at c.cell.ensures.cell in
    let done = ended_leaf (bound_at c.args.key.now c.args.birth) c.args.death c.args.view.now (entry_of c.with_death-cell.result)
    c.find_in-at.result c.find_past.result c.requires.leaf c.requires.rules
    c.find_in-at.ensures c.find_past.ensures c.if-at-find_past.false c.ranges.death.fits
    (λ e there. c.with_death-cell.ensures ∙ ap (λ (y : Entry). ended c.args.death y)
    (one_there c.args.view.now.cells c.find_in-at.result _ e at_cell there)) in
    answered (EndsCell (bound_at c.args.key.now c.args.birth) c.args.death c.args.view.now.cells)
    (IsMissing (bound_at c.args.key.now c.args.birth) c.args.view.now.cells) c.args.view.now _ c.put_in.result c.requires.leaf
    done.0 done.1 c.put_in.ensures
