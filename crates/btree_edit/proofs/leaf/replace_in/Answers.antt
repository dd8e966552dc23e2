use Rattle.std.proofs.Common.{◌+◌, arith}
use Rattle.btree_page.specs.Tree.{quad_bound}
use Rattle.btree_edit.specs.Changes.{ReplacesCell, IsMissing}
use Rattle.btree_edit.proofs.Lists.{few_cells}
use Rattle.btree_edit.proofs.Leaves.{none_at, found_at}
use Rattle.btree_edit.proofs.Placed.{replaced_leaf, answered}
use Rattle.btree_edit.proofs.leaf.replace_in.Goals as goal

pub returns-then-at-find_past : goal.returns-then-at-find_past
returns-then-at-find_past c =
    let h = rw c.as_slice.ensures at c.find_in-at.ensures in
    let k = rw c.as_slice-2.ensures at c.find_past.ensures in
    none_at _ c.args.view.now.cells c.find_in-at.result c.find_past.result h k c.if-at-find_past.true

pub overflow_add-at : goal.overflow_add-at
overflow_add-at c =
    let h = rw c.as_slice.ensures at c.find_in-at.ensures in
    let k = rw c.as_slice-2.ensures at c.find_past.ensures in
    let found = found_at _ c.args.view.now.cells c.find_in-at.result c.find_past.result h k c.if-at-find_past.false in
    omega (arith, found.0, few_cells c.args.view.now c.requires.rules)

pub put_in-requires-clause-within : goal.put_in-requires-clause-within
put_in-requires-clause-within c =
    let h = rw c.as_slice.ensures at c.find_in-at.ensures in
    let k = rw c.as_slice-2.ensures at c.find_past.ensures in
    let found = found_at _ c.args.view.now.cells c.find_in-at.result c.find_past.result h k c.if-at-find_past.false in
    omega (arith, found.0)

pub put_in-requires-clause-nearly : goal.put_in-requires-clause-nearly
put_in-requires-clause-nearly c =
    let h = rw c.as_slice.ensures at c.find_in-at.ensures in
    let k = rw c.as_slice-2.ensures at c.find_past.ensures in
    (replaced_leaf c.args.q.now c.args.view.now _ c.find_in-at.result c.find_past.result c.requires.leaf c.requires.rules h k
    c.if-at-find_past.false c.cell_of.ensures.cell c.cell_of.ensures.fits).1

pub returns : goal.returns
returns c =
    let h = rw c.as_slice.ensures at c.find_in-at.ensures in
    let k = rw c.as_slice-2.ensures at c.find_past.ensures in
    let done = replaced_leaf c.args.q.now c.args.view.now _ c.find_in-at.result c.find_past.result c.requires.leaf
    c.requires.rules h k c.if-at-find_past.false c.cell_of.ensures.cell c.cell_of.ensures.fits in
    answered (ReplacesCell c.args.q.now c.args.view.now.cells) (IsMissing (quad_bound c.args.q.now) c.args.view.now.cells)
    c.args.view.now _ c.put_in.result c.requires.leaf done.0 done.1 c.put_in.ensures
