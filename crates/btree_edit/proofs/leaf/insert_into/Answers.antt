use Rattle.btree_edit.specs.Changes.{InsertsCell}
use Rattle.btree_edit.proofs.Placed.{refused_so, inserted_leaf, answered_at}
use Rattle.btree_edit.proofs.leaf.insert_into.Goals as goal

pub returns-then-at-find_past : goal.returns-then-at-find_past
returns-then-at-find_past c =
    let h = rw c.as_slice.ensures at c.find_in-at.ensures in
    let k = rw c.as_slice-2.ensures at c.find_past.ensures in
    refused_so _ c.args.view.now.cells c.find_in-at.result c.find_past.result h k c.if-at-find_past.true

pub put_in-requires-clause-within : goal.put_in-requires-clause-within
put_in-requires-clause-within c = c.find_in-at.ensures.within

pub put_in-requires-clause-nearly : goal.put_in-requires-clause-nearly
put_in-requires-clause-nearly c =
    let h = rw c.as_slice.ensures at c.find_in-at.ensures in
    let k = rw c.as_slice-2.ensures at c.find_past.ensures in
    (inserted_leaf c.args.q.now c.args.view.now _ c.find_in-at.result c.find_past.result c.requires.leaf c.requires.rules h k
    c.if-at-find_past.false c.cell_of.ensures.cell c.cell_of.ensures.fits).1

pub returns-in-Ok : goal.returns-in-Ok
returns-in-Ok c =
    let h = rw c.as_slice.ensures at c.find_in-at.ensures in
    let k = rw c.as_slice-2.ensures at c.find_past.ensures in
    let done = inserted_leaf c.args.q.now c.args.view.now _ c.find_in-at.result c.find_past.result c.requires.leaf
    c.requires.rules h k c.if-at-find_past.false c.cell_of.ensures.cell c.cell_of.ensures.fits in
    answered_at (InsertsCell c.args.q.now c.args.view.now.cells) ⊥ c.args.view.now _ c.in-Ok.edited c.requires.leaf done.0 done.1
    c.in-Ok.ensures
