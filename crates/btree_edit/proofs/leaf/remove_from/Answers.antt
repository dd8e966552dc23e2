use Rattle.btree_edit.specs.Edits.{bound_at}
use Rattle.btree_edit.proofs.Leaves.{none_at, found_at}
use Rattle.btree_edit.proofs.Placed.{removed_leaf, removed_answer}
use Rattle.btree_edit.proofs.leaf.remove_from.Goals as goal

pub returns-then-at-find_past : goal.returns-then-at-find_past
returns-then-at-find_past c = none_at _ c.args.view.now.cells c.find_in-at.result c.find_past.result c.find_in-at.ensures
    c.find_past.ensures c.if-at-find_past.true

pub without-requires-clause-within : goal.without-requires-clause-within
without-requires-clause-within c =
    (found_at _ c.args.view.now.cells c.find_in-at.result c.find_past.result c.find_in-at.ensures c.find_past.ensures
    c.if-at-find_past.false).0

pub without-requires-clause-rules : goal.without-requires-clause-rules
without-requires-clause-rules c =
    (removed_leaf (bound_at c.args.key.now c.args.birth) c.args.view.now c.find_in-at.result c.find_past.result c.requires.leaf
    c.requires.rules
    c.find_in-at.ensures c.find_past.ensures c.if-at-find_past.false).1

pub returns : goal.returns
returns c =
    removed_answer (bound_at c.args.key.now c.args.birth) c.args.view.now c.find_in-at.result c.find_past.result c.in_ok-page.page
    c.requires.leaf c.requires.rules
    c.find_in-at.ensures c.find_past.ensures c.if-at-find_past.false c.in_ok-page.ensures
