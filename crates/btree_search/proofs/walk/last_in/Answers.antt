use Rattle.std.proofs.Common.{◌-◌, refl}
use Rattle.btree_search.proofs.Leaves.{no_leaf_cell, record_limits}
use Rattle.btree_search.proofs.walk.last_in.Goals as goal

pub copy_of-requires : goal.copy_of-requires
copy_of-requires c =
    let there = rw c.in-Some-Leaf.field-0-is at c.in-Some-Leaf.ensures.cell in
    let limits = record_limits c.args.view.now (c.first_sought-past.result - 1) _ _ _ _ _ c.first_sought-past.ensures.rules there
    refl in
    record { key = limits.0; value = limits.1 }

pub returns-in-Some-Inner-clause-fault : goal.returns-in-Some-Inner-clause-fault
returns-in-Some-Inner-clause-fault c =
    let there = rw c.in-Some-Inner.field-0-is at c.in-Some-Inner.ensures.cell in
    λ quads is. no_leaf_cell c.args.view.now.cells (c.first_sought-past.result - 1) _ quads c.in-Some-Inner.field-0-2 there refl
    is
