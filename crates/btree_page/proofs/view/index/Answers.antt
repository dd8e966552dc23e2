use Rattle.std.proofs.Common.{◌≡◌, ◌<◌, ◌≤◌, ℕ, List, length, arith, refl, ap}
use Rattle.btree_page.specs.Cells.{entry_of}
use Rattle.btree_page.proofs.Index.{indexed_none, indexed_more, index_ends}
use Rattle.btree_page.proofs.view.index.Goals as goal

pub loop-i-init : goal.loop-i-init
loop-i-init c = indexed_none _ _ _ refl

pub loop-i-preserved : goal.loop-i-preserved
loop-i-preserved c =
    let long : length c.loop-i.cursor.text ≡ length c.args.cursor.now.text =
    ap (λ (xs : List ℕ). length xs) c.loop-i.invariant.text in
    let within : c.loop-i.i < 410 = omega (
      arith,
      c.loop-i.invariant.room,
      c.loop-i.invariant.text,
      c.place.ensures.place,
      c.place.ensures.within,
    ) in
    let place_within : c.loop-i.cursor.place ≤ length c.loop-i.cursor.text =
    omega (arith, c.place.ensures.place, c.place.ensures.within) in
    indexed_more c.args.is_leaf c.loop-i.i c.args.cursor.now c.loop-i.cursor c.cell.new.cursor _ c.loop-i.places
    (entry_of c.in-Ok.cell)
    c.loop-i.invariant c.in-Ok.ensures.gives c.in-Ok.ensures.text within c.place.result c.place.ensures.place place_within _
    c.bound.ensures

pub returns-in-Err-clause-fault : goal.returns-in-Err-clause-fault
returns-in-Err-clause-fault c =
    index_ends c.args.is_leaf c.loop-i.i c.args.count c.args.cursor.now c.loop-i.cursor _ c.loop-i.places c.in-Err.fault
    c.loop-i.invariant c.in-Err.ensures.gives c.loop-i-test.true
