use Rattle.std.proofs.Common.{◌+◌, ◌-◌, ◌/◌, arith, sym, ◌∙◌}
use Rattle.btree_search.proofs.Halving.{between_low, between_high, some_there}
use Rattle.btree_search.proofs.find.first_sought.Goals as goal

pub loop-low-preserved-then-is_sought_at : goal.loop-low-preserved-then-is_sought_at
loop-low-preserved-then-is_sought_at c =
    let middle = c.loop-low.low + (c.loop-low.high - c.loop-low.low) / 2 in
    let x = some_there c.args.view.now.cells middle (omega (arith, c.loop-low.invariant.within)) in
    between_low _ c.args.aim _ c.args.view.now.cells c.loop-low.low c.loop-low.high middle x.0 c.count-high.ensures.rules.cells
    c.loop-low.invariant (omega arith) (omega arith) x.1 (sym (c.is_sought_at.ensures x.0 x.1) ∙ c.if-is_sought_at.true)

pub loop-low-preserved : goal.loop-low-preserved
loop-low-preserved c =
    let middle = c.loop-low.low + (c.loop-low.high - c.loop-low.low) / 2 in
    let x = some_there c.args.view.now.cells middle (omega (arith, c.loop-low.invariant.within)) in
    between_high _ c.args.aim _ c.args.view.now.cells c.loop-low.low c.loop-low.high middle x.0 c.count-high.ensures.rules.cells
    c.loop-low.invariant (omega arith) (omega arith) x.1 (sym (c.is_sought_at.ensures x.0 x.1) ∙ c.if-is_sought_at.false)
