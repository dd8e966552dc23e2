use Rattle.std.proofs.Common.{◌≡◌, ◌+◌, take}
use Rattle.std.specs.List.{sum_by}
use Rattle.nfs3_res.proofs.items.items_size.Given as goal

abbrev pub invariant-loop-item : goal.invariant-loop-item
invariant-loop-item g l = l.size ≡ sum_by (λ x. 4 + g.T.ListItem.grammar.size x) (take l.item-index l.items)
