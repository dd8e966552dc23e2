use Rattle.nfs3_res.specs.Listing.{marked}
use Rattle.nfs3_res.proofs.Lists.{Added}
use Rattle.nfs3_res.proofs.items.put_items.Given as goal

abbrev pub invariant-loop-item : goal.invariant-loop-item
invariant-loop-item g l = Added (marked g.T.ListItem.grammar) l.items l.item-index l.fn.out l.out
