use Rattle.std.proofs.Common.{◌-◌}
use Rattle.btree_search.proofs.Backs.{Behind}
use Rattle.btree_search.proofs.Walks.{Passing}
use Rattle.btree_search.proofs.walk.+walk_back.Given as goal

abbrev pub decreases-walk_back : goal.decreases-walk_back
decreases-walk_back g l = l.view.now.level

abbrev pub invariant-loop-back : goal.invariant-loop-back
invariant-loop-back g l =
    Passing (Behind (record { key = l.key; birth = l.birth }) l.view.cells (l.past - l.back)) (g.G.Pages.state l.initial.pages)
    (g.G.Pages.state l.pages) l.view
