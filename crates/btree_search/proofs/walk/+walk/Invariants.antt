use Rattle.btree_search.proofs.Walks.{Passing, Forwards}
use Rattle.btree_search.proofs.Ways.{Unmet}
use Rattle.btree_search.proofs.walk.+walk.Given as goal

abbrev pub decreases-walk : goal.decreases-walk
decreases-walk g l = l.view.now.level

abbrev pub invariant-loop-i : goal.invariant-loop-i
invariant-loop-i g l = Passing (Forwards l.aim (record { key = l.key; birth = l.birth }) l.view.cells l.i)
    (g.G.Pages.state l.initial.pages) (g.G.Pages.state l.pages) l.view
    × Unmet l.aim (record { key = l.key; birth = l.birth }) (g.G.Pages.state l.pages) l.view l.i
