use Rattle.birth_death.proofs.Spending.{Walked}
use Rattle.birth_death.proofs.purges.find_spent.Given as goal

abbrev pub invariant-loop-turn : goal.invariant-loop-turn
invariant-loop-turn g l = Walked l.kept l.from l.found (g.G.Pages.state l.fn.pages) (g.G.Pages.state l.pages)
