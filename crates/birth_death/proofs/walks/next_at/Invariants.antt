use Rattle.birth_death.proofs.Nexts.{Walked}
use Rattle.birth_death.proofs.walks.next_at.Given as goal

abbrev pub invariant-loop-turn : goal.invariant-loop-turn
invariant-loop-turn g l = Walked l.at l.after l.last (g.G.Pages.state l.initial.pages) (g.G.Pages.state l.pages)
