use Rattle.std.proofs.lemmas.List.{drop-drop}
use Rattle.outside.proofs.plan.Plan.skip.Goals as goal

pub returns-then-self-len : goal.returns-then-self-len
returns-then-self-len c = rw (← c.self.view_is) (rw drop-drop)
