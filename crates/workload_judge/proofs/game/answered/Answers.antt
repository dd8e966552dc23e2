use Rattle.workload_judge.proofs.game.answered.Goals as goal

pub returns : goal.returns
returns c = rw c.caller.ensures at c.answer.ensures
