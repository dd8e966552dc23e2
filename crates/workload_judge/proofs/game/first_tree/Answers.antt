use Rattle.workload_judge.specs.Played.{played}
use Rattle.workload_judge.proofs.game.first_tree.Goals as goal

pub returns : goal.returns
unfolding played
returns c = λ number rough. c.new.ensures
