use Rattle.fs_sound.proofs.Joined.{calls_keep}
use Rattle.fs_sound.proofs.sound.calls_keep_trees_sound.Goals as goal

pub returns : goal.returns
returns c = λ t a low s. calls_keep t a low s (c.calls_keep_bounds.ensures t a low s.bounds)
