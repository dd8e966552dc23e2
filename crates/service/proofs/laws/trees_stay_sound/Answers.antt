use Rattle.std.proofs.Common.{arith}
use Rattle.service.proofs.SoundTrees.{tells_sound}
use Rattle.service.specs.Served.{fsid, made_at, verifier}
use Rattle.service.proofs.laws.trees_stay_sound.Goals as goal

pub returns : goal.returns
returns c = λ first new turns tells.
    tells_sound c.calls_keep_trees_sound.ensures (made_at first) new turns tells
    (c.first_tree_is_sound.ensures fsid verifier first (omega arith))
