use Rattle.fs_sound.proofs.First.{first_sound}
use Rattle.fs_sound.proofs.sound.first_tree_is_sound.Goals as goal

pub returns : goal.returns
returns c = λ fsid verifier first le. first_sound fsid verifier first (c.first_tree_has_bounds.ensures fsid verifier first le)
