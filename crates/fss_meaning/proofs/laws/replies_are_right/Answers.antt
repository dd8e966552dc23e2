use Rattle.birth_death.specs.Shows.{Seat}
use Rattle.fss_meaning.proofs.Right.{replied-right}
use Rattle.fss_meaning.proofs.laws.replies_are_right.Goals as goal

pub returns : goal.returns
returns c = λ old new asked reply e low runs answers of.
    replied-right (λ (s : Seat). s) old new runs asked reply e
    (λ t sound. c.calls_keep_trees_sound.ensures t asked low sound) answers of
