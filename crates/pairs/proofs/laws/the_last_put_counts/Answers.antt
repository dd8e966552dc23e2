use Rattle.pairs.proofs.LivesLaws.{put-again}
use Rattle.pairs.proofs.laws.the_last_put_counts.Goals as goal

pub returns : goal.returns
returns c epoch first last ls early are = put-again epoch 0 first last ls early are
