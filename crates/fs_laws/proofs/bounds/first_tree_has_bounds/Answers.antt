use Rattle.fs_laws.proofs.First.{first_has_bounds}
use Rattle.fs_laws.proofs.bounds.first_tree_has_bounds.Goals as goal

pub returns : goal.returns
returns c = first_has_bounds
