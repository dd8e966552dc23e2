use Rattle.fs_laws.proofs.CallsWithin.{calls_within}
use Rattle.fs_laws.proofs.bounds.calls_keep_bounds.Goals as goal

pub returns : goal.returns
returns c = calls_within
