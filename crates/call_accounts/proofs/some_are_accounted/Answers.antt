use Rattle.call_accounts.proofs.Witness.{is_sample_accounted}
use Rattle.call_accounts.proofs.some_are_accounted.Goals as goal

pub returns : goal.returns
returns c = is_sample_accounted
