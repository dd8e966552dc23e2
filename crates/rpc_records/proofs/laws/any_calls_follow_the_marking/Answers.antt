use Rattle.rpc_records.proofs.StreamLaws.{runs-follow, runs-same}
use Rattle.rpc_records.proofs.laws.any_calls_follow_the_marking.Goals as goal

pub returns-clause-follow : goal.returns-clause-follow
returns-clause-follow c = runs-follow

pub returns-clause-agree : goal.returns-clause-agree
returns-clause-agree c = runs-same
