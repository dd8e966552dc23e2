use Rattle.std.proofs.Common.{arith}
use Rattle.rpc_msg.proofs.Auth.{gives_words}
use Rattle.rpc_msg.proofs.credential.read_gids.Goals as goal

pub returns-clause-gives : goal.returns-clause-gives
returns-clause-gives c = gives_words c.in_ok-n.n _ _ _ _ c.in_ok-n.ensures.gives (omega arith) c.fixed.ensures.gives
