use Rattle.std.proofs.Common.{arith}
use Rattle.service.proofs.CallerWords.{cred_is}
use Rattle.service.proofs.one_call.own_caller.Goals as goal

pub returns : goal.returns
returns c = cred_is c.own_cred.result c.args.uid c.args.gid c.args.gids.now c.requires (λ i. omega (arith, c.type_inv.gids i))
    c.own_cred.ensures.uid c.own_cred.ensures.gid c.own_cred.ensures.gids
