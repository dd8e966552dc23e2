use Rattle.std.proofs.Common.{arith}
use Rattle.nfs3_res.proofs.Refusals.{is_bare}
use Rattle.rpc_route.proofs.seals.seal_bare.Goals as goal

pub seal-requires : goal.seal-requires
seal-requires c = (is_bare c.args.procedure c.args.status c.requires.first c.requires.last c.requires.failed).spelled

pub unreachable-requires : goal.unreachable-requires
unreachable-requires c =
    let short = (is_bare c.args.procedure c.args.status c.requires.first c.requires.last c.requires.failed).short in
    let never = c.in_default.ensures.room (omega (arith, short, c.requires.room)) in
    absurd cc
