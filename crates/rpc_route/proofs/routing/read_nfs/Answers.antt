use Rattle.std.proofs.Common.{◌≤◌, ℕ, subst, sym}
use Rattle.rpc_route.proofs.Steps.{number_small, read_by_number}
use Rattle.rpc_route.proofs.routing.read_nfs.Goals as goal

pub read_args-requires : goal.read_args-requires
read_args-requires c = subst (λ (n : ℕ). n ≤ 21) (sym c.number.ensures) (number_small c.args.procedure)

pub returns : goal.returns
returns c = read_by_number c.args.procedure c.number.result c.args.args.now c.read_args.result c.number.ensures
    c.read_args.ensures.gives
