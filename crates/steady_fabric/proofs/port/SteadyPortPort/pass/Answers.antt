use Rattle.std.proofs.Common.{◌≤◌, ◌-◌, subst}
use Rattle.fabric.proofs.Porting.{port_formed}
use Rattle.steady_fabric.proofs.port.SteadyPortPort.pass.Goals as goal

pub returns-clause-formed : goal.returns-clause-formed
returns-clause-formed g c =
    let i = c.args.self.now in
    port_formed (record { fabric = i.fabric; pass = i.pass; doubts = i.fabric.doubts - i.doubts_before; stops = i.stops })
    (subst (λ n. 1 ≤ n) c.stores-stores.ensures.stores c.stores-stores.ensures.some) c.journal-journal.ensures.most
