use Rattle.std.proofs.Common.{◌≡◌, ◌≤◌, ◌-◌, subst}
use Rattle.page_types.specs.Ports.{IsPort}
use Rattle.fabric.specs.Shown.{port_of}
use Rattle.fabric.proofs.Porting.{port_formed}
use Rattle.fabric.proofs.owned.OwnedPortPort.pass.Goals as goal

pub returns-clause-formed : goal.returns-clause-formed
returns-clause-formed g c =
    let i = c.self.inside in
    subst (λ p. IsPort (port_of p)) c.self.view_is
    (port_formed (record { fabric = i.fabric; pass = i.pass; doubts = i.fabric.doubts - i.doubts_before; stops = i.stops })
    (subst (λ n. 1 ≤ n) c.stores-stores.ensures.stores c.stores-stores.ensures.some) c.journal-journal.ensures.most)
