use Rattle.std.proofs.Common.{arith, ◌≡◌, ◌^◌, ◌<◌, ◌≤◌, ◌-◌, sym, subst}
use Rattle.page_types.specs.Ports.{Steps}
use Rattle.fabric.specs.Shown.{port_of}
use Rattle.fabric.proofs.Porting.{port_steps}
use Rattle.fabric.proofs.owned.OwnedPortPort.step.Goals as goal

pub returns : goal.returns
returns g c =
    let i = c.self.inside in
    let s = c.step-answered in
    let fits : i.stops < 2 ^ 64 = omega arith in
    subst (λ p. Steps (port_of p) (port_of (record {
      fabric = s.new.self;
      pass = i.pass;
      doubts = s.new.self.doubts - i.doubts_before;
      stops = c.counted-self-inside.result;
    })) c.args.store c.args.command.now s.result) c.self.view_is
    (subst (λ n. Steps
    (port_of (record { fabric = i.fabric; pass = i.pass; doubts = i.fabric.doubts - i.doubts_before; stops = i.stops }))
    (port_of (record { fabric = s.new.self; pass = i.pass; doubts = s.new.self.doubts - i.doubts_before; stops = n }))
    c.args.store c.args.command.now s.result) (sym c.counted-self-inside.ensures)
    (port_steps g.W.Weather.told i.fabric s.new.self i.pass c.args.store c.args.command.now i.doubts_before i.stops
    c.self.invariant s.result fits s.ensures.step s.ensures.answer s.ensures.doubts s.ensures.origin s.ensures.stopped
    (subst (λ n. 1 ≤ n) c.stores-stores.ensures.stores c.stores-stores.ensures.some) c.journal-journal.ensures.most))
