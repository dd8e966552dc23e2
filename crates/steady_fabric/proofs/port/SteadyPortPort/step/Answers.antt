use Rattle.std.proofs.Common.{◌≤◌, ◌-◌, sym, subst}
use Rattle.page_types.specs.Ports.{Steps}
use Rattle.fabric.specs.Settled.{doubts_in}
use Rattle.fabric.specs.Shown.{past, port_of}
use Rattle.fabric.proofs.Porting.{port_steps}
use Rattle.steady_fabric.proofs.Since.{since_more}
use Rattle.steady_fabric.proofs.port.SteadyPortPort.step.Goals as goal

pub invariant_of-self : goal.invariant_of-self
invariant_of-self g c =
    let i = c.args.self.now in
    let s = c.step-answered in
    record {
      since = since_more i.doubts_before i.fabric.doubts s.new.self.doubts (doubts_in s.result) i.since s.ensures.doubts;
      steady = c.lawful_is_steady.ensures s.new.self.origin (past s.new.self) c.journal-journal.ensures.lawful i.pass;
    }

pub returns : goal.returns
returns g c =
    let i = c.args.self.now in
    let s = c.step-answered in
    subst (λ n. Steps
    (port_of (record { fabric = i.fabric; pass = i.pass; doubts = i.fabric.doubts - i.doubts_before; stops = i.stops }))
    (port_of (record { fabric = s.new.self; pass = i.pass; doubts = s.new.self.doubts - i.doubts_before; stops = n }))
    c.args.store c.args.command.now s.result) (sym c.counted-stops.ensures.count)
    (port_steps g.W.Weather.told i.fabric s.new.self i.pass c.args.store c.args.command.now i.doubts_before i.stops
    i.since s.result c.counted-stops.ensures.in_range s.ensures.step s.ensures.answer s.ensures.doubts s.ensures.origin
    s.ensures.stopped (subst (λ n. 1 ≤ n) c.stores-stores.ensures.stores c.stores-stores.ensures.some)
    c.journal-journal.ensures.most)
