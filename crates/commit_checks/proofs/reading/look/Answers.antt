use Rattle.std.proofs.Common.{subst, sym}
use Rattle.fabric.specs.Shown.{port_of}
use Rattle.commit_checks.specs.Rights.{IsOn, IsLater}
use Rattle.commit_checks.proofs.Overtaking.{later_none, later_of}
use Rattle.commit_checks.proofs.reading.look.Goals as goal

pub returns-then-slot-stores : goal.returns-then-slot-stores
returns-then-slot-stores c = later_none c.args.fabric

pub returns : goal.returns
returns c =
    subst (λ f. IsLater c.args.fabric f) (sym c.part.ensures)
    (later_of (record { fabric = c.args.fabric; pass = c.args.pass; doubts = 0; stops = 0 }) c.see-sight.new.port
    (subst (λ p. IsOn (port_of p) (port_of c.see-sight.new.port)) c.new-port.ensures c.see-sight.ensures))
