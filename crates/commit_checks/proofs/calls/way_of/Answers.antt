use Rattle.std.proofs.Common.{◌≡◌, refl, subst, sym}
use Rattle.fabric.specs.Shown.{port_of}
use Rattle.commit_checks.specs.Rights.{MayCommit}
use Rattle.commit_checks.proofs.Assembling.{may_be}
use Rattle.commit_checks.proofs.calls.way_of.Goals as goal

pub returns : goal.returns
returns c =
    subst (λ p. MayCommit (port_of p) c.args.tid c.args.parts.now) (sym c.new.ensures)
    (may_be (record { fabric = c.args.fabric; pass = c.args.tid.pass; doubts = 0; stops = 0 }) c.args.tid c.args.parts.now
    refl c.requires)
