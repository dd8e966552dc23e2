use Rattle.std.proofs.Common.{None, subst, sym}
use Rattle.fabric.specs.Shown.{port_of}
use Rattle.two_phase.specs.Commits.{IsReady}
use Rattle.commit_checks.specs.Rights.{any_stands, any_next}
use Rattle.commit_checks.proofs.overtaken.conclude_by.Goals as goal

pub conclude-committed-requires : goal.conclude-committed-requires
conclude-committed-requires c =
    subst
    (λ p. IsReady any_stands any_next (port_of p) c.args.tid (record { home = c.args.home; parts = c.args.listed.now }) None)
    (sym c.new-port.ensures) c.requires
