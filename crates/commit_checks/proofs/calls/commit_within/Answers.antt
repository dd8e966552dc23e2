use Rattle.page_types.specs.Fused.{inner_of, stops_of}
use Rattle.fabric.specs.Shown.{port_of}
use Rattle.commit_checks.proofs.Assembling.{may_fused}
use Rattle.commit_checks.proofs.calls.commit_within.Goals as goal

pub commit-requires : goal.commit-requires
commit-requires c =
    may_fused (port_of (inner_of c.args.port.now)) (stops_of c.args.port.now) c.args.tid c.args.parts.now c.requires
