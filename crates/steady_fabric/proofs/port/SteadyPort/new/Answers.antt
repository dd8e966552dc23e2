use Rattle.fabric.specs.Shown.{past}
use Rattle.steady_fabric.proofs.Since.{since_new}
use Rattle.steady_fabric.proofs.port.SteadyPort.new.Goals as goal

pub invariant_of-result : goal.invariant_of-result
invariant_of-result g c = record {
  since = since_new c.doubts-doubts_before.result c.args.fabric.doubts c.doubts-doubts_before.ensures.doubts;
  steady = c.lawful_is_steady.ensures c.args.fabric.origin (past c.args.fabric) c.journal-journal.ensures.lawful
      c.args.pass;
}
