-- An extent that says something counts, or it does not.
use Rattle.std.proofs.Common.{sym}
use Rattle.std.specs.Prelude.{option_map}
use Rattle.extent_ops.specs.Marking.{as_marks}
use Rattle.sweeper.proofs.Staling.{stale-or}
use Rattle.sweeper.proofs.steps.is_stale.Goals as goal

pub returns-in-Some : goal.returns-in-Some
returns-in-Some c =
    stale-or c.counts.result (option_map as_marks c.args.marks) c.args.index c.args.value.now c.in-Some.extent
    (sym c.in-Some.ensures) (c.counts.ensures c.in-Some.extent.number)
