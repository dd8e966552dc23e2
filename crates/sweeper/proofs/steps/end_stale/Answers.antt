-- The marks are read, and the extent is ended where it does not count.
use Rattle.std.proofs.Common.{◌≡◌}
use Rattle.std.specs.Prelude.{⊤, option_map}
use Rattle.fs_shows.specs.Shows.{live_marks}
use Rattle.fs_shows.proofs.Doing.{up-behind-read, up-read}
use Rattle.extent_ops.specs.Marking.{as_marks}
use Rattle.sweeper.proofs.steps.end_stale.Goals as goal

pub returns-in-Err-end_extent-clause-fault : goal.returns-in-Err-end_extent-clause-fault
returns-in-Err-end_extent-clause-fault g c =
    up-behind-read g.P.Pairs.told c.args.pairs.now c.marks_of.new.pairs c.end_extent.new.pairs 0 0
    (λ v. live_marks v c.args.file ≡ option_map as_marks c.in-Ok.marks) (λ t. ⊤) c.in-Err-end_extent.fault
    c.marks_of.ensures.goes c.end_extent.ensures.goes c.in-Ok.ensures.ok
    (up-read g.P.Pairs.told c.marks_of.new.pairs c.end_extent.new.pairs (λ t. ⊤) c.in-Err-end_extent.fault
    c.in-Err-end_extent.ensures.fault)
