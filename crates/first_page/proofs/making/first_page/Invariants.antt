-- So far the page has the first record and those of the lanes before this one.
use Rattle.std.proofs.Common.{◌≡◌}
use Rattle.first_page.proofs.Adding.{page_of}
use Rattle.first_page.proofs.Lanes.{before_lane}
use Rattle.first_page.proofs.making.first_page.Given as goal

abbrev pub invariant-loop-lane : goal.invariant-loop-lane
invariant-loop-lane l = l.page ≡ page_of (before_lane l.fsid l.fn.verifier l.lane)
