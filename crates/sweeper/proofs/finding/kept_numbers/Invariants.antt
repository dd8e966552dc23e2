-- So far these numbers were found.
use Rattle.std.proofs.Common.{◌-◌, length}
use Rattle.sweeper.proofs.Numbered.{HasFound}
use Rattle.sweeper.proofs.finding.kept_numbers.Given as goal

abbrev pub invariant-numbers : goal.invariant-numbers
invariant-numbers g l = HasFound g.P.Pairs.told l.initial.pairs l.pairs l.kept.items l.after

abbrev pub decreases-numbers : goal.decreases-numbers
decreases-numbers g l = 1024 - length l.kept.items
