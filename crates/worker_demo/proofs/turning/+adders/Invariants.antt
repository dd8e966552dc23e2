use Rattle.std.proofs.Common.{◌+◌, ◌-◌, ◌*◌}
use Rattle.worker_demo.proofs.turning.+adders.Given as goal

abbrev pub decreases-add_all : goal.decreases-add_all
decreases-add_all g l = 2 * (l.last - l.number)

abbrev pub decreases-join+arg3 : goal.decreases-join+arg3
decreases-join+arg3 g l = 2 * (l.last - l.next) + 1
