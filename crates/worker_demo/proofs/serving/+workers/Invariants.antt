use Rattle.std.proofs.Common.{◌+◌, ◌-◌, ◌*◌}
use Rattle.worker_demo.proofs.serving.+workers.Given as goal

abbrev pub decreases-crew : goal.decreases-crew
decreases-crew g l = 2 * (l.last - l.number)

abbrev pub decreases-join+arg3 : goal.decreases-join+arg3
decreases-join+arg3 g l = 2 * (l.last - l.next) + 1
