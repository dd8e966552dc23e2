use Rattle.std.proofs.Common.{arith}
use Rattle.workload_judge.specs.Played.{played}
use Rattle.workload_judge.proofs.Games.{calls_are}
use Rattle.workload_judge.proofs.game.play.Goals as goal

pub loop-before-init : goal.loop-before-init
unfolding played
loop-before-init c = record { tree_is = c.in_ok-tree.ensures c.args.number 0; driver_at = c.in_ok-driver.ensures }

pub take_turn-requires-clause-room : goal.take_turn-requires-clause-room
take_turn-requires-clause-room c =
    let made = calls_are c.args.number 0 c.loop-before.before _ _ c.loop-before.invariant in
    omega (arith, made)
