use Rattle.workload_judge.proofs.Games.{goes_on, turned}
use Rattle.workload_judge.proofs.game.take_turn.Goals as goal

pub returns : goal.returns
returns c = λ number rough to.
    let asked = c.in_ok-call.ensures.next number rough _ to.driver_at in
    let learned = c.learn.ensures.first number rough _ asked in
    let done = c.in_ok-reply.ensures.ok in
    turned number rough c.args.before _ _
    (goes_on number rough c.args.before c.in_ok-call.call _ _ c.in_ok-reply.reply _ to.tree_is
    (c.in_ok-call.ensures.call number rough _ to.driver_at) done.reply_is done.tree_is learned)
