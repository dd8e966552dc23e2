use Rattle.std.proofs.Common.{◌≡◌, subst, arith}
use Rattle.paxos_group.specs.Scene.{scene}
use Rattle.paxos_group.specs.Steps.{IsFreshOf, ReachesBelow}
use Rattle.paxos_group.proofs.Going.{goes-trans, reaches_next}
use Rattle.paxos_group.proofs.Enduring.{endures_trans}
use Rattle.paxos_group.proofs.net.Net.send_all.Goals as goal

pub loop-replica-preserved : goal.loop-replica-preserved
loop-replica-preserved g c =
    let w = g.W.Weather in
    let old = scene w.told c.args.weather.now c.args.self.now c.args.proposer.now in
    let mid = scene w.told c.loop-replica.weather c.loop-replica.self c.loop-replica.proposer in
    let new = scene w.told c.send.new.weather c.send.new.self c.send.new.proposer in
    let m = c.args.message.now in
    let before = c.loop-replica.invariant in
    record {
      endures = endures_trans w.told c.args.weather.now c.loop-replica.weather c.send.new.weather
          c.loop-replica.invariant.endures c.send.ensures.endures;
      goes = goes-trans (λ x. IsFreshOf x m) (λ x. IsFreshOf x m) old mid new before.goes c.send.ensures.goes
          (λ x h k given. given);
      reaches = reaches_next c.loop-replica.replica m old mid new before.goes c.send.ensures.goes before.reaches
          c.in_ok-send.ensures.reaches;
    }

pub returns-clause-reaches : goal.returns-clause-reaches
returns-clause-reaches g c =
    let w = g.W.Weather in
    let old = scene w.told c.args.weather.now c.args.self.now c.args.proposer.now in
    let new = scene w.told c.loop-replica.weather c.loop-replica.self c.loop-replica.proposer in
    let all : c.loop-replica.replica ≡ c.args.replicas = omega arith in
    subst (λ k. ReachesBelow k c.args.message.now old new) all c.loop-replica.invariant.reaches

pub returns-in_err-send-clause-endures : goal.returns-in_err-send-clause-endures
returns-in_err-send-clause-endures g c =
    let w = g.W.Weather in
    endures_trans w.told c.args.weather.now c.loop-replica.weather c.send.new.weather c.loop-replica.invariant.endures
    c.send.ensures.endures

pub returns-clause-endures : goal.returns-clause-endures
returns-clause-endures g c = c.loop-replica.invariant.endures
